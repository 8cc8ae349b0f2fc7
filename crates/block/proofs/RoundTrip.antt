-- What was sealed at p opens at p with the same content, and a block of all zeros opens nowhere.
-- Assumes nothing.
use borrow.Author.Tests.{eq-eqb, le-leb}
use mathlib.Core.Path.{◌≡◌, refl, ◌∙◌}
use mathlib.Core.Bool.{Bool, true, false, ◌&&◌}
use mathlib.Core.List.{List}
use Prim.Native.Nat.{ℕ, ◌-◌, ◌≤◌, ◌<◌}
use native.Mathlib.Omega.{arith}
use lib.Dec.{eqb}
use lib.ListN.{length, get_or, take, drop, replicate, get_or-replicate}
use lib.Seq.{take_at, drop_at}
use Rattle.laws.specs.Choose.{pick}
use Rattle.aead.specs.Sealing.{sealed, opened, fits}
use Rattle.aead.proofs.Demand2.{open_seal}
use Rattle.block.specs.Content.{Content, shut, more, head, first, mark, eod, Shut, Used, Lawful, flag, kind_of, last_of, bytes_of}
use Rattle.block.specs.Format.{nonce_at, header, payload, number4, number2, all_zero, used_ok, content_of, block_of, seal_block, open_block}
use Rattle.block.proofs.NumberLaws.{length_header, header_number, header_kind, header_last, header_used}
use Rattle.block.proofs.PayloadLaws.{payload_is, payload_rest}

-- ---- lawful contents
used_few : (l : Bool) (b : List ℕ) → Used l b → length b ≤ 488
used_few true b u = u.2
used_few false b u = let e = u.1 in omega arith

pub lawful_few : (p : ℕ) (o : Content) → Lawful p o → length (bytes_of o) ≤ 488
lawful_few p shut u = absurd u
lawful_few p (more l b) u = used_few l b u
lawful_few p (head (first l b)) u = used_few l b u
lawful_few p (head mark) u = omega arith
lawful_few p (head eod) u = omega arith

used_ok_lem : (l : Bool) (b : List ℕ) → Used l b → used_ok (flag l) (length b) ≡ true
unfolding used_ok
used_ok_lem true b u = rw (le-leb 1 (length b) u.1, le-leb (length b) 488 u.2)
used_ok_lem false b u = eq-eqb (length b) 488 u.1

flag_back : (l : Bool) → eqb (flag l) 1 ≡ l
flag_back true = refl
flag_back false = refl

payload_front : (b : List ℕ) → length b ≤ 488 → take (length b) (payload b) ≡ b
payload_front b h = rw (payload_is b h) (take_at b (replicate (488 - length b) 0) (length b) refl)

-- header and payload of a lawful content say that content
pub content_back : (p : ℕ) (o : Content) → Lawful p o → content_of (kind_of o) (last_of o) (length (bytes_of o)) (payload (bytes_of o)) ≡ o
unfolding content_of
content_back p shut u = absurd u
content_back p (more l b) u = rw (payload_rest b (used_few l b u), used_ok_lem l b u, payload_front b (used_few l b u), flag_back l)
content_back p (head (first l b)) u = rw (payload_rest b (used_few l b u), used_ok_lem l b u, payload_front b (used_few l b u), flag_back l)
content_back p (head mark) u = let h = payload_rest (bytes_of (head mark)) (omega arith) in rw h
content_back p (head eod) u = let h = payload_rest (bytes_of (head mark)) (omega arith) in rw h

-- ---- any block that is sealed at p opens at p, as far as its header and payload are lawful
pub open_block_of : (key : List ℕ) (id recording p kind last : ℕ) (b : List ℕ) → p < 4294967296 → length b < 65536
    → open_block key id recording p (block_of key id recording p kind last b) ≡ content_of kind last (length b) (payload b)
unfolding open_block block_of
open_block_of key id recording p kind last b hp hb =
    let n = nonce_at id recording p in
    let h = header p kind last (length b) in
    let t = sealed key n h (payload b) in
    rw (
      take_at h t 8 (length_header p kind last (length b) t),
      drop_at h t 8 (length_header p kind last (length b) t),
      header_number p kind last (length b) t hp,
      header_kind p kind last (length b) t,
      header_last p kind last (length b) t,
      header_used p kind last (length b) t hb,
      eq-eqb p p refl,
      (open_seal key n h (payload b)).0,
      (open_seal key n h (payload b)).1,
    )

-- ---- what was sealed at p opens at p with the same content
pub open_seal_block : (key : List ℕ) (id recording p : ℕ) (o : Content) → p < 4294967296 → Lawful p o → open_block key id recording p (seal_block key id recording p o) ≡ o
unfolding seal_block
open_seal_block key id recording p o hp u =
    open_block_of key id recording p (kind_of o) (last_of o) (bytes_of o) hp (omega (arith, lawful_few p o u)) ∙ content_back p o u

-- ---- kind 0 is unlawful
kind_zero : (last used : ℕ) (m : List ℕ) → Shut (content_of 0 last used m)
unfolding content_of
kind_zero last used m = go (all_zero (drop used m)) (eqb last 0 && eqb used 0)
  where
    go : (t u : Bool) → Shut (pick t (pick u shut shut) shut)
    go true true = tt
    go true false = tt
    go false u = tt

pick_shut : (t : Bool) (o : Content) → Shut o → Shut (pick t o shut)
pick_shut true o h = h
pick_shut false o h = tt

pub kind_zero_shut : (key : List ℕ) (id recording p : ℕ) (b : List ℕ) → get_or b 4 0 ≡ 0 → Shut (open_block key id recording p b)
unfolding open_block
kind_zero_shut key id recording p b e =
    let m = opened key (nonce_at id recording p) (take 8 b) (drop 8 b) in
    pick_shut (eqb (number4 b 0) p && fits key (nonce_at id recording p) (take 8 b) (drop 8 b)) (content_of (get_or b 4 0) (get_or b 5 0) (number2 b 6) m)
    (rw e (kind_zero (get_or b 5 0) (number2 b 6) m))

-- a block of all zeros opens nowhere
pub zeros_shut : (key : List ℕ) (id recording p : ℕ) → Shut (open_block key id recording p (replicate 512 0))
zeros_shut key id recording p = kind_zero_shut key id recording p (replicate 512 0) (get_or-replicate 512 4 0 0 (omega arith))
