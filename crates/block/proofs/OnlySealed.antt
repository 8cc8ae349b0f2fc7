-- What opens was sealed: 512 bytes that open at p are the block that sealing writes there for what they open to.
-- Assumes nothing.
use borrow.Author.Tests.{eqb-true}
use mathlib.Core.Path.{◌≡◌, refl, sym, ap, ◌∙◌}
use mathlib.Core.Bool.{Bool, true, false, ◌&&◌}
use mathlib.Core.List.{List, ◌++◌}
use mathlib.Core.Logic.{◌⊎◌, inl, inr, ⊎_elim}
use Prim.Native.Nat.{ℕ}
use native.Mathlib.Omega.{arith}
use lib.Dec.{eqb, leb}
use lib.ListN.{length, get_or, take, drop, length-drop, take-append-drop}
use lib.Seq.{length-take-le}
use Rattle.laws.specs.Choose.{pick}
use Rattle.laws.specs.Lists.{AllBytes}
use Rattle.laws.proofs.ChooseLaws.{both_left, both_right}
use Rattle.aead.specs.Sealing.{sealed, opened, fits}
use Rattle.aead.proofs.Lengths.{length_opened}
use Rattle.aead.proofs.Demand2.{opens_only_sealed}
use Rattle.block.specs.Content.{Content, shut, Shut, flag, kind_of, last_of, bytes_of}
use Rattle.block.specs.Format.{nonce_at, header, payload, number4, number2, used_ok, content_of, block_of, seal_block, open_block}
use Rattle.block.proofs.NumberLaws.{header_back}
use Rattle.block.proofs.PayloadLaws.{payload_back}
use Rattle.block.proofs.ContentLaws.{none_used, used_most, content_cases}

-- o has the fields of a header and the payload m
record Has (kind last used : ℕ) (m : List ℕ) (o : Content) : Type 0 where
  pub kind_is : kind_of o ≡ kind
  pub last_is : last_of o ≡ last
  pub used_is : length (bytes_of o) ≡ used
  pub payload_is : payload (bytes_of o) ≡ m

flag_is : (last used : ℕ) → used_ok last used ≡ true → flag (eqb last 1) ≡ last
unfolding used_ok
flag_is last used = go (eqb last 0) refl (eqb last 1) refl
  where
    go : (t : Bool) → eqb last 0 ≡ t → (u : Bool) → eqb last 1 ≡ u
        → pick t (eqb used 488) (u && (leb 1 used && leb used 488)) ≡ true → flag u ≡ last
    go true a true b e = absurd (omega (arith, eqb-true last 0 a, eqb-true last 1 b))
    go true a false b e = sym (eqb-true last 0 a)
    go false a true b e = sym (eqb-true last 1 b)
    go false a false b e = let z : ◌≡◌ {A = ℕ} 0 1 = cc in absurd (omega arith)

has : {kind last used : ℕ} {m : List ℕ} (o : Content) → last_of o ≡ last → length (bytes_of o) ≡ used
    → payload (bytes_of o) ≡ m → kind ≡ kind_of o → Shut o ⊎ Has kind last used m o
has o l u b k = inr (record { kind_is = sym k; last_is = l; used_is = u; payload_is = b })

content_has : (kind last used : ℕ) (m : List ℕ) → length m ≡ 488
    → Shut (content_of kind last used m) ⊎ Has kind last used m (content_of kind last used m)
content_has kind last used m h =
    content_cases (λ o. Shut o ⊎ Has kind last used m o) kind last used m (inl tt)
    (λ z u.
    let k = used_most last used u in
    let l = length-take-le used m (omega arith) in
    let b = payload_back m used h k z in
    (has _ (flag_is last used u) l b, has _ (flag_is last used u) l b))
    (λ z e l. (has _ (sym e) (sym l) (none_used used m h z l), has _ (sym e) (sym l) (none_used used m h z l)))

sealed_of : (key : List ℕ) (id recording p : ℕ) {kind last used : ℕ} {m : List ℕ} (o : Content) → Has kind last used m o
    → header p kind last used ++ sealed key (nonce_at id recording p) (header p kind last used) m
    ≡ seal_block key id recording p o
unfolding seal_block block_of
sealed_of key id recording p o w = rw (w.kind_is, w.last_is, w.used_is, w.payload_is)

-- a block that opens is one that sealing writes
pub opens_only_sealed_block : (key : List ℕ) (id recording p : ℕ) (b : List ℕ) → AllBytes b → length b ≡ 512
    → (Shut (open_block key id recording p b) → ⊥) → b ≡ seal_block key id recording p (open_block key id recording p b)
unfolding open_block
opens_only_sealed_block key id recording p b bytes h = go (eqb (number4 b 0) p && fits key n (take 8 b) (drop 8 b)) refl
  where
    n : List ℕ
    n = nonce_at id recording p

    m : List ℕ
    m = opened key n (take 8 b) (drop 8 b)

    o : Content
    o = content_of (get_or b 4 0) (get_or b 5 0) (number2 b 6) m

    size : length m ≡ 488
    size = length_opened key n (take 8 b) (drop 8 b) ∙ omega (arith, length-drop 8 b)

    go : (t : Bool) → (eqb (number4 b 0) p && fits key n (take 8 b) (drop 8 b)) ≡ t
        → (Shut (pick t o shut) → ⊥) → b ≡ seal_block key id recording p (pick t o shut)
    go true e s =
        let i : number4 b 0 ≡ p = eqb-true (number4 b 0) p (both_left (eqb (number4 b 0) p) _ e) in
        let f = both_right (eqb (number4 b 0) p) (fits key n (take 8 b) (drop 8 b)) e in
        let x : header p (get_or b 4 0) (get_or b 5 0) (number2 b 6) ≡ take 8 b = rw (← i) (header_back b bytes (omega arith)) in
        sym (take-append-drop 8 b)
        ∙ ap (λ (r : List ℕ). take 8 b ++ r) (opens_only_sealed key n (take 8 b) (drop 8 b) f)
        ∙ ap (λ (a : List ℕ). a ++ sealed key n a m) (sym x)
        ∙ sealed_of key id recording p o
        (⊎_elim (λ z. absurd (s z)) (λ w. w) (content_has (get_or b 4 0) (get_or b 5 0) (number2 b 6) m size))
    go false e s = absurd (s tt)
