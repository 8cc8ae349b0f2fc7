-- What opens is lawful: of 512 bytes under a key of bytes, a block is shut or its content is one that could be sealed
-- there.
-- Assumes nothing.
use borrow.Author.Tests.{eqb-true, leb-true}
use mathlib.Core.Path.{◌≡◌, refl, ◌∙◌}
use mathlib.Core.Bool.{Bool, true, false, ◌&&◌}
use mathlib.Core.List.{List, ◌++◌}
use mathlib.Core.Logic.{◌⊎◌, inl, inr}
use Prim.Native.Nat.{ℕ, zero, suc, ◌-◌, ◌/◌}
use native.Mathlib.Nat.{mod-lt}
use native.Mathlib.Omega.{arith}
use lib.Dec.{eqb, leb, lit<}
use lib.ListN.{length, get_or, take, drop, replicate, length-drop, length-replicate}
use lib.Seq.{length-take-le}
use Rattle.laws.specs.Choose.{pick}
use Rattle.laws.specs.Lists.{AllBytes}
use Rattle.laws.proofs.ByteLaws.{bytes_zeros, bytes_take, bytes_drop, bytes_append}
use Rattle.laws.proofs.ChooseLaws.{both_left, both_right}
use Rattle.pi.proofs.StateLaws.{Full}
use Rattle.sponge.specs.Blink.{put, dec}
use Rattle.sponge.proofs.Bytes.{after_full, out_bytes}
use Rattle.aead.specs.Sealing.{keyed, cipher_of, opened_from, opened, fits}
use Rattle.aead.proofs.Lengths.{length_opened}
use Rattle.block.specs.Content.{shut, Shut, Used, Lawful}
use Rattle.block.specs.Format.{be4, be8, nonce_at, number4, number2, used_ok, content_of, open_block}
use Rattle.block.proofs.ContentLaws.{content_cases}

-- ---- bytes
be4_bytes : (x : ℕ) → AllBytes (be4 x)
be4_bytes x zero = mod-lt (x / 16777216) (lit< tt)
be4_bytes x (suc zero) = mod-lt (x / 65536) (lit< tt)
be4_bytes x (suc (suc zero)) = mod-lt (x / 256) (lit< tt)
be4_bytes x (suc (suc (suc zero))) = mod-lt x (lit< tt)
be4_bytes x (suc (suc (suc (suc k)))) = lit< tt

nonce_bytes : (id recording p : ℕ) → AllBytes (nonce_at id recording p)
unfolding nonce_at
nonce_bytes id recording p =
    bytes_append (be4 id) (be8 recording ++ be4 p) (be4_bytes id)
    (bytes_append (be8 recording) (be4 p)
    (bytes_append (be4 (recording / 4294967296)) (be4 recording) (be4_bytes (recording / 4294967296)) (be4_bytes recording)) (be4_bytes p))

module _ (key n a : List ℕ) (hk : AllBytes key) (hn : AllBytes n) (ha : AllBytes a) where
  keyed_full : Full (keyed key n a)
  unfolding keyed
  keyed_full =
      after_full put 0x40 _ a (lit< tt) (after_full put 0x20 _ n (lit< tt) (after_full put 0x10 (replicate 64 0) key (lit< tt) zero_full hk) hn) ha
    where
      zero_full : Full (replicate 64 0)
      zero_full = record { long = length-replicate {A = ℕ} 64 0; bytes = bytes_zeros 64 }

  opened_bytes : (t : List ℕ) → AllBytes t → AllBytes (opened key n a t)
  unfolding opened opened_from cipher_of
  opened_bytes t h = out_bytes dec 0x50 (keyed key n a) (cipher_of t) (lit< tt) keyed_full (bytes_take (length t - 16) t h)

-- ---- contents
module _ (last used : ℕ) (m : List ℕ) (h : length m ≡ 488) (g : AllBytes m) where
  front_bytes : AllBytes (take used m)
  front_bytes = bytes_take used m g

  used_lawful : used_ok last used ≡ true → Used (eqb last 1) (take used m)
  unfolding used_ok
  used_lawful = go (eqb last 0) refl (eqb last 1) refl
    where
      go : (t : Bool) → eqb last 0 ≡ t → (u : Bool) → eqb last 1 ≡ u → pick t (eqb used 488) (u && (leb 1 used && leb used 488)) ≡ true → Used u (take used m)
      go true a true b e = absurd (omega (arith, eqb-true last 0 a, eqb-true last 1 b))
      go true a false b e = let k = eqb-true used 488 e in (front_bytes, length-take-le used m (omega arith) ∙ k)
      go false a true b e =
          let k = leb-true 1 used (both_left (leb 1 used) (leb used 488) e) in
          let l = leb-true used 488 (both_right (leb 1 used) (leb used 488) e) in
          let n = length-take-le used m (omega arith) in
          (front_bytes, omega arith, omega arith)
      go false a false b e = let z : ◌≡◌ {A = ℕ} 0 1 = cc in absurd (omega arith)

  content_lawful : (kind p : ℕ) → Shut (content_of kind last used m) ⊎ Lawful p (content_of kind last used m)
  content_lawful kind p =
      content_cases (λ o. Shut o ⊎ Lawful p o) kind last used m (inl tt)
      (λ _ e. (λ _. inr (used_lawful e), λ _. inr (used_lawful e))) (λ _ _ _. (λ _. inr tt, λ _. inr tt))

-- ---- what opens is lawful
pub opens_lawful : (key : List ℕ) (id recording p : ℕ) (b : List ℕ) → AllBytes key → AllBytes b → length b ≡ 512
    → Shut (open_block key id recording p b) ⊎ Lawful p (open_block key id recording p b)
unfolding open_block
opens_lawful key id recording p b hk hb h = go (eqb (number4 b 0) p && fits key n (take 8 b) (drop 8 b))
  where
    n : List ℕ
    n = nonce_at id recording p

    m : List ℕ
    m = opened key n (take 8 b) (drop 8 b)

    size : length m ≡ 488
    size = length_opened key n (take 8 b) (drop 8 b) ∙ omega (arith, length-drop 8 b)

    fine : AllBytes m
    fine = opened_bytes key n (take 8 b) hk (nonce_bytes id recording p) (bytes_take 8 b hb) (drop 8 b) (bytes_drop 8 b hb)

    go : (t : Bool) → Shut (pick t (content_of (get_or b 4 0) (get_or b 5 0) (number2 b 6) m) shut) ⊎ Lawful p (pick t (content_of (get_or b 4 0) (get_or b 5 0) (number2 b 6) m) shut)
    go true = content_lawful (get_or b 5 0) (number2 b 6) m size fine (get_or b 4 0) p
    go false = inl tt
