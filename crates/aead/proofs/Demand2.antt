-- Demand 2: opening what was sealed gives the message back, and nothing else opens; over the definitions, then at the calls.
-- Assumes nothing.
use mathlib.Core.Path.{◌≡◌, refl, sym, ap, ◌∙◌}
use mathlib.Core.Bool.{true}
use mathlib.Core.List.{List, ◌++◌}
use Prim.Native.Nat.{ℕ, ◌-◌}
use native.Mathlib.Omega.{arith}
use lib.ListN.{length, take, replicate, take-append-drop}
use lib.Seq.{take_at, drop_at}
use Rattle.laws.proofs.SameLaws.{same_true, same_refl}
use Rattle.sponge.specs.Blink.{put, enc, dec, after, out}
use Rattle.sponge.proofs.Lengths.{length_out}
use Rattle.sponge.proofs.Trips.{dec_after_enc, dec_out_enc, enc_after_dec, enc_out_dec}
use Rattle.aead.specs.Sealing.{keyed, sealed_from, sealed, cipher_of, tag_of, opened_from, fits_from, opened, fits, Sealed, Opened}
use Rattle.aead.proofs.Lengths.{length_keyed, length_sealed_from, length_sealed}
use Rattle.aead.proofs.Calls.{seal_accepted, open_accepted, seal_takes, open_takes}

-- opening accepts exactly what sealing writes, said of two calls with one key, nonce and associated data
pub record OpensWhatSeals (k n a : List ℕ) : Type 0 where
  -- where open of t answers 0 and leaves p, seal of p into any buffer of t's length answers 0 and writes t
  pub only : {t q p o o' : List ℕ} {r : ℕ}
      → Opened k n a t q 0 p → length o ≡ length t → Sealed k n a p o r o' → (r ≡ 0) × (o' ≡ t)
  -- where seal of p answers 0 and writes t, open of t into any buffer of p's length answers 0 and leaves p
  pub every : {p o t q q' : List ℕ} {r : ℕ}
      → Sealed k n a p o 0 t → length q ≡ length p → Opened k n a t q r q' → (r ≡ 0) × (q' ≡ p)

-- ---- what the paper has: three puts, then enc, and the tag from the state that it leaves
pub keyed_is_puts : (k n a : List ℕ)
    → keyed k n a ≡ after put 0x40 (after put 0x20 (after put 0x10 (replicate 64 0) k) n) a
unfolding keyed
keyed_is_puts k n a = refl

pub sealed_is_enc : (k n a m : List ℕ)
    → sealed k n a m ≡ out enc 0x50 (keyed k n a) m ++ take 16 (after enc 0x50 (keyed k n a) m)
unfolding sealed sealed_from
sealed_is_enc k n a m = refl

-- ---- a text's two parts
parts_join : (t : List ℕ) → cipher_of t ++ tag_of t ≡ t
unfolding cipher_of tag_of
parts_join t = take-append-drop (length t - 16) t

sealed_seam : (v p : List ℕ) → length v ≡ 64 → length p ≡ length (sealed_from v p) - 16
sealed_seam v p h = omega (arith, length_sealed_from v p h)

-- ---- from a state v: what fits is the sealing of what it opens to
from_only : (v t : List ℕ) → length v ≡ 64 → fits_from v t ≡ true → t ≡ sealed_from v (opened_from v t)
unfolding fits_from opened_from sealed_from
from_only v t h e =
    sym (rw (enc_out_dec 0x50 v h (cipher_of t), enc_after_dec 0x50 v h (cipher_of t), same_true (take 16 (after dec 0x50 v (cipher_of t))) (tag_of t) e) (parts_join t))

-- the two parts of what is sealed, and the way back
sealed_cipher : (v p : List ℕ) → length v ≡ 64 → cipher_of (sealed_from v p) ≡ out enc 0x50 v p
unfolding cipher_of sealed_from
sealed_cipher v p h = take_at (out enc 0x50 v p) _ _ (length_out enc tt 0x50 v p h ∙ sealed_seam v p h)

sealed_tag : (v p : List ℕ) → length v ≡ 64 → tag_of (sealed_from v p) ≡ take 16 (after enc 0x50 v p)
unfolding tag_of sealed_from
sealed_tag v p h = drop_at (out enc 0x50 v p) _ _ (length_out enc tt 0x50 v p h ∙ sealed_seam v p h)

from_fits : (v p : List ℕ) → length v ≡ 64 → fits_from v (sealed_from v p) ≡ true
unfolding fits_from
from_fits v p h = rw (sealed_cipher v p h, sealed_tag v p h, dec_after_enc 0x50 v h p) (same_refl (take 16 (after enc 0x50 v p)))

from_back : (v p : List ℕ) → length v ≡ 64 → opened_from v (sealed_from v p) ≡ p
unfolding opened_from
from_back v p h = rw (sealed_cipher v p h) (dec_out_enc 0x50 v h p)

-- ---- opening what was sealed gives the message back, whatever the lists, the empty message too
pub open_seal : (k n a p : List ℕ) → (fits k n a (sealed k n a p) ≡ true) × (opened k n a (sealed k n a p) ≡ p)
unfolding fits opened sealed
open_seal k n a p = (from_fits (keyed k n a) p (length_keyed k n a), from_back (keyed k n a) p (length_keyed k n a))

-- ---- what opens is the sealing of what it opens to
pub opens_only_sealed : (k n a t : List ℕ) → fits k n a t ≡ true → t ≡ sealed k n a (opened k n a t)
unfolding fits opened sealed
opens_only_sealed k n a t e = from_only (keyed k n a) t (length_keyed k n a) e

-- two messages have two sealings
pub seal_injective : (k n a p q : List ℕ) → sealed k n a p ≡ sealed k n a q → p ≡ q
seal_injective k n a p q e = sym (open_seal k n a p).1 ∙ ap (opened k n a) e ∙ (open_seal k n a q).1

-- ---- at the calls
module _ {k n a t p : List ℕ} where
  seals_opened : {q o o' : List ℕ} {r : ℕ}
      → Opened k n a t q 0 p → length o ≡ length t → Sealed k n a p o r o' → (r ≡ 0) × (o' ≡ t)
  seals_opened {q = q} d h c =
      let w = open_accepted d in
      let e : t ≡ sealed k n a p = opens_only_sealed k n a t w.fit ∙ ap (sealed k n a) (sym w.bytes) in
      let l : length p ≡ length q = omega (arith, ap length e, length_sealed k n a p, w.sizes.more16) in
      let x = seal_takes (rw (h, l) w.sizes) (rw l w.limits) c in
      (x.0, x.1 ∙ sym e)

  opens_sealed : {o q q' : List ℕ} {r : ℕ}
      → Sealed k n a p o 0 t → length q ≡ length p → Opened k n a t q r q' → (r ≡ 0) × (q' ≡ p)
  opens_sealed {o = o} c h d =
      let w = seal_accepted c in
      let l : length t ≡ length o = ap length w.bytes ∙ length_sealed k n a p ∙ sym w.sizes.more16 in
      let x = open_takes (rw (l, h) w.sizes) (rw h w.limits) (rw w.bytes (open_seal k n a p).0) d in
      (x.0, x.1 ∙ ap (opened k n a) w.bytes ∙ (open_seal k n a p).1)

pub opens_what_seals : (k n a : List ℕ) → OpensWhatSeals k n a
opens_what_seals k n a = record { only = seals_opened; every = opens_sealed }
