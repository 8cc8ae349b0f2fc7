-- A number added to every byte: on planes and off them.
-- Assumes nothing.
use mathlib.Core.Path.{◌≡◌, sym, ap, ap₂, ◌∙◌}
use mathlib.Core.List.{List}
use Prim.Native.Nat.{ℕ, ◌+◌, ◌*◌, ◌<◌}
use native.Mathlib.Omega.{arith}
use lib.Dec.{eqb, eqb→eq}
use lib.ListN.{get_or}
use Rattle.laws.specs.Xor.{xor}
use Rattle.laws.proofs.XorLaws.{xor_assoc, xor_swap}
use Rattle.pi.specs.Permutation.{added}
use Rattle.pi.proofs.Build.{state_at, state_same}
use Rattle.pi.proofs.StateLaws.{Full, state_full}
use Rattle.planes.specs.Planes.{bit, flipped, plus, word, bytes_of}
use Rattle.planes.specs.declared.Planes.{Planes}
use Rattle.planes.proofs.Tests.{tested₂}
use Rattle.planes.proofs.BitLaws.{bit_low}
use Rattle.planes.proofs.FlipLaws.{same_bits, flipped_full, flipped_bit, flip_flip, bytes_of_full, bytes_of_bit, flipped_added, plus_full, plus_plus}
use Rattle.rounds.specs.Rounds.{alike, held}

pub alike_full : (c : ℕ) → c < 256 → Full (alike c)
unfolding alike
alike_full c h = state_full (λ k. c) (λ k. h)

pub plus_is : (c : ℕ) (s : List ℕ) → added (alike c) s ≡ plus c s
unfolding added alike plus
plus_is c s = state_same _ _ (λ k h. ap (xor (get_or s k 0)) (state_at (λ k. c) k h))

-- a number and a key change places
pub plus_added : (c : ℕ) (key s : List ℕ) → added key (plus c s) ≡ plus c (added key s)
unfolding added plus
plus_added c key s =
    state_same _ _ (λ k h.
    ap (λ (x : ℕ). xor x (get_or key k 0)) (state_at (λ k. xor (get_or s k 0) c) k h)
    ∙ xor_assoc (get_or s k 0) c (get_or key k 0) ∙ ap (xor (get_or s k 0)) (xor_swap c (get_or key k 0)) ∙ sym (xor_assoc (get_or s k 0) (get_or key k 0) c)
    ∙ ap (λ (x : ℕ). xor x c) (sym (state_at (λ k. xor (get_or s k 0) (get_or key k 0)) k h)))

-- ---- packed: planes of a state plus c
pub packed_is : (k : ℕ) (c : Planes) (q s : List ℕ) → k < 256 → Full q → bytes_of c ≡ flipped (alike k) → s ≡ added (bytes_of c) (flipped q) → flipped s ≡ plus k q
packed_is k c q s h w e g =
    ap flipped g ∙ flipped_added (flipped q) (bytes_of c)
    ∙ ap₂ added (ap flipped e ∙ flip_flip (alike k) (alike_full k h)) (flip_flip q w) ∙ plus_is k q

-- ---- the state that planes hold
pub held_full : (c : ℕ) (s : List ℕ) → c < 256 → Full (held c s)
unfolding held
held_full c s h = plus_full c (flipped s) h (flipped_full s)

pub on_held : (c : ℕ) (s : List ℕ) → flipped s ≡ plus c (held c s)
unfolding held
on_held c s = sym (plus_plus c (flipped s) (flipped_full s))

pub held_of : (c : ℕ) (s x : List ℕ) → Full x → flipped s ≡ plus c x → held c s ≡ x
unfolding held
held_of c s x w e = ap (plus c) e ∙ plus_plus c x w

pub packed_held : (k : ℕ) (c : Planes) (q s : List ℕ) → k < 256 → Full q → bytes_of c ≡ flipped (alike k) → s ≡ added (bytes_of c) (flipped q) → held k s ≡ q
packed_held k c q s h w e g = held_of k s q w (packed_is k c q s h w e g)

pub unpacked_held : (k : ℕ) (c : Planes) (s q : List ℕ) → k < 256 → bytes_of c ≡ flipped (alike k) → q ≡ flipped (added (bytes_of c) s) → q ≡ held k s
unfolding held
unpacked_held k c s q h e g =
    g ∙ flipped_added s (bytes_of c) ∙ ap (λ (t : List ℕ). added t (flipped s)) (ap flipped e ∙ flip_flip (alike k) (alike_full k h)) ∙ plus_is k (flipped s)

alike_at : (c k : ℕ) → k < 64 → get_or (alike c) k 0 ≡ c
unfolding alike
alike_at c k h = state_at (λ k. c) k h

-- ---- planes of one byte: each word has all its bits, or none
pub alike_planes : (c : ℕ) (r : Planes) → ((i : ℕ) → i < 8 → word r i ≡ bit i c * 0xFFFFFFFFFFFFFFFF) → bytes_of r ≡ flipped (alike c)
unfolding bit
alike_planes c r e =
    same_bits (bytes_of r) (flipped (alike c)) (bytes_of_full r) (flipped_full (alike c)) (λ b i j hb hi hj.
    bytes_of_bit r b i j hb hi hj ∙ ap (bit (b + 8 * j)) (e i hi)
    ∙ all_or_none (bit i c) (b + 8 * j) (bit_low i c) (omega arith)
    ∙ sym (flipped_bit (alike c) b i j hb hi hj ∙ ap (bit i) (alike_at c (8 * b + j) (omega arith))))
  where
    all_or_none : (e n : ℕ) → e < 2 → n < 64 → bit n (e * 0xFFFFFFFFFFFFFFFF) ≡ e
    all_or_none e n h l = eqb→eq _ _ (tested₂ (λ (e n : ℕ). eqb (bit n (e * 0xFFFFFFFFFFFFFFFF)) e) 2 64 tt e n h l)
