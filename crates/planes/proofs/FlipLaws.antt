-- What is true of a state's planes: bit by bit, twice, and under sums, shift and mix.
-- Assumes nothing.
use mathlib.Core.Path.{◌≡◌, refl, sym, ap, ap₂, ◌∙◌}
use mathlib.Core.List.{List}
use Prim.Native.Nat.{ℕ, ◌+◌, ◌*◌, ◌/◌, ◌%◌, ◌^◌, ◌<◌}
use native.Mathlib.Nat.{mod-lt}
use native.Mathlib.Omega.{arith}
use lib.Dec.{lit<}
use lib.ListN.{get_or}
use lib.Seq.{ext_get_or}
use Rattle.laws.specs.Xor.{xor, xor_all}
use Rattle.laws.proofs.OrderLaws.{below8}
use Rattle.laws.proofs.XorLaws.{xor_byte, xor_undone, all_same, all_sum}
use Rattle.pi.specs.Field.{only, double, times_bits, times}
use Rattle.pi.specs.Permutation.{added, source, target, shift, shift⁻, first_row, turned, mix_with, mix}
use Rattle.pi.proofs.Build.{state_at, state_is, state_same}
use Rattle.pi.proofs.Products.{times_sum}
use Rattle.pi.proofs.StateLaws.{Full, state_full}
use Rattle.planes.specs.Planes.{bit, byte_by, flipped, plus, word, bytes_of}
use Rattle.planes.specs.declared.Planes.{Planes}
use Rattle.planes.proofs.BitLaws.{bit_low, bit_sum, bit_shr, bit_mod, byte_by_low, byte_by_bit, bits_same}

-- ---- two states with the same bits are the same
pub same_bits : (s t : List ℕ) → Full s → Full t
    → ((b i j : ℕ) → b < 8 → i < 8 → j < 8 → bit b (get_or s (8 * i + j) 0) ≡ bit b (get_or t (8 * i + j) 0)) → s ≡ t
same_bits s t u v e =
    ext_get_or 0 s t (u.long ∙ sym v.long) (λ k h.
    let h' : k < 64 = omega (arith, u.long) in
    let n : 8 * (k / 8) + k % 8 ≡ k = omega arith in
    bits_same (get_or s k 0) (get_or t k 0) (u.bytes k) (v.bytes k) (λ b hb.
    ap (λ (m : ℕ). bit b (get_or s m 0)) (sym n) ∙ e b (k / 8) (k % 8) hb (omega arith) (omega arith) ∙ ap (λ (m : ℕ). bit b (get_or t m 0)) n))

-- ---- flipped
pub flipped_full : (s : List ℕ) → Full (flipped s)
unfolding flipped
flipped_full s = state_full _ (λ k. byte_by_low (λ b. bit (k / 8) (get_or s (8 * b + k % 8) 0)) (λ b. bit_low (k / 8) (get_or s (8 * b + k % 8) 0)))

pub flipped_bit : (s : List ℕ) (b i j : ℕ) → b < 8 → i < 8 → j < 8 → bit b (get_or (flipped s) (8 * i + j) 0) ≡ bit i (get_or s (8 * b + j) 0)
unfolding flipped
flipped_bit s b i j hb hi hj =
    let e₁ : (8 * i + j) / 8 ≡ i = omega arith in
    let e₂ : (8 * i + j) % 8 ≡ j = omega arith in
    ap (bit b) (state_at (λ k. byte_by (λ b. bit (k / 8) (get_or s (8 * b + k % 8) 0))) (8 * i + j) (omega arith))
    ∙ byte_by_bit (λ b. bit ((8 * i + j) / 8) (get_or s (8 * b + (8 * i + j) % 8) 0)) (λ b. bit_low ((8 * i + j) / 8) (get_or s (8 * b + (8 * i + j) % 8) 0)) b hb
    ∙ ap₂ (λ (p q : ℕ). bit p (get_or s (8 * b + q) 0)) e₁ e₂

pub flip_flip : (s : List ℕ) → Full s → flipped (flipped s) ≡ s
flip_flip s w =
    same_bits (flipped (flipped s)) s (flipped_full (flipped s)) w (λ b i j hb hi hj.
    flipped_bit (flipped s) b i j hb hi hj ∙ flipped_bit s i b j hi hb hj)

-- ---- the bytes of eight words
pub bytes_of_full : (p : Planes) → Full (bytes_of p)
unfolding bytes_of
bytes_of_full p = state_full _ (λ k. mod-lt (word p (k / 8) / 2 ^ (8 * (k % 8))) (lit< tt))

pub bytes_of_at : (p : Planes) (i j : ℕ) → i < 8 → j < 8 → get_or (bytes_of p) (8 * i + j) 0 ≡ word p i / 2 ^ (8 * j) % 256
unfolding bytes_of
bytes_of_at p i j hi hj =
    let e₁ : (8 * i + j) / 8 ≡ i = omega arith in
    let e₂ : (8 * i + j) % 8 ≡ j = omega arith in
    state_at (λ k. word p (k / 8) / 2 ^ (8 * (k % 8)) % 256) (8 * i + j) (omega arith) ∙ ap₂ (λ (m n : ℕ). word p m / 2 ^ (8 * n) % 256) e₁ e₂

pub bytes_of_bit : (p : Planes) (b i j : ℕ) → b < 8 → i < 8 → j < 8 → bit b (get_or (bytes_of p) (8 * i + j) 0) ≡ bit (b + 8 * j) (word p i)
bytes_of_bit p b i j hb hi hj = ap (bit b) (bytes_of_at p i j hi hj) ∙ bit_mod b 8 (word p i / 2 ^ (8 * j)) hb ∙ bit_shr b (8 * j) (word p i)

-- ---- sums
pub added_full : (s t : List ℕ) → Full s → Full t → Full (added t s)
unfolding added
added_full s t u v = state_full _ (λ k. xor_byte (get_or s k 0) (get_or t k 0) (u.bytes k) (v.bytes k))

pub added_bit : (s t : List ℕ) (b i j : ℕ) → i < 8 → j < 8 → bit b (get_or (added t s) (8 * i + j) 0) ≡ xor (bit b (get_or s (8 * i + j) 0)) (bit b (get_or t (8 * i + j) 0))
unfolding added
added_bit s t b i j hi hj =
    ap (bit b) (state_at (λ k. xor (get_or s k 0) (get_or t k 0)) (8 * i + j) (omega arith)) ∙ bit_sum b (get_or s (8 * i + j) 0) (get_or t (8 * i + j) 0)

pub flipped_added : (s t : List ℕ) → flipped (added t s) ≡ added (flipped t) (flipped s)
flipped_added s t =
    same_bits (flipped (added t s)) (added (flipped t) (flipped s)) (flipped_full (added t s)) (added_full (flipped s) (flipped t) (flipped_full s) (flipped_full t)) (λ b i j hb hi hj.
    flipped_bit (added t s) b i j hb hi hj ∙ added_bit s t i b j hb hj
    ∙ ap₂ xor (sym (flipped_bit s b i j hb hi hj)) (sym (flipped_bit t b i j hb hi hj))
    ∙ sym (added_bit (flipped s) (flipped t) b i j hi hj))

-- ---- each byte plus c
pub plus_full : (c : ℕ) (s : List ℕ) → c < 256 → Full s → Full (plus c s)
unfolding plus
plus_full c s h w = state_full _ (λ k. xor_byte (get_or s k 0) c (w.bytes k) h)

pub plus_plus : (c : ℕ) (s : List ℕ) → Full s → plus c (plus c s) ≡ s
unfolding plus
plus_plus c s w =
    state_is _ s w.long (λ k h. ap (λ (x : ℕ). xor x c) (state_at (λ k. xor (get_or s k 0) c) k h) ∙ xor_undone (get_or s k 0) c)

source_below : (k : ℕ) → source k < 64
unfolding source
source_below k = omega arith

target_below : (k : ℕ) → target k < 64
unfolding target
target_below k = omega arith

pub shift_plus : (c : ℕ) (s : List ℕ) → shift (plus c s) ≡ plus c (shift s)
unfolding shift plus
shift_plus c s =
    state_same _ _ (λ k h.
    state_at (λ k. xor (get_or s k 0) c) (source k) (source_below k) ∙ ap (λ (x : ℕ). xor x c) (sym (state_at (λ k. get_or s (source k) 0) k h)))

pub shift⁻_plus : (c : ℕ) (s : List ℕ) → shift⁻ (plus c s) ≡ plus c (shift⁻ s)
unfolding shift⁻ plus
shift⁻_plus c s =
    state_same _ _ (λ k h.
    state_at (λ k. xor (get_or s k 0) c) (target k) (target_below k) ∙ ap (λ (x : ℕ). xor x c) (sym (state_at (λ k. get_or s (target k) 0) k h)))

-- the rows of the matrix add up to e where those of each column do
pub mix_with_plus : (m : List ℕ) (c e : ℕ) (s : List ℕ) → ((j : ℕ) → j < 8 → xor_all 8 (λ i. times (turned m i j) c) ≡ e) → mix_with m (plus c s) ≡ plus e (mix_with m s)
unfolding mix_with plus
mix_with_plus m c e s r =
    state_same _ _ (λ k h.
    all_same 8 _ _ (λ i g.
    ap (times (turned m i (k % 8))) (state_at (λ k. xor (get_or s k 0) c) (k / 8 * 8 + i) (omega arith)) ∙ times_sum (turned m i (k % 8)) (get_or s (k / 8 * 8 + i) 0) c)
    ∙ all_sum 8 (λ i. times (turned m i (k % 8)) (get_or s (k / 8 * 8 + i) 0)) (λ i. times (turned m i (k % 8)) c)
    ∙ ap₂ xor (sym (state_at (λ k. xor_all 8 (λ i. times (turned m i (k % 8)) (get_or s (k / 8 * 8 + i) 0))) k h)) (r (k % 8) (mod-lt k (lit< tt))))

-- 03 times D5 is 62
pub mix_plus : (s : List ℕ) → mix (plus 0xD5 s) ≡ plus 0x62 (mix s)
unfolding mix first_row turned xor_all times times_bits double only xor
mix_plus s =
    mix_with_plus first_row 0xD5 0x62 s
    (below8 (λ (j : ℕ). xor_all 8 (λ i. times (turned first_row i j) 0xD5) ≡ 0x62) refl refl refl refl refl refl refl refl)
