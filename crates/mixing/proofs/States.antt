-- The state that planes hold, and what makes it a mix of another: each word is the sum that the circulant wants.
-- Assumes nothing.
use mathlib.Core.Path.{◌≡◌, sym, ap, ap₂, ◌∙◌}
use mathlib.Core.List.{List}
use mathlib.Core.Logic.{⊎_elim}
use Prim.Native.Nat.{ℕ, ◌+◌, ◌-◌, ◌*◌, ◌/◌, ◌%◌, ◌^◌, ◌<◌, ◌≤◌}
use native.Mathlib.Nat.{mod-lt}
use native.Mathlib.Omega.{arith}
use lib.Dec.{T, lit<}
use lib.ListN.{get_or}
use Rattle.laws.specs.Xor.{xor, xor_all}
use Rattle.laws.proofs.OrderLaws.{lt_or_ge, below8}
use Rattle.laws.proofs.TableLaws.{every}
use Rattle.laws.proofs.XorLaws.{ac, xor_zero, all_same}
use Rattle.pi.specs.Field.{only, times}
use Rattle.pi.specs.Permutation.{turned, mix_with}
use Rattle.pi.proofs.Build.{state_at, state_same}
use Rattle.pi.proofs.StateLaws.{places}
use Rattle.planes.specs.Planes.{bit, byte_by, word, flipped, bytes_of}
use Rattle.planes.specs.declared.Planes.{Planes}
use Rattle.mixing.specs.Turns.{before, Rows_turned}
use Rattle.planes.proofs.BitLaws.{bit_low, bit_byte, byte_by_same, byte_by_low, byte_by_bit}
use Rattle.mixing.proofs.Bytes.{by_all, only_low, all_low, times_by}
use Rattle.mixing.proofs.Sums.{all_eights, turned_bit, sum_at, Summed, agree, masked}

-- ---- the byte at row i, column j stands at bit 8j + i of each word
unfoldable pub byte_at : Planes → ℕ → ℕ
byte_at p n = byte_by (λ b. bit n (word p b))

module _ (p : Planes) (k : ℕ) (h : k < 64) where
  pub by_planes : byte_by (λ b. bit (k / 8) (get_or (bytes_of p) (8 * b + k % 8) 0)) ≡ byte_at p (8 * (k % 8) + k / 8)
  unfolding bytes_of byte_at
  by_planes =
      byte_by_same _ _ (λ b l.
      let e : (8 * b + k % 8) / 8 ≡ b = omega arith in
      let g : (8 * b + k % 8) % 8 ≡ k % 8 = omega arith in
      ap (bit (k / 8)) (state_at (λ k. word p (k / 8) / 2 ^ (8 * (k % 8)) % 256) (8 * b + k % 8) (omega arith)
      ∙ ap₂ (λ (c j : ℕ). word p c / 2 ^ (8 * j) % 256) e g)
      ∙ bit_byte (k / 8) (8 * (k % 8)) (word p b) (omega arith))

  pub byte_of : get_or (flipped (bytes_of p)) k 0 ≡ byte_at p (8 * (k % 8) + k / 8)
  unfolding flipped
  byte_of = state_at _ k h ∙ by_planes

-- a turn by d columns brings it from column j - d
column : (d i j : ℕ) → d < 8 → i < 8 → j < 8 → (8 * j + i + (64 - 8 * d)) % 64 ≡ 8 * ((j + (8 - d)) % 8) + i
column d i j hd hi hj =
    ⊎_elim
    (λ (l : j < d).
    let e : (j + (8 - d)) % 8 ≡ j + (8 - d) = omega arith in
    let g : (8 * j + i + (64 - 8 * d)) % 64 ≡ 8 * (j + (8 - d)) + i = omega arith in
    g ∙ ap (λ (c : ℕ). 8 * c + i) (sym e))
    (λ (l : d ≤ j).
    let e : (j + (8 - d)) % 8 ≡ j - d = omega arith in
    let g : (8 * j + i + (64 - 8 * d)) % 64 ≡ 8 * (j - d) + i = omega arith in
    g ∙ ap (λ (c : ℕ). 8 * c + i) (sym e))
    (lt_or_ge j d)

from : (p : Planes) (d i j : ℕ) → d < 8 → i < 8 → j < 8
    → byte_at p (before (8 * d) (8 * j + i)) ≡ get_or (flipped (bytes_of p)) (i * 8 + (j + (8 - d)) % 8) 0
unfolding before
from p d i j hd hi hj =
    let l : (j + (8 - d)) % 8 < 8 = mod-lt (j + (8 - d)) (lit< tt) in
    let e : (j + (8 - d)) % 8 ≡ (i * 8 + (j + (8 - d)) % 8) % 8 = omega arith in
    let g : i ≡ (i * 8 + (j + (8 - d)) % 8) / 8 = omega arith in
    ap (byte_at p) (column d i j hd hi hj ∙ ap₂ (λ (c r : ℕ). 8 * c + r) e g)
    ∙ sym (byte_of p (i * 8 + (j + (8 - d)) % 8) (omega arith))

-- where each plane is turned by d columns, each row is
pub row_turned : (p r : Planes) (d k : ℕ) → d < 8 → k < 64 → Rows_turned d p r
    → get_or (flipped (bytes_of r)) k 0 ≡ get_or (flipped (bytes_of p)) (k / 8 * 8 + (k % 8 + (8 - d)) % 8) 0
unfolding byte_at
row_turned p r d k hd h e =
    byte_of r k h
    ∙ byte_by_same _ _ (λ b l. (e.words b l).bits (8 * (k % 8) + k / 8) (omega arith))
    ∙ from p d (k / 8) (k % 8) hd (omega arith) (mod-lt k (lit< tt))

-- ---- a sum of eight, back to front and turned by one
eight : ℕ → ℕ → ℕ → ℕ → ℕ → ℕ → ℕ → ℕ → ℕ
eight a b c d e f g h = xor a (xor b (xor c (xor d (xor e (xor f (xor g (xor h 0)))))))

turn : (a b c d e f g h : ℕ) → eight a b c d e f g h ≡ eight b c d e f g h a
unfolding eight
turn a b c d e f g h = simp (xor_zero, ac)

back : (a b c d e f g h : ℕ) → eight a b c d e f g h ≡ eight h g f e d c b a
unfolding eight
back a b c d e f g h = simp (xor_zero, ac)

-- counted by the turn, or by the column that a byte comes from
by_columns : (f : ℕ → ℕ → ℕ) (j : ℕ) → j < 8 → xor_all 8 (λ d. f d ((j + (8 - d)) % 8)) ≡ xor_all 8 (λ i. f ((j + 8 - i) % 8) i)
unfolding xor_all eight
by_columns f =
    below8 (λ (j : ℕ). xor_all 8 (λ d. f d ((j + (8 - d)) % 8)) ≡ xor_all 8 (λ i. f ((j + 8 - i) % 8) i))
    (back _ _ _ _ _ _ _ _ ∙ turn _ _ _ _ _ _ _ _ ∙ turn _ _ _ _ _ _ _ _ ∙ turn _ _ _ _ _ _ _ _ ∙ turn _ _ _ _ _ _ _ _ ∙ turn _ _ _ _ _ _ _ _ ∙ turn _ _ _ _ _ _ _ _ ∙ turn _ _ _ _ _ _ _ _)
    (back _ _ _ _ _ _ _ _ ∙ turn _ _ _ _ _ _ _ _ ∙ turn _ _ _ _ _ _ _ _ ∙ turn _ _ _ _ _ _ _ _ ∙ turn _ _ _ _ _ _ _ _ ∙ turn _ _ _ _ _ _ _ _ ∙ turn _ _ _ _ _ _ _ _)
    (back _ _ _ _ _ _ _ _ ∙ turn _ _ _ _ _ _ _ _ ∙ turn _ _ _ _ _ _ _ _ ∙ turn _ _ _ _ _ _ _ _ ∙ turn _ _ _ _ _ _ _ _ ∙ turn _ _ _ _ _ _ _ _)
    (back _ _ _ _ _ _ _ _ ∙ turn _ _ _ _ _ _ _ _ ∙ turn _ _ _ _ _ _ _ _ ∙ turn _ _ _ _ _ _ _ _ ∙ turn _ _ _ _ _ _ _ _)
    (back _ _ _ _ _ _ _ _ ∙ turn _ _ _ _ _ _ _ _ ∙ turn _ _ _ _ _ _ _ _ ∙ turn _ _ _ _ _ _ _ _)
    (back _ _ _ _ _ _ _ _ ∙ turn _ _ _ _ _ _ _ _ ∙ turn _ _ _ _ _ _ _ _)
    (back _ _ _ _ _ _ _ _ ∙ turn _ _ _ _ _ _ _ _)
    (back _ _ _ _ _ _ _ _)

-- ---- what bit b of a mixed byte is the sum of: of the byte that comes from d columns back, the bits i where 2^i
-- times the circulant's entry has the bit b; the mask has them at 8d + i
unfoldable pub wanted : List ℕ → ℕ → ℕ → ℕ
wanted m b i = bit b (times (get_or m (i / 8) 0) (2 ^ (i % 8)))

module _ (m : List ℕ) (p r : Planes) (is : (b : ℕ) → b < 8 → (n : ℕ) → n < 64 → bit n (word r b) ≡ sum_at p (wanted m b) n) where
  term : ℕ → ℕ → ℕ → ℕ
  term n b i = only (wanted m b i) (turned_bit p n i)

  term_low : (n b i : ℕ) → term n b i < 2
  unfolding term turned_bit
  term_low n b i = only_low (wanted m b i) _ (bit_low _ _)

  term_is : (n b d i : ℕ) → d < 8 → i < 8 → term n b (8 * d + i) ≡ only (bit b (times (get_or m d 0) (2 ^ i))) (bit i (byte_at p (before (8 * d) n)))
  unfolding term turned_bit wanted byte_at
  term_is n b d i hd hi =
      let e : (8 * d + i) / 8 ≡ d = omega arith in
      let g : (8 * d + i) % 8 ≡ i = omega arith in
      ap₂ (λ (q s : ℕ). only (bit b (times (get_or m q 0) (2 ^ s))) (bit (before (8 * q) n) (word p s))) e g
      ∙ ap (only (bit b (times (get_or m d 0) (2 ^ i)))) (sym (byte_by_bit (λ b. bit (before (8 * d) n) (word p b)) (λ b. bit_low _ _) i hi))

  byte_low : (n : ℕ) → byte_at p n < 256
  unfolding byte_at
  byte_low n = byte_by_low (λ b. bit n (word p b)) (λ b. bit_low _ _)

  by_turns : (n : ℕ) → n < 64 → byte_at r n ≡ xor_all 8 (λ d. times (get_or m d 0) (byte_at p (before (8 * d) n)))
  unfolding byte_at term sum_at
  by_turns n h =
      byte_by_same _ _ (λ b l. is b l n h ∙ all_eights 8 (term n b))
      ∙ by_all 8 (λ b d. xor_all 8 (λ i. term n b (8 * d + i))) (λ b d. all_low 8 _ (λ i. term_low n b (8 * d + i)))
      ∙ all_same 8 _ _ (λ d l.
      byte_by_same _ _ (λ b g. all_same 8 _ _ (λ i o. term_is n b d i l o))
      ∙ times_by (get_or m d 0) (byte_at p (before (8 * d) n)) (byte_low (before (8 * d) n)))

  pub mixes : flipped (bytes_of r) ≡ mix_with m (flipped (bytes_of p))
  unfolding mix_with turned flipped
  mixes =
      state_same _ _ (λ k h.
      by_planes r k h
      ∙ by_turns (8 * (k % 8) + k / 8) (omega arith)
      ∙ all_same 8 _ _ (λ d l. ap (times (get_or m d 0)) (from p d (k / 8) (k % 8) l (omega arith) (omega arith)))
      ∙ by_columns (λ d i. times (get_or m d 0) (get_or (flipped (bytes_of p)) (k / 8 * 8 + i) 0)) (k % 8) (mod-lt k (lit< tt)))

-- ---- eight words, each with a mask that a test finds to be the wanted one
abbrev pub Wanted : List ℕ → {p : Planes} {x : ℕ} → ℕ → Summed p x → Type 0
Wanted m b s = T (every (agree s.mask (wanted m b)) 0 places)

module _ (m : List ℕ) (p r : Planes)
    (s₀ : Summed p (word r 0)) (s₁ : Summed p (word r 1)) (s₂ : Summed p (word r 2)) (s₃ : Summed p (word r 3))
    (s₄ : Summed p (word r 4)) (s₅ : Summed p (word r 5)) (s₆ : Summed p (word r 6)) (s₇ : Summed p (word r 7)) where
  pub mixes_by : Wanted m 0 s₀ → Wanted m 1 s₁ → Wanted m 2 s₂ → Wanted m 3 s₃ → Wanted m 4 s₄ → Wanted m 5 s₅ → Wanted m 6 s₆ → Wanted m 7 s₇
      → flipped (bytes_of r) ≡ mix_with m (flipped (bytes_of p))
  mixes_by t₀ t₁ t₂ t₃ t₄ t₅ t₆ t₇ =
      mixes m p r
      (below8 (λ (b : ℕ). (n : ℕ) → n < 64 → bit n (word r b) ≡ sum_at p (wanted m b) n)
      (masked (wanted m 0) s₀ t₀) (masked (wanted m 1) s₁ t₁) (masked (wanted m 2) s₂ t₂) (masked (wanted m 3) s₃ t₃)
      (masked (wanted m 4) s₄ t₄) (masked (wanted m 5) s₅ t₅) (masked (wanted m 6) s₆ t₆) (masked (wanted m 7) s₇ t₇))
