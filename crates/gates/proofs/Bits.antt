-- Half bytes as four bits: what gates make of them is compared by one test; their sum; a word of ones.
-- Assumes nothing.
use mathlib.Core.Path.{◌≡◌, refl, sym, ap, ap₂, ◌∙◌}
use mathlib.Core.Bool.{Bool}
use Prim.Native.Nat.{ℕ, ◌+◌, ◌*◌, ◌/◌, ◌%◌, ◌<◌}
use native.Mathlib.Omega.{arith}
use lib.Dec.{T, eqb, eqb→eq}
use lib.Bits.{bit_xor, xor_block}
use Rattle.laws.specs.Xor.{xor}
use Rattle.laws.proofs.TableLaws.{every, at}
use Rattle.pi.specs.Table.{E}
use Rattle.planes.specs.Planes.{bit}
use Rattle.planes.proofs.BitLaws.{bit_low, bit_xor_lem}
use Rattle.gates.specs.Gates.{half}
use Rattle.gates.specs.declared.Four.{Four}

is_one : ℕ → ℕ → Bool
is_one n x = eqb (bit n 0xFFFF) 1

pub bit_ones : (n : ℕ) → n < 16 → bit n 0xFFFF ≡ 1
unfolding bit is_one E
bit_ones n h = eqb→eq (bit n 0xFFFF) 1 (at is_one E tt n h)

-- ---- a half byte of four bits
unfoldable pub four : ℕ → ℕ → ℕ → ℕ → ℕ
four a b c d = a + 2 * (b + 2 * (c + 2 * d))

pub four_low : (a b c d : ℕ) → a < 2 → b < 2 → c < 2 → d < 2 → four a b c d < 16
unfolding four
four_low a b c d ha hb hc hd = omega arith

pub half_low : (x : Four) (n : ℕ) → half x n < 16
unfolding half four
half_low x n = four_low _ _ _ _ (bit_low n x.p0) (bit_low n x.p1) (bit_low n x.p2) (bit_low n x.p3)

-- two functions of four bits are equal where a test of all sixteen says so
abbrev pub same4 : (ℕ → ℕ → ℕ → ℕ → ℕ) → (ℕ → ℕ → ℕ → ℕ → ℕ) → ℕ → ℕ → Bool
same4 f g k x = eqb (f (k % 2) (k / 2 % 2) (k / 4 % 2) (k / 8 % 2)) (g (k % 2) (k / 2 % 2) (k / 4 % 2) (k / 8 % 2))

module _ (a b c d : ℕ) (ha : a < 2) (hb : b < 2) (hc : c < 2) (hd : d < 2) where
  k₀ : four a b c d % 2 ≡ a
  unfolding four
  k₀ = omega arith

  k₁ : four a b c d / 2 % 2 ≡ b
  unfolding four
  k₁ = omega arith

  k₂ : four a b c d / 4 % 2 ≡ c
  unfolding four
  k₂ = omega arith

  k₃ : four a b c d / 8 % 2 ≡ d
  unfolding four
  k₃ = omega arith

  pub all4 : (f g : ℕ → ℕ → ℕ → ℕ → ℕ) → T (every (same4 f g) 0 E) → f a b c d ≡ g a b c d
  unfolding E
  all4 f g t =
      let k = four a b c d in
      let e : f (k % 2) (k / 2 % 2) (k / 4 % 2) (k / 8 % 2) ≡ g (k % 2) (k / 2 % 2) (k / 4 % 2) (k / 8 % 2)
      = eqb→eq _ _ (at (same4 f g) E t k (four_low a b c d ha hb hc hd)) in
      simp (k₀, k₁, k₂, k₃) at e

-- a claim of four words at place n, once their bits there have names: it is the test of all sixteen
pub sixteen : (x : Four) (n : ℕ) {f g : ℕ → ℕ → ℕ → ℕ → ℕ} {G : Type 0}
    → ((a b c d : ℕ) → bit n x.p0 ≡ a → bit n x.p1 ≡ b → bit n x.p2 ≡ c → bit n x.p3 ≡ d → f a b c d ≡ g a b c d → G)
    → T (every (same4 f g) 0 E) → G
sixteen x n {f} {g} claim t =
    claim (bit n x.p0) (bit n x.p1) (bit n x.p2) (bit n x.p3) refl refl refl refl
    (all4 (bit n x.p0) (bit n x.p1) (bit n x.p2) (bit n x.p3) (bit_low n x.p0) (bit_low n x.p1) (bit_low n x.p2) (bit_low n x.p3) f g t)

-- their sum
pub four_xor : (a b c d e f g h : ℕ) → a < 2 → b < 2 → c < 2 → e < 2 → f < 2 → g < 2
    → four (bit_xor a e) (bit_xor b f) (bit_xor c g) (bit_xor d h) ≡ xor (four a b c d) (four e f g h)
unfolding four xor
four_xor a b c d e f g h ha hb hc he hf hg =
    turn (bit_xor a e) (bit_xor b f) (bit_xor c g) (bit_xor d h)
    ∙ ap (λ (x : ℕ). (x * 2 + bit_xor b f) * 2 + bit_xor a e) (sym (xor_block 1 d h c g hc hg))
    ∙ ap (λ (x : ℕ). x * 2 + bit_xor a e) (sym (xor_block 1 (d * 2 + c) (h * 2 + g) b f hb hf))
    ∙ sym (xor_block 1 ((d * 2 + c) * 2 + b) ((h * 2 + g) * 2 + f) a e ha he)
    ∙ ap₂ bit_xor (sym (turn a b c d)) (sym (turn e f g h))
  where
    turn : (a b c d : ℕ) → a + 2 * (b + 2 * (c + 2 * d)) ≡ ((d * 2 + c) * 2 + b) * 2 + a
    turn a b c d = omega arith

pub sum_is : (n a b c d e f g h : ℕ)
    → four (bit n (bit_xor a e)) (bit n (bit_xor b f)) (bit n (bit_xor c g)) (bit n (bit_xor d h)) ≡ xor (four (bit n a) (bit n b) (bit n c) (bit n d)) (four (bit n e) (bit n f) (bit n g) (bit n h))
sum_is n a b c d e f g h =
    simp bit_xor_lem (four_xor (bit n a) (bit n b) (bit n c) (bit n d) (bit n e) (bit n f) (bit n g) (bit n h) (bit_low n a) (bit_low n b) (bit_low n c) (bit_low n e) (bit_low n f) (bit_low n g))
