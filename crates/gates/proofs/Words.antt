-- Four words of 16 bits are known by the half bytes that stand in them.
-- Assumes nothing.
use mathlib.Core.Path.{◌≡◌, sym, ap₂, ◌∙◌}
use mathlib.Core.List.{List}
use Prim.Native.Nat.{ℕ, ◌+◌, ◌*◌, ◌/◌, ◌%◌, ◌<◌}
use native.Mathlib.Omega.{arith}
use mir.Val.{Val}
use denote.Laws.{Is}
use Rattle.planes.specs.Planes.{bit}
use Rattle.planes.proofs.BitLaws.{bit_low, bit_mod, bit_shr, bits_same}
use Rattle.gates.specs.Gates.{Same16, half}
use Rattle.gates.specs.declared.Four.{Four}
use Rattle.gates.specs.contracts.Four.{the_row}

-- each word has 16 bits
abbrev pub Words16 : Four → Type 0
Words16 x = (x.p0 < 65536) × (x.p1 < 65536) × (x.p2 < 65536) × (x.p3 < 65536)

-- what the type says of a value
pub fit : (x : Four) (vs : List Val) → Is the_row x vs → Words16 x
fit x vs u = let t = u.1.1 in (t.0.1, t.1.0.1, t.1.1.0.1, t.1.1.1.0.1)

-- a word by its bits, a byte at a time
word_same : (x y : ℕ) → x < 65536 → y < 65536 → Same16 (λ n. bit n x) (λ n. bit n y) → x ≡ y
word_same x y hx hy e =
    let l : x % 256 ≡ y % 256 =
    bits_same (x % 256) (y % 256) (omega arith) (omega arith) (λ b h. bit_mod b 8 x h ∙ e b (omega arith) ∙ sym (bit_mod b 8 y h)) in
    let g : x / 256 ≡ y / 256 =
    bits_same (x / 256) (y / 256) (omega arith) (omega arith) (λ b h. bit_shr b 8 x ∙ e (b + 8) (omega arith) ∙ sym (bit_shr b 8 y)) in
    omega arith

-- a half byte has its four bits
bits_of_four : (a b c d e f g h : ℕ) → a < 2 → b < 2 → c < 2 → d < 2 → e < 2 → f < 2 → g < 2 → h < 2
    → a + 2 * (b + 2 * (c + 2 * d)) ≡ e + 2 * (f + 2 * (g + 2 * h)) → (a ≡ e) × (b ≡ f) × (c ≡ g) × (d ≡ h)
bits_of_four a b c d e f g h ha hb hc hd he hf hg hh s = (omega arith, omega arith, omega arith, omega arith)

abbrev words : ℕ → ℕ → ℕ → ℕ → Four
words a b c d = record { p0 = a; p1 = b; p2 = c; p3 = d }

module _ (x y : Four) where
  bits_of_half : (n : ℕ) → half x n ≡ half y n
      → (bit n x.p0 ≡ bit n y.p0) × (bit n x.p1 ≡ bit n y.p1) × (bit n x.p2 ≡ bit n y.p2) × (bit n x.p3 ≡ bit n y.p3)
  unfolding half
  bits_of_half n =
      bits_of_four (bit n x.p0) (bit n x.p1) (bit n x.p2) (bit n x.p3) (bit n y.p0) (bit n y.p1) (bit n y.p2) (bit n y.p3)
      (bit_low n x.p0) (bit_low n x.p1) (bit_low n x.p2) (bit_low n x.p3) (bit_low n y.p0) (bit_low n y.p1) (bit_low n y.p2) (bit_low n y.p3)

  pub same_halves : Words16 x → Words16 y → Same16 (half x) (half y) → x ≡ y
  same_halves u v e =
      ap₂ (λ (a b : ℕ). words a b x.p2 x.p3)
      (word_same x.p0 y.p0 u.0 v.0 (λ n h. (bits_of_half n (e n h)).0))
      (word_same x.p1 y.p1 u.1 v.1 (λ n h. (bits_of_half n (e n h)).1))
      ∙ ap₂ (λ (a b : ℕ). words y.p0 y.p1 a b)
      (word_same x.p2 y.p2 u.2 v.2 (λ n h. (bits_of_half n (e n h)).2))
      (word_same x.p3 y.p3 u.3 v.3 (λ n h. (bits_of_half n (e n h)).3))
