-- Cited by the contracts of private functions alone, and `stored` by a law (proofs/Stores): no promise to a caller
-- names what stands here.
use Rattle.std.specs.Prelude.{◌≡◌, List, ℕ, zero, suc, ◌+◌, ◌-◌, ◌*◌, ◌/◌, ◌%◌, ◌^◌, ◌<◌, get_or, set}
use Rattle.planes.specs.Planes.{bit, word}
use Rattle.planes.specs.declared.Planes.{Planes}

-- ---- eight bytes in a word: those of s from `at` on, and s with those of w there
abbrev pub Holds : List ℕ → ℕ → ℕ → Type 0
Holds s at w = (j : ℕ) → j < 8 → w / 2 ^ (8 * j) % 256 ≡ get_or s (at + j) 0

unfoldable pub stored : List ℕ → ℕ → ℕ → List ℕ
stored s at w =
    set (set (set (set (set (set (set (set s at (w % 256)) (at + 1) (w / 2 ^ 8 % 256)) (at + 2) (w / 2 ^ 16 % 256)) (at + 3) (w / 2 ^ 24 % 256))
    (at + 4) (w / 2 ^ 32 % 256)) (at + 5) (w / 2 ^ 40 % 256)) (at + 6) (w / 2 ^ 48 % 256)) (at + 7) (w / 2 ^ 56 % 256)

-- ---- a transposition, digit by digit
unfoldable pub two : ℕ → ℕ → ℕ → ℕ
two zero a b = a
two (suc e) a b = b

-- x with the digit d of y
unfoldable pub put : ℕ → ℕ → ℕ → ℕ
put d x y = two (y / d % 2) (two (x / d % 2) x (x - d)) (two (x / d % 2) (x + d) x)

-- the digit d of a word's number and of a bit's place change places: what word i of the result is, and each of them
abbrev pub CrossedWord : ℕ → Planes → ℕ → ℕ → Type 0
CrossedWord d w i x = (n : ℕ) → n < 64 → bit n x ≡ bit (put d n i) (word w (put d i n))

abbrev pub Across : ℕ → Planes → Planes → Type 0
Across d w r = (i : ℕ) → i < 8 → CrossedWord d w i (word r i)

-- the same in two words, whose numbers differ in the digit d
pub record Crosswise (d a b x y : ℕ) : Type 0 where
  pub low : (n : ℕ) → n < 64 → bit n x ≡ two (n / d % 2) (bit n a) (bit (n - d) b)
  pub high : (n : ℕ) → n < 64 → bit n y ≡ two (n / d % 2) (bit (n + d) a) (bit n b)

-- m has the places without the digit d
pub record Crossed (d m : ℕ) : Type 0 where
  pub positive : 0 < d
  pub small : d < 64
  pub inside : (i : ℕ) → i < 8 → i / d % 2 ≡ 0 → i + d < 8
  pub mask : (n : ℕ) → n < 64 → bit n m ≡ 1 - n / d % 2
  pub lower : (n : ℕ) → n < d → n / d % 2 ≡ 0
  pub upper : (n : ℕ) → n < 64 → n / d % 2 ≡ 1 - (n + d) / d % 2
