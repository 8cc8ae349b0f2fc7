-- What a text spells in decimal: a number up to `most`, one above it, or none. Digits alone, one at least; zeros in
-- front count for nothing.
use Rattle.std.specs.Prelude.{◌&&◌, List, [], ◌∷◌, ℕ, ◌+◌, ◌-◌, ◌*◌, ◌≤◌, eqb, leb, length, Result, Ok, Err}
use Rattle.laws.specs.Choose.{pick}
use Rattle.print.specs.declared.NotANumber.{NotANumber}
use Rattle.print.specs.declared.NotANumber.TheVariants as p

-- a digit behind what is spelled so far
unfoldable pub digit_behind : ℕ → ℕ → ℕ → (Result ℕ NotANumber)
digit_behind most n d = pick (leb (n * 10 + d) most) (Ok (n * 10 + d)) (Err p.TooLarge)

abbrev pub digit_next : ℕ → (Result ℕ NotANumber) → ℕ → (Result ℕ NotANumber)
digit_next most (Ok n) d = digit_behind most n d
digit_next most (Err p.TooLarge) d = Err p.TooLarge
digit_next most (Err p.NotDecimal) d = Err p.NotDecimal

-- any character behind it
unfoldable pub spelled_with : ℕ → (Result ℕ NotANumber) → ℕ → (Result ℕ NotANumber)
spelled_with most x c = pick (leb 48 c && leb c 57) (digit_next most x (c - 48)) (Err p.NotDecimal)

unfoldable pub spelled_on : ℕ → (Result ℕ NotANumber) → List ℕ → (Result ℕ NotANumber)
spelled_on most x [] = x
spelled_on most x (c ∷ cs) = spelled_on most (spelled_with most x c) cs

unfoldable pub spelled : ℕ → List ℕ → (Result ℕ NotANumber)
spelled most text = pick (eqb (length text) 0) (Err p.NotDecimal) (spelled_on most (Ok 0) text)

-- a number that is handed out is not above the greatest that was asked for
abbrev pub Within : ℕ → (Result ℕ NotANumber) → Type 0
Within most (Ok n) = n ≤ most
Within most (Err p.TooLarge) = Unit {0}
Within most (Err p.NotDecimal) = Unit {0}
