-- Choosers: one of two by a test, and the number of a refusal.
use Rattle.std.specs.Prelude.{Bool, true, false, ℕ}

-- a where the test holds, else b
abbrev pub pick : {A : Type 0} → Bool → A → A → A
pick true a b = a
pick false a b = b

-- a refusal's number n where the test fails, else what the later tests say: the first cause in the list wins
abbrev pub first_of : Bool → ℕ → ℕ → ℕ
first_of ok n rest = pick ok rest n
