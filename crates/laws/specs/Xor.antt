-- Xor under a name of its own, and the xor of many.
use Rattle.std.specs.Prelude.{ℕ, zero, suc, List, length, get_or}
use Rattle.std.specs.Int.Bits.{bit_xor}
use Rattle.laws.specs.Lists.{listed}

-- digit by digit, without carry
unfoldable pub xor : ℕ → ℕ → ℕ
xor a b = bit_xor a b

-- the xor of f 0, f 1, .. f (n - 1)
unfoldable pub xor_all : ℕ → (ℕ → ℕ) → ℕ
xor_all zero f = 0
xor_all (suc n) f = xor (f 0) (xor_all n (λ i. f (suc i)))

-- f into the front of s, as far as both go
unfoldable pub xor_into : List ℕ → List ℕ → List ℕ
xor_into f s = listed 0 (length s) (λ k. xor (get_or s k 0) (get_or f k 0))
