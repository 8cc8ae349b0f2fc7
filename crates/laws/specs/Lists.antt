-- Lists by their rule, and a list laid over another.
use Rattle.std.specs.Prelude.{Bool, true, ◌&&◌, List, [], ◌∷◌, ◌++◌, ℕ, zero, suc, ◌+◌, ◌<◌, eqb, length, get_or, take, drop}

-- f i, f (i + 1), .. : n of them
unfoldable pub listed : ℕ → ℕ → (ℕ → ℕ) → List ℕ
listed i zero f = []
listed i (suc n) f = f i ∷ listed (suc i) n f

-- each element is a byte; past the end stands 0, which is one
abbrev pub AllBytes : List ℕ → Type 0
AllBytes s = (k : ℕ) → get_or s k 0 < 256

-- b laid over l from at on
unfoldable pub splice : List ℕ → ℕ → List ℕ → List ℕ
splice l at b = take at l ++ (b ++ drop (at + length b) l)

-- whether the first n elements are the same
unfoldable pub same_to : List ℕ → List ℕ → ℕ → Bool
same_to a b zero = true
same_to a b (suc n) = same_to a b n && eqb (get_or a n 0) (get_or b n 0)

-- whether two lists are the same
unfoldable pub same : List ℕ → List ℕ → Bool
same a b = eqb (length b) (length a) && same_to a b (length a)
