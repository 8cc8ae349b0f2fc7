-- Cited by private contracts alone: a list each byte of which goes by a rule, a state whose bytes move, a byte whose halves change places, a row
-- of the state, and a column of its product.
use Rattle.std.specs.Prelude.{List, [], ◌∷◌, ℕ, ◌+◌, ◌*◌, ◌/◌, ◌%◌, length, get_or}
use Rattle.laws.specs.Lists.{listed}
use Rattle.laws.specs.Xor.{xor_all}
use Rattle.pi.specs.Field.{times}
use Rattle.pi.specs.Permutation.{state_by, turned}

unfoldable pub each : (ℕ → ℕ) → List ℕ → List ℕ
each f l = listed 0 (length l) (λ k. f (get_or l k 0))

-- the byte that comes to k is the one at `from k`
unfoldable pub moved : (ℕ → ℕ) → List ℕ → List ℕ
moved from s = state_by (λ k. get_or s (from k) 0)

unfoldable pub swapped : ℕ → ℕ
swapped x = x % 16 * 16 + x / 16

-- a row of eight bytes by place: given one by one, or the one that begins at b in s; and column j of its product
unfoldable pub eight : ℕ → ℕ → ℕ → ℕ → ℕ → ℕ → ℕ → ℕ → ℕ → ℕ
eight a b c d e f g h i = get_or (a ∷ b ∷ c ∷ d ∷ e ∷ f ∷ g ∷ h ∷ []) i 0

unfoldable pub row_at : List ℕ → ℕ → ℕ → ℕ
row_at s b i = get_or s (b + i) 0

unfoldable pub column : List ℕ → (ℕ → ℕ) → ℕ → ℕ
column m x j = xor_all 8 (λ i. times (turned m i j) (x i))
