-- The steps of the state (FORMAT, "The permutation π"; the paper, 1.1), 64 bytes of which byte 8i + j is row i, column j; a round; the
-- permutation and its inverse; what a call promises.
use Rattle.std.specs.Prelude.{◌≡◌, Bool, ◌&&◌, List, [], ◌∷◌, ℕ, zero, suc, ◌+◌, ◌-◌, ◌*◌, ◌/◌, ◌%◌, eqb, ltb, length, get_or}
use Rattle.laws.specs.Choose.{pick}
use Rattle.laws.specs.Lists.{listed}
use Rattle.laws.specs.Xor.{xor, xor_all}
use Rattle.pi.specs.Table.{S, S⁻}
use Rattle.pi.specs.Field.{times}

-- the state whose byte at k is f k
unfoldable pub state_by : (ℕ → ℕ) → List ℕ
state_by f = listed 0 64 f

-- ---- substitute: each byte by the table
unfoldable pub substitute : List ℕ → List ℕ
substitute s = state_by (λ k. S (get_or s k 0))

-- ---- shift: the byte at row i, column j moves to row (i + j) mod 8, same column
unfoldable pub target : ℕ → ℕ
target k = (k / 8 + k % 8) % 8 * 8 + k % 8

-- where the byte that comes to k is from
unfoldable pub source : ℕ → ℕ
source k = (k / 8 + 8 - k % 8) % 8 * 8 + k % 8

unfoldable pub shift : List ℕ → List ℕ
shift s = state_by (λ k. get_or s (source k) 0)

-- ---- mix: each row, as a row vector, times the circulant matrix, given by its first row
unfoldable pub first_row : List ℕ
first_row = 1 ∷ 1 ∷ 4 ∷ 1 ∷ 8 ∷ 5 ∷ 2 ∷ 9 ∷ []

-- the matrix's entry at row i, column j: each next row is turned one place right
unfoldable pub turned : List ℕ → ℕ → ℕ → ℕ
turned m i j = get_or m ((j + 8 - i) % 8) 0

unfoldable pub mix_with : List ℕ → List ℕ → List ℕ
mix_with m s = state_by (λ k. xor_all 8 (λ i. times (turned m i (k % 8)) (get_or s (k / 8 * 8 + i) 0)))

unfoldable pub mix : List ℕ → List ℕ
mix s = mix_with first_row s

-- ---- a round: substitute, shift, mix, then a key of 64 bytes by xor
unfoldable pub scramble : List ℕ → List ℕ
scramble s = mix (shift (substitute s))

unfoldable pub added : List ℕ → List ℕ → List ℕ
added key s = state_by (λ k. xor (get_or s k 0) (get_or key k 0))

unfoldable pub round : List ℕ → List ℕ → List ℕ
round key s = added key (scramble s)

-- ---- the permutation: the key of round r has the table's entry at 8r + j in row 0, column j, and nothing in the other rows
unfoldable pub constant : ℕ → List ℕ
constant r = state_by (λ k. pick (ltb k 8) (S (r * 8 + k)) 0)

-- the rounds 0, 1, .. n - 1
unfoldable pub rounds : ℕ → List ℕ → List ℕ
rounds zero s = s
rounds (suc n) s = round (constant n) (rounds n s)

unfoldable pub π : List ℕ → List ℕ
π s = rounds 12 s

-- ---- and back
unfoldable pub substitute⁻ : List ℕ → List ℕ
substitute⁻ s = state_by (λ k. S⁻ (get_or s k 0))

unfoldable pub shift⁻ : List ℕ → List ℕ
shift⁻ s = state_by (λ k. get_or s (target k) 0)

unfoldable pub first_row⁻ : List ℕ
first_row⁻ = 0x04 ∷ 0xAF ∷ 0x0E ∷ 0xA4 ∷ 0xC2 ∷ 0xC2 ∷ 0xCB ∷ 0x3E ∷ []

unfoldable pub mix⁻ : List ℕ → List ℕ
mix⁻ s = mix_with first_row⁻ s

unfoldable pub scramble⁻ : List ℕ → List ℕ
scramble⁻ s = substitute⁻ (shift⁻ (mix⁻ s))

unfoldable pub round⁻ : List ℕ → List ℕ → List ℕ
round⁻ key s = scramble⁻ (added key s)

-- the rounds n - 1, .. 1, 0 undone
unfoldable pub rounds⁻ : ℕ → List ℕ → List ℕ
rounds⁻ zero s = s
rounds⁻ (suc n) s = rounds⁻ n (round⁻ (constant n) s)

unfoldable pub π⁻ : List ℕ → List ℕ
π⁻ s = rounds⁻ 12 s

-- ---- what a call gives: 0 and the new state, or 2 and the given one, by the lengths
unfoldable pub is_state : List ℕ → Bool
is_state s = eqb (length s) 64

pub record Permuted (by : List ℕ → List ℕ) (before : List ℕ) (r : ℕ) (after : List ℕ) : Type 0 where
  pub code : r ≡ pick (is_state before) 0 2
  pub state : after ≡ pick (is_state before) (by before) before

-- one round with a key of the caller's: both have 64 bytes
pub record Rounded (by : List ℕ → List ℕ → List ℕ) (key before : List ℕ) (r : ℕ) (after : List ℕ) : Type 0 where
  pub code : r ≡ pick (is_state before && is_state key) 0 2
  pub state : after ≡ pick (is_state before && is_state key) (by key before) before
