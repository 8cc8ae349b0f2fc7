-- Turns of words, and what whole planes do to the state that they hold.
use Rattle.std.specs.Prelude.{◌≡◌, List, ℕ, ◌+◌, ◌-◌, ◌*◌, ◌%◌, ◌<◌, get_or}
use Rattle.pi.specs.Field.{times}
use Rattle.pi.specs.Permutation.{state_by}
use Rattle.planes.specs.Planes.{bit, word}
use Rattle.planes.specs.declared.Planes.{Planes}

-- the place that a turn by k bits takes to n
unfoldable pub before : ℕ → ℕ → ℕ
before k n = (n + (64 - k)) % 64

-- r is x turned left by k bits
pub record Turned (k x r : ℕ) : Type 0 where
  pub bits : (n : ℕ) → n < 64 → bit n r ≡ bit (before k n) x

-- r's words are p's, turned left by d columns: so are the rows of the state
pub record Rows_turned (d : ℕ) (p r : Planes) : Type 0 where
  pub words : (b : ℕ) → b < 8 → Turned (8 * d) (word p b) (word r b)

-- the state whose bytes are doubled
unfoldable pub bytes_doubled : List ℕ → List ℕ
bytes_doubled s = state_by (λ k. times 2 (get_or s k 0))
