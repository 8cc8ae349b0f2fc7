-- Cited by the invariants of loops alone: no promise names what stands here.
use Rattle.std.specs.Prelude.{List, ◌++◌, ℕ, drop}
use Rattle.laws.specs.Lists.{listed}

-- the first i places by the rule f, the rest of s as it stands: a loop that rewrites s has come to i
unfoldable pub front : ℕ → (ℕ → ℕ) → List ℕ → List ℕ
front i f s = listed 0 i f ++ drop i s
