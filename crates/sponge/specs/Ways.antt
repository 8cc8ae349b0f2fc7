-- Cited by private contracts alone: what an operation promises of one group, and of all.
use Rattle.std.specs.Prelude.{◌≡◌, List, ℕ}
use Rattle.sponge.specs.Blink.{Op, kept, given, after, out}

-- one group g
pub record Worked (op : Op) (g v v' g' : List ℕ) : Type 0 where
  pub state : v' ≡ kept op v g
  pub bytes : g' ≡ given op v g

-- all of s
pub record RanAll (op : Op) (domain : ℕ) (s v v' s' : List ℕ) : Type 0 where
  pub state : v' ≡ after op domain v s
  pub bytes : s' ≡ out op domain v s
