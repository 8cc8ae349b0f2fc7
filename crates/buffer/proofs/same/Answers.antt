-- `buffer::same` meets its contract: the gathered differences are none exactly where the lists are the same.
-- Assumes nothing.
use mathlib.Core.Path.{ap, ◌∙◌}
use Prim.Native.Nat.{ℕ}
use lib.Dec.{eqb}
use Rattle.laws.proofs.SameLaws.{same_gathered, same_apart}
use Rattle.buffer.proofs.same.Goals as goal

pub returns-then-a-b : goal.returns-then-a-b
returns-then-a-b c = ap (λ (n : ℕ). eqb n 0) c.differing.ensures ∙ same_gathered _ _ c.if-a-b.true

pub returns-else-a-b : goal.returns-else-a-b
returns-else-a-b c = same_apart _ _ c.if-a-b.false
