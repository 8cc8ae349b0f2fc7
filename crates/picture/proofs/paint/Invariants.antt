-- `picture::paint` meets its contract. The invariant of its loop: the blocks from p up to b are painted.
-- Assumes nothing.
use mathlib.Core.Path.{◌≡◌}
use Rattle.picture.specs.Steps.{painted}
use Rattle.picture.proofs.paint.Given as goal

abbrev pub invariant-loop-b : goal.invariant-loop-b
invariant-loop-b l = l.out ≡ painted l.outcome l.p l.b l.initial.out
