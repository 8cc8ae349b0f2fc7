-- `boxes::by_columns` meets its contract. The invariant of its loop: the first j columns are done.
-- Assumes nothing.
use Prim.Native.Nat.{◌-◌}
use Rattle.boxes.proofs.States.{SoFar}
use Rattle.boxes.proofs.by_columns.Given as goal

abbrev pub invariant-loop-j : goal.invariant-loop-j
invariant-loop-j g l = SoFar g.W.Way.made g.W.Way.turn l.s l.t l.j

abbrev pub decreases-loop-j : goal.decreases-loop-j
decreases-loop-j g l = 8 - l.j
