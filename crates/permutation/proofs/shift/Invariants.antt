-- `permutation::shift` meets its contract. The invariant of its loop: the first k bytes are in their places.
-- Assumes nothing.
use mathlib.Core.Path.{◌≡◌}
use Prim.Native.Nat.{◌-◌}
use Rattle.laws.specs.Loops.{front}
use Rattle.permutation.proofs.Each.{move_rule}
use Rattle.permutation.proofs.shift.Given as goal

abbrev pub invariant-loop-k : goal.invariant-loop-k
invariant-loop-k g l = (l.to ≡ front l.k (move_rule g.W.Way.place l.from) l.initial.to)

abbrev pub decreases-loop-k : goal.decreases-loop-k
decreases-loop-k g l = 64 - l.k
