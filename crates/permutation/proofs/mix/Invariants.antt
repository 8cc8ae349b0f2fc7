-- `permutation::mix` meets its contract. The invariant of its loop: the first i rows are mixed.
-- Assumes nothing.
use mathlib.Core.Path.{◌≡◌}
use Prim.Native.Nat.{◌-◌, ◌*◌}
use Rattle.laws.specs.Loops.{front}
use Rattle.permutation.proofs.Mixing.{mixed_byte}
use Rattle.permutation.proofs.mix.Given as goal

abbrev pub invariant-loop-i : goal.invariant-loop-i
invariant-loop-i g l = (l.to ≡ front (l.i * 8) (mixed_byte g.W.Way.first l.from) l.initial.to)

abbrev pub decreases-loop-i : goal.decreases-loop-i
decreases-loop-i g l = 8 - l.i
