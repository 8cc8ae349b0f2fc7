-- `permutation::substitute` meets its contract. The invariant of its loop: the bytes before the index are done.
-- Assumes nothing.
use mathlib.Core.Path.{◌≡◌}
use lib.ListN.{length}
use Rattle.laws.specs.Loops.{front}
use Rattle.permutation.proofs.Each.{rule}
use Rattle.permutation.proofs.substitute.Given as goal

abbrev pub invariant-loop-b : goal.invariant-loop-b
invariant-loop-b g l = (length l.bytes ≡ length l.initial.bytes) × (l.bytes ≡ front l.b-index (rule g.W.Way.made l.initial.bytes) l.initial.bytes)
