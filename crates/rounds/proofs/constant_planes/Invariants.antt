-- The invariant of the loop of `rounds::constant_planes`: the first b words are there.
use mathlib.Core.Path.{◌≡◌}
use lib.ListN.{replicate}
use Rattle.laws.specs.Loops.{front}
use Rattle.rounds.proofs.ConstantLaws.{rule}
use Rattle.rounds.proofs.constant_planes.Given as goal

abbrev pub invariant-loop-b : goal.invariant-loop-b
invariant-loop-b l = l.words ≡ front l.b (rule l.r) (replicate 8 0)
