-- The invariant of the loop of `rounds::Forth::rounds`: the planes hold the state after r rounds.
use mathlib.Core.Path.{◌≡◌}
use Rattle.pi.specs.Permutation.{rounds}
use Rattle.rounds.specs.Rounds.{held}
use Rattle.rounds.proofs.ForthWay.rounds.Given as goal

abbrev pub invariant-loop-r : goal.invariant-loop-r
invariant-loop-r l = held 0x62 l.s ≡ rounds l.r (held 0x62 l.initial.s)
