-- The invariant of the loop of `rounds::Back::rounds`: what the planes hold, with the rounds below r undone, is the
-- answer.
use mathlib.Core.Path.{◌≡◌}
use Rattle.pi.specs.Permutation.{rounds⁻, π⁻}
use Rattle.rounds.specs.Rounds.{held}
use Rattle.rounds.proofs.BackWay.rounds.Given as goal

abbrev pub invariant-loop-r : goal.invariant-loop-r
invariant-loop-r l = rounds⁻ l.r (held 0x5D l.s) ≡ π⁻ (held 0x5D l.initial.s)
