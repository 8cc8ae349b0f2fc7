-- `rounds::constants::put_round` meets its contract. The invariant of its loop: the first b planes are there.
-- Assumes nothing.
use mathlib.Core.Path.{◌≡◌}
use Prim.Native.Nat.{◌+◌, ◌-◌, ◌*◌, ◌≤◌}
use Rattle.rounds.specs.Rounds.{Made, entries_at}
use Rattle.rounds.proofs.constants.put_round.Given as goal

abbrev pub invariant-loop-b : goal.invariant-loop-b
invariant-loop-b l = (l.b ≤ 8) × (l.low ≡ entries_at (l.r * 8)) × (l.high ≡ entries_at (l.r * 8 + 4)) × Made (l.r * 16 + 2 * l.b) l.k

abbrev pub decreases-loop-b : goal.decreases-loop-b
decreases-loop-b l = 8 - l.b
