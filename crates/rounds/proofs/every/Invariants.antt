-- The invariant of the loop of `rounds::every`: the first b words have all bits, or none.
use mathlib.Core.Path.{◌≡◌}
use Prim.Native.Nat.{ℕ, ◌*◌}
use Rattle.planes.specs.Planes.{bit}
use Rattle.planes.proofs.RowLaws.{First}
use Rattle.rounds.proofs.every.Given as goal

abbrev pub AllOrNone : ℕ → ℕ → ℕ → Type 0
AllOrNone c i x = x ≡ bit i c * 0xFFFFFFFFFFFFFFFF

abbrev pub invariant-loop-b : goal.invariant-loop-b
invariant-loop-b l = First (AllOrNone l.byte) l.b l.words
