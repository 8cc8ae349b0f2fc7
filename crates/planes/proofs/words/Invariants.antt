-- The invariant of the loop of `planes::words`: the first b words hold their rows.
use Prim.Native.Nat.{◌*◌}
use Rattle.planes.specs.Packing.{Holds}
use Rattle.planes.proofs.RowLaws.{First}
use Rattle.planes.proofs.words.Given as goal

abbrev pub invariant-loop-b : goal.invariant-loop-b
invariant-loop-b l = First (λ i. Holds l.s (8 * i)) l.b l.words
