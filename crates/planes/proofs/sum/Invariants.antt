-- The invariant of the loop of `planes::sum`: the first b words are sums.
use mathlib.Core.Path.{◌≡◌}
use Prim.Native.Nat.{ℕ}
use lib.Bits.{bit_xor}
use Rattle.planes.specs.Planes.{word}
use Rattle.planes.specs.declared.Planes.{Planes}
use Rattle.planes.proofs.RowLaws.{First}
use Rattle.planes.proofs.sum.Given as goal

abbrev pub Sum : Planes → Planes → ℕ → ℕ → Type 0
Sum p q i x = x ≡ bit_xor (word p i) (word q i)

abbrev pub invariant-loop-b : goal.invariant-loop-b
invariant-loop-b l = First (Sum l.p l.q) l.b l.words
