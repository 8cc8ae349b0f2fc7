-- `buffer::zero` meets its contract. The invariant of its loop: the first k bytes are zero, the rest stands.
-- Assumes nothing.
use mathlib.Core.Path.{◌≡◌}
use mathlib.Core.List.{◌++◌}
use Prim.Native.Nat.{◌≤◌}
use lib.ListN.{length, drop, replicate}
use Rattle.buffer.proofs.zero.Given as goal

abbrev pub invariant-loop-k : goal.invariant-loop-k
invariant-loop-k l = (l.k ≤ length l.out) × (l.out ≡ replicate l.k 0 ++ drop l.k l.initial.out) × (length l.out ≡ length l.initial.out)
