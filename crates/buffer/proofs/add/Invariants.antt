-- `buffer::add` meets its contract. The invariant of its loop: the first k bytes of `from` are in.
-- Assumes nothing.
use mathlib.Core.Path.{◌≡◌}
use mathlib.Core.List.{List}
use Prim.Native.Nat.{ℕ, ◌-◌, ◌≤◌, min}
use lib.ListN.{length, get_or}
use Rattle.laws.specs.Loops.{front}
use Rattle.laws.specs.Xor.{xor}
use Rattle.buffer.proofs.add.Given as goal

unfoldable pub rule : List ℕ → List ℕ → ℕ → ℕ
rule f s k = xor (get_or s k 0) (get_or f k 0)

abbrev pub invariant-loop-k : goal.invariant-loop-k
invariant-loop-k l = (l.k ≤ l.n) × (l.n ≡ min (length l.initial.to) (length l.from)) × (length l.to ≡ length l.initial.to) × (l.to ≡ front l.k (rule l.from l.initial.to) l.initial.to)

abbrev pub decreases-loop-k : goal.decreases-loop-k
decreases-loop-k l = l.n - l.k
