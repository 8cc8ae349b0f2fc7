-- `buffer::copy` meets its contract. The invariant of its loop: the first bytes of `from` are laid over the front.
-- Assumes nothing.
use mathlib.Core.Path.{◌≡◌}
use Prim.Native.Nat.{◌≤◌, min}
use lib.ListN.{length, take}
use Rattle.laws.specs.Lists.{splice}
use Rattle.buffer.proofs.copy.Given as goal

abbrev pub invariant-loop-at : goal.invariant-loop-at
invariant-loop-at l = (l.at ≤ l.n) × (l.n ≡ min (length l.initial.to) (length l.from)) × (length l.to ≡ length l.initial.to) × (l.to ≡ splice l.initial.to 0 (take l.at l.from))
