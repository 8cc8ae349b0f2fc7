-- `writer::WriterState::lay_record` meets its contract. The loop's invariant: laying what is left, from block p + i
-- on, gives the whole.
-- Assumes nothing.
use mathlib.Core.Path.{◌≡◌}
use Prim.Native.Nat.{◌+◌, ◌-◌, ◌≤◌}
use lib.ListN.{length, drop}
use Rattle.block.specs.Image.{lay}
use Rattle.writer.specs.Items.{rec, blocks}
use Rattle.writer.proofs.WriterState.lay_record.Given as goal

abbrev pub invariant-loop-i : goal.invariant-loop-i
invariant-loop-i l = (l.i ≤ l.k) × (length l.image ≡ length l.initial.image)
    × (lay l.key l.self.id l.self.recording l.image (l.self.position + l.i) (drop l.i (blocks (rec l.bytes))) ≡ lay l.key l.self.id l.self.recording l.initial.image l.self.position (blocks (rec l.bytes)))

abbrev pub decreases-loop-i : goal.decreases-loop-i
decreases-loop-i l = l.k - l.i
