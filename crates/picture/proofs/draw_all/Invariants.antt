-- `picture::draw_all` meets its contract. The invariant of its loop: the picture is drawn as far as p.
-- Assumes nothing.
use Prim.Native.Nat.{◌-◌, ◌≤◌}
use lib.ListN.{length}
use Rattle.block.specs.Image.{capacity_of}
use Rattle.reader.specs.Steps.{shown}
use Rattle.picture.proofs.PictureLaws.{DrawnTo}
use Rattle.picture.proofs.draw_all.Given as goal

abbrev pub invariant-loop-p : goal.invariant-loop-p
invariant-loop-p l = (l.p ≤ length l.out) × DrawnTo (shown l.cartridge) (capacity_of l.cartridge.image.now) l.p l.out

abbrev pub decreases-loop-p : goal.decreases-loop-p
decreases-loop-p l = length l.initial.out - l.p
