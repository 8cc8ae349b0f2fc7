-- `survey::between` and `survey::inside` each hand the following block to the other or to itself; the measure is twice
-- the blocks left, and one more inside a record.
-- Assumes nothing.
use Prim.Native.Nat.{◌+◌, ◌-◌, ◌*◌}
use Rattle.block.specs.Image.{capacity_of}
use Rattle.survey.proofs.+between_inside.Given as goal

abbrev pub decreases-between : goal.decreases-between
decreases-between l = 2 * (capacity_of l.lent.now.cartridge.image.now - l.p)

abbrev pub decreases-inside : goal.decreases-inside
decreases-inside l = 2 * (capacity_of l.lent.now.cartridge.image.now - l.q) + 1
