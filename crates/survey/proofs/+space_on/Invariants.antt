-- `survey::space_on` falls back on itself with fewer blocks left.
-- Assumes nothing.
use Prim.Native.Nat.{◌-◌}
use Rattle.block.specs.Image.{capacity_of}
use Rattle.survey.proofs.+space_on.Given as goal

abbrev pub decreases-space_on : goal.decreases-space_on
decreases-space_on l = capacity_of l.lent.now.cartridge.image.now - l.p
