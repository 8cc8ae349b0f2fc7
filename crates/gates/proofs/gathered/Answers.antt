-- `gates::gathered` meets its contract.
-- Assumes nothing.
use Rattle.gates.specs.Gates.{half}
use Rattle.gates.proofs.Bits.{four}
use Rattle.gates.proofs.Halves.{laid_four}
use Rattle.gates.proofs.gathered.Goals as goal

pub returns : goal.returns
unfolding half four
returns c = laid_four _ _ _ _
