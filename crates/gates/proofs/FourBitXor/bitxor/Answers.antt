-- The sum of two `Four` of `gates` meets its contract.
-- Assumes nothing.
use Rattle.gates.specs.Gates.{half}
use Rattle.gates.proofs.Bits.{four, sum_is}
use Rattle.gates.proofs.FourBitXor.bitxor.Goals as goal

pub returns : goal.returns
unfolding half four
returns c = λ n h. sum_is n _ _ _ _ _ _ _ _
