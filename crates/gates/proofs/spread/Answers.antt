-- `gates::spread` meets its contract.
-- Assumes nothing.
use native.Mathlib.Omega.{arith}
use Rattle.gates.specs.Gates.{half}
use Rattle.gates.proofs.Bits.{four}
use Rattle.gates.proofs.Halves.{low_half}
use Rattle.gates.proofs.spread.Goals as goal

pub returns : goal.returns
unfolding half four
returns c = rw c.from-w.ensures (low_half c.args.x (omega arith))
