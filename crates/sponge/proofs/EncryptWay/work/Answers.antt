-- `sponge::EncryptWay::work` meets its contract.
-- Assumes nothing.
use native.Mathlib.Omega.{arith}
use Rattle.sponge.proofs.Groups.{encrypted}
use Rattle.sponge.proofs.EncryptWay.work.Goals as goal

pub returns : goal.returns
returns c = encrypted _ _ (omega arith) (omega arith) _ _ c.add.ensures (omega arith) c.copy.ensures
