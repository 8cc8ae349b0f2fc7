-- `sponge::DecryptWay::work` meets its contract.
-- Assumes nothing.
use native.Mathlib.Omega.{arith}
use Rattle.sponge.proofs.Groups.{decrypted}
use Rattle.sponge.proofs.DecryptWay.work.Goals as goal

pub returns : goal.returns
returns c = decrypted _ _ (omega arith) (omega arith) _ _ c.add.ensures c.add-2.ensures
