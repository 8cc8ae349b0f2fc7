-- `sponge::copy_all` meets its contract: what is laid over the whole buffer is all that it holds.
-- Assumes nothing.
use Rattle.sponge.proofs.CallLaws.{copied}
use Rattle.sponge.proofs.copy_all.Goals as goal

pub returns : goal.returns
returns c = copied c.args.out.now c.args.bytes.now _ c.requires c.copy.ensures
