-- `block::payload_of` meets its contract: the bytes laid over zeros.
-- Assumes nothing.
use Rattle.block.proofs.PayloadLaws.{payload_copied}
use Rattle.block.proofs.payload_of.Goals as goal

pub returns : goal.returns
returns c = payload_copied c.args.bytes.now c.requires c.copy.ensures
