-- `writer::WriterState::lay_block` meets its contract: the image from the block on is lent to the sealer.
-- Assumes nothing.
use native.Mathlib.Omega.{arith}
use Rattle.writer.proofs.Lent.{lent_part}
use Rattle.writer.proofs.WriterState.lay_block.Goals as goal

pub returns : goal.returns
returns c =
    lent_part c.args.image.now _ (omega arith) (omega arith) c.requires.2 (omega arith) c.seal_block.ensures
