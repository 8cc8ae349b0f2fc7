-- `block::seal_parts` meets its contract: the header copied, then the payload sealed behind it.
-- Assumes nothing.
use native.Mathlib.Omega.{arith}
use Rattle.block.proofs.SealLaws.{parts_laid}
use Rattle.block.proofs.seal_parts.Goals as goal

pub returns : goal.returns
returns c =
    let l =
    parts_laid _ _ _ _ c.args.part.now c.copy.new.to c.requires.0 (omega arith) (omega arith) (omega arith) c.requires.1 c.copy.ensures c.seal.ensures in
    record { done = l.0; bytes = l.1 }
