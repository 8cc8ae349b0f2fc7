-- `block::is_zero` meets its contract. The invariant: what is gathered and what is left say together what the whole
-- says.
-- Assumes nothing.
use mathlib.Core.Path.{sym, ◌∙◌}
use native.Mathlib.Omega.{arith}
use Rattle.block.proofs.ZeroLaws.{gather_more, gather_all}
use Rattle.block.proofs.is_zero.Goals as goal

pub loop-byte-preserved : goal.loop-byte-preserved
loop-byte-preserved c = let l = c.loop-byte in gather_more _ l.byte-index l.any (omega arith) ∙ l.invariant

pub returns : goal.returns
returns c = let l = c.loop-byte in sym (gather_all _ l.byte-index l.any (omega arith)) ∙ l.invariant
