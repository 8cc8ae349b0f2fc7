-- `reader::answer_with` meets its contract: zeros behind what is kept.
-- Assumes nothing.
use Prim.Native.Nat.{◌-◌}
use native.Mathlib.Omega.{arith}
use Rattle.reader.proofs.BufferLaws.{zeros_back}
use Rattle.reader.proofs.answer_with.Goals as goal

pub returns-clause-leaves : goal.returns-clause-leaves
returns-clause-leaves c = zeros_back c.args.buffer.now c.args.kept (31232 - c.args.kept) (omega arith) c.zero.ensures
