-- `permutation::exchanged` meets its contract.
-- Assumes nothing.
use native.Mathlib.Omega.{arith}
use Rattle.permutation.proofs.Boxes.{exchanged_is}
use Rattle.permutation.proofs.exchanged.Goals as goal

pub returns : goal.returns
returns c = exchanged_is c.args.x (omega arith)
