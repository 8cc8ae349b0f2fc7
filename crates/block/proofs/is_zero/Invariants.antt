-- `block::is_zero` meets its contract. The invariant: what is gathered and what is left say together what the whole
-- says.
-- Assumes nothing.
use mathlib.Core.Path.{◌≡◌}
use mathlib.Core.Bool.{◌&&◌}
use lib.Dec.{eqb}
use lib.ListN.{drop}
use Rattle.block.specs.Format.{all_zero}
use Rattle.block.proofs.is_zero.Given as goal

abbrev pub invariant-loop-byte : goal.invariant-loop-byte
invariant-loop-byte l = (eqb l.any 0 && all_zero (drop l.byte-index l.bytes)) ≡ all_zero l.bytes
