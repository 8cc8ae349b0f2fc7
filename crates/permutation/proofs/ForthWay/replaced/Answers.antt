-- `Forth::replaced` of `permutation` meets its contract: the miniboxes make Table 1.1.
-- Assumes nothing.
use native.Mathlib.Omega.{arith}
use lib.Bits.{and_mask}
use Rattle.laws.specs.Xor.{xor}
use Rattle.permutation.proofs.Boxes.{replaced_is}
use Rattle.permutation.proofs.ForthWay.replaced.Goals as goal

pub returns : goal.returns
unfolding xor
returns c =
    let x = c.args.x in
    replaced_is _ _ _ _ _ _ _ c.box_e-u.ensures c.box_e_back-v.ensures c.box_r-w.ensures c.box_e.ensures c.box_e_back.ensures
    x (omega arith) (omega arith) (and_mask x 4)
