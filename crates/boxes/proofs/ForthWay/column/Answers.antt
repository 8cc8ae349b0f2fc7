-- `Forth::column` of `boxes` meets its contract.
-- Assumes nothing.
use Rattle.gates.specs.Gates.{half}
use Rattle.gates.proofs.Bits.{half_low}
use Rattle.boxes.specs.Boxes.{byte}
use Rattle.boxes.proofs.Columns.{goes}
use Rattle.boxes.proofs.ForthWay.column.Goals as goal

pub returns : goal.returns
unfolding byte
returns c =
    let x = c.args.x in
    λ n h. goes (half x.high n) (half x.low n) _ _ _ _ _ _ _ _ (half_low x.high n) (half_low x.low n)
    (c.high_in-u.ensures n h) (c.low_in-v.ensures n h) (c.bitxor.ensures n h) (c.between-w.ensures n h)
    (c.bitxor-2.ensures n h) (c.high_out-h.ensures n h) (c.bitxor-3.ensures n h) (c.low_out-l.ensures n h)
