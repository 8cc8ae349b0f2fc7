use Rattle.planes.proofs.RowLaws.{row_is}
use Rattle.planes.proofs.row.Goals as goal

pub returns : goal.returns
returns c = row_is c.args.s.now c.args.at _ (λ k. (c.type_inv.s k).fits) c.from_le_bytes.ensures
