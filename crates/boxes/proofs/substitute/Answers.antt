-- `boxes::substitute` meets its contract.
-- Assumes nothing.
use Rattle.boxes.proofs.States.{done_forth}
use Rattle.boxes.proofs.substitute.Goals as goal

pub returns : goal.returns
returns c = done_forth _ _ c.by_columns.ensures
