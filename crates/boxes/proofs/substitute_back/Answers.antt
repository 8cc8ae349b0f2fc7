-- `boxes::substitute_back` meets its contract.
-- Assumes nothing.
use Rattle.boxes.proofs.States.{done_back}
use Rattle.boxes.proofs.substitute_back.Goals as goal

pub returns : goal.returns
returns c = done_back _ _ c.by_columns.ensures
