-- `boxes::store` meets its contract.
-- Assumes nothing.
use Rattle.boxes.specs.Boxes.{stored}
use Rattle.boxes.proofs.store.Goals as goal

pub returns : goal.returns
unfolding stored
returns c = rw (c.turned.ensures, c.turned-2.ensures, c.turned-3.ensures, c.turned-4.ensures)
