-- `boxes::loaded` meets its contract.
-- Assumes nothing.
use Rattle.boxes.proofs.Columns.{read}
use Rattle.boxes.proofs.loaded.Goals as goal

pub returns : goal.returns
returns c =
    let a = c.args in
    λ n h. read a.s.now a.at n _ (c.twice.ensures n h) (c.twice-2.ensures n h) (c.twice-3.ensures n h) (c.twice-4.ensures n h)
