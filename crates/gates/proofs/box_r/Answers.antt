-- `gates::box_r` meets its contract.
-- Assumes nothing.
use lib.Dec.{lit<}
use Rattle.pi.specs.Table.{R}
use Rattle.gates.proofs.Halves.{alone}
use Rattle.gates.proofs.box_r.Goals as goal

pub returns : goal.returns
returns c = let e = c.alone.ensures in
    alone R 2 0xB c.args.x _ _ _ (lit< tt) e.2 (e.3.1 0 (lit< tt)) e.4
