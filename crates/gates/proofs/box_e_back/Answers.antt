-- `gates::box_e_back` meets its contract.
-- Assumes nothing.
use lib.Dec.{lit<}
use Rattle.pi.specs.Table.{E⁻}
use Rattle.gates.proofs.Halves.{alone}
use Rattle.gates.proofs.box_e_back.Goals as goal

pub returns : goal.returns
returns c = let e = c.alone.ensures in
    alone E⁻ 2 0xD c.args.x _ _ _ (lit< tt) e.2 (e.3.1 0 (lit< tt)) e.4
