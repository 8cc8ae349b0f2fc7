use lib.Dec.{lit<}
use Rattle.planes.specs.Planes.{bit}
use Rattle.planes.specs.Packing.{two}
use Rattle.planes.proofs.Crossing.{crossed, transposed_is}
use Rattle.planes.proofs.transposed.Goals as goal

pub across-x-requires : goal.across-x-requires
unfolding bit two
across-x-requires c = crossed 1 _ (lit< tt) (lit< tt) tt tt tt tt

pub across-y-requires : goal.across-y-requires
unfolding bit two
across-y-requires c = crossed 2 _ (lit< tt) (lit< tt) tt tt tt tt

pub across-requires : goal.across-requires
unfolding bit two
across-requires c = crossed 4 _ (lit< tt) (lit< tt) tt tt tt tt

pub returns : goal.returns
returns c = transposed_is _ _ _ _ c.across-x.ensures c.across-y.ensures c.across.ensures
