-- `mixing::turned` meets its contract: each plane is turned.
-- Assumes nothing.
use Rattle.planes.specs.Planes.{word}
use Rattle.mixing.proofs.turned.Goals as goal

pub returns : goal.returns
unfolding word
returns g c = record { words = λ b h. (c.map.ensures.items.at b 0 0 h).2.met }
