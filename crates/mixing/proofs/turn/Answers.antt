-- `mixing::turn` meets its contract.
-- Assumes nothing.
use Prim.Native.Nat.{◌*◌}
use native.Mathlib.Omega.{arith}
use Rattle.mixing.proofs.Bits.{turn_is}
use Rattle.mixing.proofs.turn.Goals as goal

pub returns : goal.returns
returns g c = turn_is (8 * g.row.COLUMNS) c.args.x c.rotate_left.result c.ranges.x.fits (omega (arith, c.requires.0)) (omega (arith, c.requires.1)) c.rotate_left.ensures
