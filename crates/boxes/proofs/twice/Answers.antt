-- `boxes::twice` meets its contract.
-- Assumes nothing.
use native.Mathlib.Omega.{arith}
use Rattle.boxes.proofs.Bits.{bit_twice}
use Rattle.boxes.proofs.twice.Goals as goal

pub returns : goal.returns
returns c =
    let x = c.args.x in
    λ n h. rw (c.from-2.ensures, c.from.ensures) (bit_twice n x (omega arith) h)
