-- `Back::column` of `boxes` meets its contract: the same circuits between two exchanges of the halves.
-- Assumes nothing.
use mathlib.Core.Path.{ap₂, ◌∙◌}
use Prim.Native.Nat.{◌+◌, ◌*◌}
use Rattle.gates.specs.Gates.{half}
use Rattle.gates.specs.declared.Four.{Four}
use Rattle.gates.proofs.Bits.{half_low}
use Rattle.boxes.specs.Boxes.{byte}
use Rattle.boxes.proofs.Columns.{comes}
use Rattle.boxes.proofs.BackWay.column.Goals as goal

pub returns : goal.returns
unfolding byte
returns c =
    let x = c.args.x in
    let y = c.column-y.result in
    λ n h.
    ap₂ (λ (l r : Four). half l n + 16 * half r n) c.exchanged-2.ensures.0 c.exchanged-2.ensures.1
    ∙ comes (half x.low n) (half x.high n) (half y.low n) (half y.high n) (half_low x.low n) (half_low x.high n) (half_low y.low n)
    (rw (c.exchanged.ensures.0, c.exchanged.ensures.1) at c.column-y.ensures n h)
