-- `Back::replaced` of `permutation` meets its contract: the same miniboxes between two exchanges of the halves.
-- Assumes nothing.
use mathlib.Core.Path.{ap, ◌∙◌}
use native.Mathlib.Omega.{arith}
use Rattle.pi.specs.Table.{S}
use Rattle.permutation.specs.Rows.{swapped}
use Rattle.permutation.proofs.Boxes.{restored_is}
use Rattle.permutation.proofs.BackWay.replaced.Goals as goal

pub returns : goal.returns
returns c =
    c.exchanged-2.ensures ∙ ap swapped (c.replaced.ensures ∙ ap S c.exchanged.ensures) ∙ restored_is c.args.x (omega arith)
