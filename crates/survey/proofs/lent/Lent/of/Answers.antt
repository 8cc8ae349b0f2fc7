-- `survey::lent::Lent::of` meets its contract: the size of a lawful image, and the key's length.
-- Assumes nothing.
use mathlib.Core.Path.{sym}
use native.Mathlib.Omega.{arith}
use Rattle.block.proofs.ImageSize.{image_sized, asked}
use Rattle.survey.proofs.lent.Lent.of.Goals as goal

pub invariant_of-result : goal.invariant_of-result
invariant_of-result c =
    let a = (asked _ _ 0 (sym c.in_ok-image_then_key.ensures)).0 in
    let z = image_sized _ a.image_holds in
    record { key24 = a.key24; blocks = omega (arith, z); most = z.most }
