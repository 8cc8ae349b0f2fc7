-- `reader::look_number` meets its contract: its tests, one after the other.
-- Assumes nothing.
use mathlib.Core.Path.{sym, ◌∙◌}
use borrow.Author.Tests.{lt-ltb, le-ltb}
use Prim.Native.Nat.{◌/◌}
use native.Mathlib.Omega.{arith}
use lib.ListN.{length}
use Rattle.block.specs.Image.{image_ok, capacity_of}
use Rattle.reader.specs.Reading.{look_number}
use Rattle.reader.proofs.look_number.Goals as goal

pub returns-then-not-is_image : goal.returns-then-not-is_image
unfolding look_number image_ok
returns-then-not-is_image c = rw (sym c.is_image.ensures ∙ c.if-not-is_image.true)

pub returns-else-p-image : goal.returns-else-p-image
unfolding look_number image_ok capacity_of
returns-else-p-image c =
    let a = c.args in
    rw (sym c.is_image.ensures ∙ c.if-not-is_image.false, le-ltb a.p (length a.image.now / 512) (omega arith))

pub returns-then-p-image : goal.returns-then-p-image
unfolding look_number image_ok capacity_of
returns-then-p-image c =
    let a = c.args in
    rw (sym c.is_image.ensures ∙ c.if-not-is_image.false, lt-ltb a.p (length a.image.now / 512) (omega arith))
