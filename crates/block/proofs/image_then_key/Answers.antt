-- `block::image_then_key` meets its contract: an image that is none, first of all.
-- Assumes nothing.
use mathlib.Core.Path.{sym, ◌∙◌}
use Rattle.block.specs.Image.{image_ok, image_then_key}
use Rattle.block.proofs.image_then_key.Goals as goal

pub returns-then-not-is_image : goal.returns-then-not-is_image
unfolding image_then_key image_ok
returns-then-not-is_image c = rw (sym c.is_image.ensures ∙ c.if-not-is_image.true)
