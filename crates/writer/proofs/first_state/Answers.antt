-- `writer::first_state` meets its contract: its two tests, then the zeros.
-- Assumes nothing.
use mathlib.Core.Path.{sym, ◌∙◌}
use Rattle.block.specs.Image.{capacity_of, image_ok}
use Rattle.writer.specs.Writing.{start_number, start}
use Rattle.writer.proofs.Answers.{start_refused}
use Rattle.writer.proofs.first_state.Goals as goal

pub returns-then-not-is_image : goal.returns-then-not-is_image
unfolding start_number image_ok
returns-then-not-is_image c = start_refused _ _ _ _ (rw (sym c.is_image.ensures ∙ c.if-not-is_image.true))

pub returns-then-not-is_zone : goal.returns-then-not-is_zone
unfolding start_number image_ok capacity_of
returns-then-not-is_zone c =
    start_refused _ _ _ _ (rw (sym c.is_image.ensures ∙ c.if-not-is_image.false, sym c.is_zone.ensures ∙ c.if-not-is_zone.true))

pub returns : goal.returns
unfolding start start_number image_ok capacity_of
returns c =
    let e = sym c.is_image.ensures ∙ c.if-not-is_image.false in
    let f = sym c.is_zone.ensures ∙ c.if-not-is_zone.false in
    record { says = rw (e, f); number = rw (e, f); leaves = c.zero.ensures ∙ rw (e, f) }
