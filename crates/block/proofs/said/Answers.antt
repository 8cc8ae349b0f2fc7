-- `block::said` meets its contract: the kind that the header says, if the payload can be of its size.
-- Assumes nothing.
use mathlib.Core.Path.{sym, ◌∙◌}
use Rattle.block.proofs.ContentLaws.{said_is}
use Rattle.block.proofs.said.Goals as goal

pub returns-then-fits : goal.returns-then-fits
returns-then-fits c =
    let a = c.args in
    c.seen.ensures ∙ sym (said_is a.kind a.last a.used ∙ rw (sym c.said.ensures ∙ c.in-Some.is, sym c.fits.ensures ∙ c.if-fits.true))

pub returns-else-fits : goal.returns-else-fits
returns-else-fits c =
    let a = c.args in
    sym (said_is a.kind a.last a.used ∙ rw (sym c.said.ensures ∙ c.in-Some.is, sym c.fits.ensures ∙ c.if-fits.false))

pub returns-in_default : goal.returns-in_default
returns-in_default c =
    let a = c.args in
    sym (said_is a.kind a.last a.used ∙ rw (sym c.said.ensures ∙ c.in_default.is))
