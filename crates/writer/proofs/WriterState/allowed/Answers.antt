-- `writer::WriterState::allowed` meets its contract: image and key, then the state.
-- Assumes nothing.
use mathlib.Core.Path.{sym, ◌∙◌}
use Rattle.std.proofs.lemmas.Result.{err_from_is_err_and}
use Rattle.numbers.proofs.RefusalLaws.{cause_not_0}
use Rattle.block.specs.Image.{capacity_of}
use Rattle.block.proofs.ImageSize.{asks_refused, asks_rest, asked}
use Rattle.writer.specs.Writing.{call_number, close_number}
use Rattle.writer.proofs.WriterState.allowed.Goals as goal
use Rattle.writer.proofs.WriterState.allowed.Goals.{In_ok-image_then_key}

pub returns-in_err-image_then_key : goal.returns-in_err-image_then_key
unfolding close_number call_number
returns-in_err-image_then_key c =
    let p = err_from_is_err_and c.from_residual.result c.from_residual.ensures.1 in
    let e = c.in_err-image_then_key.ensures in
    rw (p.1, p.2) record { code = e ∙ sym (asks_refused _ _ _ (λ z. cause_not_0 _ (e ∙ z))); key = tt }

pub returns-then-not-is_lawful : goal.returns-then-not-is_lawful
unfolding close_number call_number capacity_of
returns-then-not-is_lawful c =
    let a = (asked _ _ 0 (sym c.in_ok-image_then_key.ensures)).0 in
    record { code = sym (asks_rest _ _ a _ ∙ rw ((sym c.is_lawful.ensures ∙ c.if-not-is_lawful.true))); key = tt }

pub returns-then-self : goal.returns-then-self
unfolding close_number call_number capacity_of
returns-then-self c =
    let a = (asked _ _ 0 (sym c.in_ok-image_then_key.ensures)).0 in
    record { code = sym (asks_rest _ _ a _ ∙ rw ((sym c.is_lawful.ensures ∙ c.if-not-is_lawful.false), c.if-self.true)); key = tt }

pub returns-in-Some : goal.returns-in-Some
unfolding close_number call_number capacity_of
returns-in-Some c =
    let a = (asked _ _ 0 (sym c.in_ok-image_then_key.ensures)).0 in
    record { code = sym (asks_rest _ _ a _ ∙ rw ((sym c.is_lawful.ensures ∙ c.if-not-is_lawful.false), c.if-self.false)); key = c.in-Some.ensures.cases.same }

pub returns-in-None : goal.returns-in-None
returns-in-None c =
    let a = (asked _ _ 0 (sym c.in_ok-image_then_key.ensures)).0 in
    absurd (c.in-None.ensures.cases a.key24)
