-- `reader::read_lent` meets its contract: an answer for each thing that block p may show.
-- Assumes nothing.
use mathlib.Core.Path.{ap, ◌∙◌}
use mathlib.Core.Bool.{Bool}
use native.Mathlib.Omega.{arith}
use Rattle.block.specs.declared.Seen.TheVariants as seen
use Rattle.block.proofs.ViewLaws.{view_sized}
use Rattle.reader.specs.Steps.{shown}
use Rattle.reader.specs.Reading.{read_answer}
use Rattle.reader.proofs.GatherLaws.{Begun, begun_shut, begun_more, begun_mark, begun_end, begun_last, begun_first}
use Rattle.reader.proofs.read_lent.Goals as goal
use Rattle.reader.proofs.read_lent.Goals.{After-open_at}

-- block p, opened into the front
begun : (c : After-open_at)
    → let a = c.args in
    Begun (shown a.cartridge) a.p a.buffer.now c.open_at.new.buffer c.open_at.result
begun c =
    let a = c.args in
    let t = a.cartridge in
    record {
      long = omega arith;
      sized = view_sized t.key.now t.id t.recording t.image.now a.p (omega arith);
      says = c.open_at.ensures.says;
      leaves = c.open_at.ensures.leaves;
    }

pub returns-in-Shut : goal.returns-in-Shut
unfolding read_answer
returns-in-Shut c = begun_shut _ (begun (goal.at.returns-in-Shut c).After-open_at) c.in-Shut.is c.answer_with.ensures

pub returns-in-First-true-default : goal.returns-in-First-true-default
unfolding read_answer
returns-in-First-true-default c =
    let m = c.in-First-true-default in
    begun_last _ (begun (goal.at.returns-in-First-true-default c).After-open_at) (m.is ∙ ap (λ (x : Bool). seen.First x m.used) m.field-0-test) c.answer_with-in-First-true-default.ensures

pub returns-in-First-false-default : goal.returns-in-First-false-default
unfolding read_answer
returns-in-First-false-default c =
    let m = c.in-First-false-default in
    begun_first _ (begun (goal.at.returns-in-First-false-default c).After-open_at) (m.is ∙ ap (λ (x : Bool). seen.First x m.field-1) m.field-0-test) c.read_rest.ensures

pub returns-in-More : goal.returns-in-More
unfolding read_answer
returns-in-More c = begun_more _ (begun (goal.at.returns-in-More c).After-open_at) c.in-More.is c.answer_with-in-More.ensures

pub returns-in-Mark : goal.returns-in-Mark
unfolding read_answer
returns-in-Mark c = begun_mark _ (begun (goal.at.returns-in-Mark c).After-open_at) c.in-Mark.is c.answer_with-in-Mark.ensures

pub returns-in-End : goal.returns-in-End
unfolding read_answer
returns-in-End c = begun_end _ (begun (goal.at.returns-in-End c).After-open_at) c.in-End.is c.answer_with-in-End.ensures
