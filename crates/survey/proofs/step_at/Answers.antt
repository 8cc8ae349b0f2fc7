-- `survey::step_at` meets its contract: there is room for block q or not.
-- Assumes nothing.
use Rattle.survey.proofs.CountLaws.{step_none, step_seen}
use Rattle.survey.proofs.step_at.Goals as goal

pub returns-then-end-q : goal.returns-then-end-q
returns-then-end-q c = step_none _ _ c.args.q c.if-end-q.true

pub returns : goal.returns
returns c = step_seen _ _ c.args.q c.if-end-q.false c.seen_at-seen.ensures c.told_inside.ensures c.passed_inside.ensures.says
