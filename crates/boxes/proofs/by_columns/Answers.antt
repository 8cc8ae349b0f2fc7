-- `boxes::by_columns` meets its contract. The invariant of its loop: the first j columns are done.
-- Assumes nothing.
use native.Mathlib.Omega.{arith}
use Rattle.boxes.proofs.States.{next, done}
use Rattle.boxes.proofs.by_columns.Goals as goal

pub loop-j-preserved : goal.loop-j-preserved
loop-j-preserved g c =
    next g.W.Way.made g.W.Way.turn c.args.s.now c.loop-j.t c.loop-j.j _ _ _ _ _ (omega arith) c.turn_of-k.ensures.1 c.turn_of-k.ensures.0
    c.loaded.ensures c.loaded-in-loop-j.ensures c.column-y.ensures
    c.store.ensures c.store-in-loop-j.ensures c.loop-j.invariant

pub returns : goal.returns
returns g c = done g.W.Way.made g.W.Way.turn c.args.s.now _ _ (omega arith) c.loop-j.invariant
