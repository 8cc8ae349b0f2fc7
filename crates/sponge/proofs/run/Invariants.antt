-- `sponge::run` meets its contract. The invariant of its loop: k groups are done, the rest of the buffer stands.
-- Assumes nothing.
use Rattle.sponge.proofs.Steps.{Done}
use Rattle.sponge.proofs.run.Given as goal

abbrev pub invariant-loop-k : goal.invariant-loop-k
invariant-loop-k g l = Done g.W.Way.op l.domain l.initial.state l.initial.io l.k l.state l.io
