-- `sponge::run` meets its contract.
-- Assumes nothing.
use mathlib.Core.Path.{◌≡◌}
use native.Mathlib.Omega.{arith}
use Rattle.sponge.proofs.Steps.{done_none, done_more, done_last}
use Rattle.sponge.proofs.run.Goals as goal

pub loop-k-init : goal.loop-k-init
loop-k-init g c = done_none _ _ _ _

pub loop-k-preserved : goal.loop-k-preserved
loop-k-preserved g c =
    let m = c.last-m.ensures in
    done_more c.loop-k.invariant c.loop-k.auto.io (omega arith) _ (omega arith) c.work.ensures _ (omega arith) c.between.ensures

pub returns : goal.returns
returns g c =
    let m = c.last-m.ensures in
    let h : c.loop-k.k ≡ c.last-m.result = omega arith in
    done_last (rw h at c.loop-k.invariant) c.loop-k.auto.io (omega arith) _ (omega arith) c.work-2.ensures _ _ (omega arith) m c.close.ensures
