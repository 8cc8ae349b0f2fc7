-- `rounds::Back::rounds` meets its contract.
-- Assumes nothing.
use mathlib.Core.Path.{refl, ◌∙◌}
use Prim.Native.Nat.{◌-◌}
use native.Mathlib.Omega.{arith}
use Rattle.pi.specs.Permutation.{π⁻}
use Rattle.pi.proofs.Answers.{back_more, back_all}
use Rattle.rounds.proofs.PlaneRounds.{back_held}
use Rattle.rounds.proofs.BackWay.rounds.Goals as goal

pub loop-r-init : goal.loop-r-init
unfolding π⁻
loop-r-init c = refl

pub loop-r-preserved : goal.loop-r-preserved
loop-r-preserved c =
    let l = c.loop-r in
    back_more l.r _ _ c.loop-r-test.true (back_held (l.r - 1) l.s _ c.round_back.ensures) ∙ l.invariant

pub returns : goal.returns
returns c = back_all c.loop-r.r _ _ c.loop-r.invariant (omega arith)
