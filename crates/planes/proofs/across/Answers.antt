use mathlib.Core.Path.{refl}
use native.Mathlib.Nat.{not-suc-le-zero}
use Rattle.planes.specs.Planes.{word}
use Rattle.planes.proofs.Crossing.{crossed_more, crossed_past, crossed_all}
use Rattle.planes.proofs.across.Goals as goal
use Rattle.planes.proofs.across.Goals.{then-i-eq0, else-i-eq0}

pub loop-i-init : goal.loop-i-init
loop-i-init g c = (refl, λ j h. absurd (not-suc-le-zero h))

pub loop-i-preserved : goal.loop-i-preserved
unfolding word
loop-i-preserved g c =
    let l = c.loop-i in
    elim c.if-i-eq0.branch [
      | then-i-eq0 w ↦
          crossed_more _ _ c.args.w c.requires l.i _ _ l.words _ w.words-is c.loop-i-test.true w.if-i-eq0.true w.cross-crossed.ensures l.invariant
      | else-i-eq0 w ↦ crossed_past _ _ c.args.w c.requires l.i l.words _ w.words-is w.if-i-eq0.false l.invariant
    ]

pub returns : goal.returns
unfolding word
returns g c = crossed_all _ _ _ c.requires c.loop-i.i c.loop-i.words c.loop-i-test.false c.loop-i.invariant.1
