use mathlib.Core.Path.{refl}
use native.Mathlib.Omega.{arith}
use Rattle.planes.specs.Planes.{word}
use Rattle.planes.proofs.RowLaws.{first_more, first_all, sum_at, sum_is}
use Rattle.planes.proofs.sum.Goals as goal
use Rattle.planes.proofs.sum.Invariants.{Sum}

pub loop-b-preserved : goal.loop-b-preserved
unfolding word
loop-b-preserved c =
    let l = c.loop-b in
    first_more (Sum c.args.p c.args.q) l.b _ l.words c.loop-b-test.true l.invariant (sum_at c.args.p c.args.q refl (omega arith) (omega arith))

pub returns : goal.returns
unfolding word
returns c =
    let l = c.loop-b in
    sum_is c.args.p c.args.q _ (first_all (Sum c.args.p c.args.q) l.b l.words c.loop-b-test.false l.invariant)
