use mathlib.Core.Path.{ap, subst}
use Prim.Native.Nat.{ℕ, ◌*◌}
use native.Mathlib.Omega.{arith}
use lib.ListN.{get_or}
use Rattle.planes.specs.Planes.{word}
use Rattle.planes.specs.Packing.{Holds}
use Rattle.planes.proofs.RowLaws.{first_more, first_all, words_is}
use Rattle.planes.proofs.words.Goals as goal

pub loop-b-preserved : goal.loop-b-preserved
loop-b-preserved c =
    let l = c.loop-b in
    first_more (λ i. Holds c.args.s.now (8 * i)) l.b _ l.words c.loop-b-test.true l.invariant c.row.ensures

pub returns : goal.returns
unfolding word
returns c =
    let l = c.loop-b in
    let all = first_all (λ i. Holds c.args.s.now (8 * i)) l.b l.words c.loop-b-test.false l.invariant in
    words_is _ _ c.told-s (λ i h. subst (Holds c.args.s.now (8 * i)) (ap (λ (j : ℕ). get_or l.words j 0) (omega arith)) (all i h))
