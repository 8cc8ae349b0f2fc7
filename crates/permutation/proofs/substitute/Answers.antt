-- `permutation::substitute` meets its contract. The invariant of its loop: the bytes before the index are done.
-- Assumes nothing.
use mathlib.Core.Path.{refl, ap, ◌∙◌}
use native.Mathlib.Omega.{arith}
use lib.ListN.{length-set}
use Rattle.laws.proofs.ListLaws.{front_none, front_seen, front_more}
use Rattle.permutation.proofs.Each.{rule_at, each_all}
use Rattle.permutation.proofs.substitute.Goals as goal

pub loop-b-init : goal.loop-b-init
loop-b-init g c = (refl, front_none _ _)

pub loop-b-preserved : goal.loop-b-preserved
loop-b-preserved g c =
    let l = c.loop-b in
    let f = g.W.Way.made in (
      simp length-set (omega arith),
      front_more _ _ _ _ _ l.invariant.1 (omega arith) (c.replaced.ensures ∙ ap f (front_seen _ _ _ _ l.invariant.1 (omega arith)) ∙ rule_at f _ l.b-index),
    )

pub returns : goal.returns
returns g c = each_all g.W.Way.made _ _ c.loop-b.b-index c.loop-b.invariant.1 (omega arith)
