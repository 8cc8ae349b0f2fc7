-- `permutation::shift` meets its contract. The invariant of its loop: the first k bytes are in their places.
-- Assumes nothing.
use mathlib.Core.Path.{ap}
use native.Mathlib.Omega.{arith}
use Prim.Native.Nat.{ℕ}
use lib.ListN.{get_or}
use Rattle.laws.proofs.ListLaws.{front_none, front_more}
use Rattle.permutation.proofs.Each.{move_rule, moved_all}
use Rattle.permutation.proofs.shift.Goals as goal

pub loop-k-init : goal.loop-k-init
loop-k-init g c = front_none _ _

pub loop-k-preserved : goal.loop-k-preserved
unfolding move_rule
loop-k-preserved g c =
    let s = c.args.from.now in
    front_more _ _ _ _ _ c.loop-k.invariant (omega arith) (ap (λ (n : ℕ). get_or s n 0) c.taken_from.ensures.0)

pub returns : goal.returns
returns g c = moved_all g.W.Way.place _ _ _ _ c.loop-k.invariant c.told-to (omega arith)
