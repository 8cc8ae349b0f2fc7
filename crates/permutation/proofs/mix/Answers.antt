-- `permutation::mix` meets its contract. The invariant of its loop: the first i rows are mixed.
-- Assumes nothing.
use native.Mathlib.Omega.{arith}
use mathlib.Core.Path.{ap, ◌∙◌}
use Prim.Native.Nat.{◌+◌, ◌-◌, ◌*◌}
use lib.ListN.{length}
use Rattle.laws.specs.Lists.{splice}
use Rattle.laws.proofs.ListLaws.{front_none}
use Rattle.laws.proofs.SpliceLaws.{splice_mid}
use Rattle.permutation.proofs.Mixing.{rows_more, rows_all}
use Rattle.permutation.proofs.mix.Goals as goal

pub loop-i-init : goal.loop-i-init
loop-i-init g c = front_none _ _

pub loop-i-preserved : goal.loop-i-preserved
loop-i-preserved g c =
    let i = c.loop-i.i in
    let t = c.loop-i.to in
    let x = c.mixed_row-x.result in
    let e = splice_mid t (i * 8) (i * 8 + 8 - i * 8) c.copy_from_slice.new.self (ap length c.copy_from_slice.ensures.after ∙ omega arith)
    ∙ ap (splice t (i * 8)) c.copy_from_slice.ensures.after in
    e ∙ rows_more g.W.Way.first _ i _ _ _ c.loop-i.invariant c.mixed_row-x.ensures

pub returns : goal.returns
returns g c = rows_all g.W.Way.first _ _ _ _ c.loop-i.invariant c.told-to (omega arith)
