-- `rounds::constant_planes` meets its contract.
-- Assumes nothing.
use mathlib.Core.List.{List}
use mathlib.Core.Path.{ap, ◌∙◌}
use Prim.Native.Nat.{◌+◌, ◌*◌}
use native.Mathlib.Omega.{arith}
use lib.ListN.{replicate}
use Rattle.laws.proofs.ListLaws.{front_none, front_more}
use Rattle.rounds.specs.Rounds.{word_at}
use Rattle.rounds.proofs.ConstantLaws.{rule, constant_is}
use Rattle.rounds.proofs.constant_planes.Goals as goal

pub loop-b-init : goal.loop-b-init
loop-b-init c = front_none (rule c.args.r) (replicate 8 0)

pub loop-b-preserved : goal.loop-b-preserved
unfolding rule
loop-b-preserved c =
    let l = c.loop-b in
    front_more l.b (rule c.args.r) (replicate 8 0) l.words _ l.invariant c.loop-b-test.true
    (c.word.ensures ∙ ap (λ (t : List _). word_at t (c.args.r * 16 + 2 * l.b)) c.requires.0)

pub returns : goal.returns
returns c = constant_is c.args.r c.loop-b.b c.loop-b.words c.loop-b.invariant (omega arith)
