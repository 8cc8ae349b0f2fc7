-- `rounds::Forth::rounds` meets its contract.
-- Assumes nothing.
use mathlib.Core.Path.{refl, sym, ap, ◌∙◌}
use Prim.Native.Nat.{ℕ}
use native.Mathlib.Numerals.{add-one}
use native.Mathlib.Omega.{arith}
use Rattle.pi.specs.Permutation.{constant, round, rounds}
use Rattle.pi.proofs.Answers.{rounds_all}
use Rattle.rounds.specs.Rounds.{held}
use Rattle.rounds.proofs.PlaneRounds.{round_held}
use Rattle.rounds.proofs.ForthWay.rounds.Goals as goal

pub loop-r-init : goal.loop-r-init
unfolding rounds
loop-r-init c = refl

pub loop-r-preserved : goal.loop-r-preserved
unfolding rounds
loop-r-preserved c =
    let l = c.loop-r in
    round_held l.r l.s _ c.round.ensures ∙ ap (round (constant l.r)) l.invariant ∙ sym (ap (λ (n : ℕ). rounds n (held 0x62 c.args.s.now)) (add-one l.r))

pub returns : goal.returns
returns c = rounds_all c.loop-r.r _ _ c.loop-r.invariant (omega arith)
