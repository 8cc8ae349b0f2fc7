-- `rounds::constants::put_round` meets its contract. The invariant of its loop: the first b planes are there.
-- Assumes nothing.
use mathlib.Core.Path.{◌≡◌, subst}
use Prim.Native.Nat.{ℕ, ◌+◌, ◌*◌}
use native.Mathlib.Omega.{arith}
use Rattle.rounds.specs.Rounds.{Made}
use Rattle.rounds.proofs.ConstantLaws.{two_more}
use Rattle.rounds.proofs.constants.put_round.Goals as goal

pub loop-b-init : goal.loop-b-init
loop-b-init c =
    let r = c.args.r in
    let e : r * 16 ≡ r * 16 + 2 * 0 = omega arith in
    (omega arith, c.entries-low.ensures, c.entries-high.ensures, subst (λ (n : ℕ). Made n c.args.k.now) e c.requires.2)

pub loop-b-preserved : goal.loop-b-preserved
loop-b-preserved c =
    let l = c.loop-b in
    (omega arith, l.invariant.1, l.invariant.2, two_more l.k c.args.r l.b _ _ c.requires.1 (omega arith) l.invariant.1 l.invariant.2 l.invariant.3)

pub returns : goal.returns
returns c =
    let l = c.loop-b in
    let r = c.args.r in
    let e : r * 16 + 2 * l.b ≡ r * 16 + 16 = omega arith in
    subst (λ (n : ℕ). Made n l.k) e l.invariant.3
