-- `rounds::every` meets its contract.
-- Assumes nothing.
use mathlib.Core.Path.{ap}
use Prim.Native.Nat.{ℕ, ◌*◌}
use Rattle.planes.specs.Planes.{bit, word}
use Rattle.planes.proofs.RowLaws.{first_more, first_all}
use Rattle.rounds.proofs.AlikeLaws.{alike_planes}
use Rattle.rounds.proofs.every.Invariants.{AllOrNone}
use Rattle.rounds.proofs.every.Goals as goal

pub loop-b-preserved : goal.loop-b-preserved
unfolding bit
loop-b-preserved c =
    let l = c.loop-b in
    first_more (AllOrNone c.args.byte) l.b _ l.words c.loop-b-test.true l.invariant (ap (λ (x : ℕ). x * 0xFFFFFFFFFFFFFFFF) c.from.ensures)

pub returns : goal.returns
unfolding bit word
returns c =
    let l = c.loop-b in
    alike_planes c.args.byte _ (first_all (AllOrNone c.args.byte) l.b l.words c.loop-b-test.false l.invariant)
