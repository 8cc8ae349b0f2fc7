use mathlib.Core.Path.{◌≡◌, ap, ◌∙◌}
use Prim.Native.Nat.{ℕ, ◌*◌}
use native.Mathlib.Omega.{arith}
use lib.ListN.{get_or}
use Rattle.planes.specs.Planes.{word}
use Rattle.planes.specs.Packing.{stored}
use Rattle.planes.proofs.RowLaws.{put_all}
use Rattle.planes.proofs.Stores.{put_stored}
use Rattle.planes.proofs.put_words.Goals as goal

pub loop-b-preserved : goal.loop-b-preserved
unfolding word
loop-b-preserved c =
    let l = c.loop-b in
    let at : c.store.new.s ≡ stored l.s (8 * l.b) (word c.args.p l.b) =
    c.store.ensures ∙ ap (λ (j : ℕ). stored l.s (8 * l.b) (get_or c.args.p.words j 0)) (omega arith) in
    put_stored c.args.p l.b l.s _ c.loop-b-test.true at l.invariant

pub returns : goal.returns
returns c = put_all c.args.p c.loop-b.b c.loop-b.s c.loop-b-test.false c.loop-b.invariant
