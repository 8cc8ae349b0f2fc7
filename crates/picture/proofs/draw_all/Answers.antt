-- `picture::draw_all` meets its contract. The invariant of its loop: the picture is drawn as far as p.
-- Assumes nothing.
use mathlib.Core.Path.{ap, ◌∙◌}
use Prim.Native.Nat.{◌≤◌, ◌<◌}
use native.Mathlib.Omega.{arith}
use lib.ListN.{length}
use Rattle.block.specs.Image.{capacity_of}
use Rattle.reader.specs.Reading.{read_answer}
use Rattle.reader.specs.Steps.{shown}
use Rattle.picture.specs.Picture.{draw_number}
use Rattle.picture.proofs.PictureLaws.{ready, ready_within, drawn_none, drawn_more, drawn_all}
use Rattle.picture.proofs.draw_all.Goals.{After-draw_answer-p}
use Rattle.picture.proofs.draw_all.Goals as goal

-- where the answer reaches
within : (c : After-draw_answer-p)
    → let l = c.loop-p in
    (l.p < c.draw_answer-p.result) × (c.draw_answer-p.result ≤ length l.out)
within c =
    let l = c.loop-p in
    let t = c.args.cartridge in
    let r = ready _ _ _ (ap (draw_number t.key.now t.image.now) l.auto.out ∙ c.requires) in
    rw c.draw_answer-p.ensures.says
    (ready_within r t.id t.recording l.p c.loop-p-test.true)

pub loop-p-init : goal.loop-p-init
loop-p-init c = (omega arith, drawn_none _ _ c.args.out.now)

pub draw_answer-p-requires : goal.draw_answer-p-requires
draw_answer-p-requires c =
    let t = c.args.cartridge in
    (ap (draw_number t.key.now t.image.now) c.loop-p.auto.out ∙ c.requires, c.loop-p-test.true)

pub loop-p-smaller : goal.loop-p-smaller
loop-p-smaller c =
    let w = within (goal.at.loop-p-smaller c).After-draw_answer-p in
    let w₀ = w.0 in
    let w₁ = w.1 in
    omega arith

pub loop-p-preserved : goal.loop-p-preserved
unfolding read_answer
loop-p-preserved c =
    let l = c.loop-p in
    let d = c.draw_answer-p in
    let t = c.args.cartridge in
    let w = within (goal.at.loop-p-preserved c).After-draw_answer-p in
    let w₁ = w.1 in
    let r = (ready _ _ _ c.requires).sized in (
      omega arith,
      drawn_more (shown t) (capacity_of t.image.now) l.p d.result l.out d.new.out (omega arith) (l.auto.out ∙ r) d.ensures.says d.ensures.leaves l.invariant.1,
    )

pub returns : goal.returns
returns c =
    let l = c.loop-p in
    let t = c.args.cartridge in
    let r = (ready _ _ _ c.requires).sized in
    drawn_all (shown t) (capacity_of t.image.now) l.p l.out (l.auto.out ∙ r) (omega arith) l.invariant.1
