-- `writer::WriterState::lay_piece` meets its contract: the image from the block on is lent to the sealer.
-- Assumes nothing.
use borrow.Author.Tests.{eq-eqb, ne_eqb}
use mathlib.Core.Bool.{Bool}
use mathlib.Core.Path.{◌≡◌, sym, ap, ◌∙◌}
use Prim.Native.Nat.{◌+◌}
use native.Mathlib.Omega.{arith}
use lib.Dec.{eqb}
use Rattle.block.specs.Content.{Content}
use Rattle.block.specs.Format.{seal_block}
use Rattle.block.specs.Image.{set_block}
use Rattle.writer.proofs.Pieces.{cut, kind_at, cut_fits, cut_is_piece}
use Rattle.writer.proofs.WriterState.lay_piece.Goals as goal
use Rattle.writer.proofs.WriterState.lay_piece.Goals.{Joined-i-eq0, then-i-eq0, else-i-eq0}

-- the block's kind, by which arm control came
kind-is : (c : Joined-i-eq0) → let a = c.args in c.if-i-eq0.kind ≡ kind_at (eqb a.i 0) (eqb (a.i + 1) a.k)
kind-is c =
    let a = c.args in
    elim c.if-i-eq0.branch [
      | then-i-eq0 w ↦ w.kind-is ∙ sym (ap (λ (b : Bool). kind_at b (eqb (a.i + 1) a.k)) (eq-eqb _ _ w.if-i-eq0.true))
      | else-i-eq0 w ↦ w.kind-is ∙ sym (ap (λ (b : Bool). kind_at b (eqb (a.i + 1) a.k)) (ne_eqb _ _ w.if-i-eq0.false))
    ]

pub slice_bounds-lay_block-start : goal.slice_bounds-lay_block-start
slice_bounds-lay_block-start c = let k = cut _ _ _ _ c.requires.3 c.requires.2 c.min-to.ensures in omega arith

pub slice_bounds-lay_block-count : goal.slice_bounds-lay_block-count
slice_bounds-lay_block-count c = let k = cut _ _ _ _ c.requires.3 c.requires.2 c.min-to.ensures in omega arith

pub lay_block-requires : goal.lay_block-requires
lay_block-requires c =
    let a = c.args in
    let r = c.requires in
    let o = kind-is (goal.at.lay_block-requires c).Joined-i-eq0 in
    (omega arith, omega arith, cut_fits a.bytes.now a.k a.i c.min-to.result c.if-i-eq0.kind r.3 r.2 c.min-to.ensures o)

pub returns : goal.returns
returns c =
    let a = c.args in
    let r = c.requires in
    let o = kind-is (goal.at.returns c).Joined-i-eq0 in
    c.lay_block.ensures
    ∙ ap (λ (x : Content). set_block a.image.now (a.self.position + a.i) (seal_block a.key.now a.self.id a.self.recording (a.self.position + a.i) x))
    (cut_is_piece a.bytes.now a.k a.i c.min-to.result c.if-i-eq0.kind r.3 r.2 c.min-to.ensures o)
