-- `writer::WriterState::lay_record` meets its contract. The loop's invariant: laying what is left, from block p + i
-- on, gives the whole.
-- Assumes nothing.
use mathlib.Core.Path.{refl, sym, ◌∙◌}
use Rattle.writer.proofs.Pieces.{lay_none, lay_next, lay_all}
use borrow.Author.Rules.{rules}
use Rattle.writer.proofs.WriterState.lay_record.Goals as goal

pub loop-i-init : goal.loop-i-init
loop-i-init c = (search rules, refl, lay_none _ _ _ _ _ _)

pub loop-i-preserved : goal.loop-i-preserved
loop-i-preserved c =
    let l = c.loop-i in
    let a = c.args in (
      search rules,
      c.lay_piece.auto.image ∙ l.invariant.1,
      lay_next a.key.now a.self.id a.self.recording l.image _ a.self.position a.k l.i a.bytes.now c.requires.2 c.loop-i-test.true c.lay_piece.ensures ∙ l.invariant.2,
    )

pub returns : goal.returns
returns c =
    let l = c.loop-i in
    let a = c.args in
    sym (lay_all a.key.now a.self.id a.self.recording l.image a.self.position a.k l.i a.bytes.now c.requires.2 c.loop-i-test.false) ∙ l.invariant.2
