-- `writer::WriterState::write_mark` meets its contract: refused, too late, or laid.
-- Assumes nothing.
use borrow.Author.Tests.{lt-ltb, le-ltb}
use mathlib.Core.Path.{refl, sym, ◌∙◌}
use Prim.Native.Nat.{◌+◌, ◌≤◌, ◌<◌}
use native.Mathlib.Omega.{arith}
use Rattle.std.proofs.lemmas.Result.{err_from_is_err_and}
use Rattle.block.specs.Image.{lay}
use Rattle.writer.specs.Items.{fmark}
use Rattle.writer.specs.Writing.{room}
use Rattle.writer.proofs.Ready.{allowed_ready, allowed_facts, item_asks}
use Rattle.writer.proofs.Answers.{first_refused, write_refused, item_taken_at}
use Rattle.writer.proofs.WriterState.write_mark.Goals as goal

pub returns-in_err-key : goal.returns-in_err-key
returns-in_err-key c =
    let p = err_from_is_err_and c.from_residual.result c.from_residual.ensures.1 in
    rw (p.1, p.2) (first_refused _ _ _ fmark c.in_err-key.ensures.code)

pub overflow_add-next : goal.overflow_add-next
overflow_add-next c = let f = allowed_facts _ c.in_ok-key.ensures.code in omega arith

pub returns-then-self-next : goal.returns-then-self-next
unfolding room
returns-then-self-next c =
    let s = c.args.self.now in
    let h : s.capacity ≤ s.position + 1 = omega arith in
    write_refused _ _ _ fmark (sym (item_asks (allowed_ready c.in_ok-key.ensures.code) fmark ∙ simp (le-ltb _ _ h)))

pub lay_block-requires : goal.lay_block-requires
lay_block-requires c = let f = allowed_facts _ c.in_ok-key.ensures.code in (omega arith, omega arith, refl)

pub answer_at-requires : goal.answer_at-requires
answer_at-requires c = let f = allowed_facts _ c.in_ok-key.ensures.code in omega arith

-- there are no more marks than blocks before the position,
-- and these are fewer than the capacity
pub overflow_add-self : goal.overflow_add-self
overflow_add-self c = let f = allowed_facts _ c.in_ok-key.ensures.code in omega arith

pub returns : goal.returns
unfolding room lay
returns c =
    let s = c.args.self.now in
    let h : s.position + 1 < s.capacity = omega arith in
    item_taken_at _ _ _ fmark 1 (item_asks (allowed_ready c.in_ok-key.ensures.code) fmark ∙ simp (lt-ltb _ _ h)) refl refl (omega arith) (omega arith) c.answer_at.ensures (rw c.in_ok-key.ensures.key at c.lay_block.ensures)
