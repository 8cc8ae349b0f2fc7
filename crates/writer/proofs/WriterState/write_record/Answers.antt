-- `writer::WriterState::write_record` meets its contract: refused, or its blocks laid.
-- Assumes nothing.
use borrow.Author.Tests.{lt-ltb, le-ltb}
use mathlib.Core.Path.{◌≡◌, sym, ◌∙◌}
use mathlib.Core.Bool.{true, false}
use Prim.Native.Nat.{◌+◌, ◌≤◌, ◌<◌}
use native.Mathlib.Omega.{arith}
use lib.ListN.{length}
use Rattle.std.proofs.lemmas.Result.{err_from_is_err_and}
use Rattle.std.proofs.lemmas.Bool.Decides.{nat_tests}
use Rattle.writer.specs.Items.{rec, blocks_for}
use Rattle.writer.specs.Writing.{length_ok, room}
use Rattle.writer.proofs.Ready.{allowed_ready, allowed_facts, item_asks}
use Rattle.writer.proofs.Answers.{first_refused, write_refused, item_taken_at}
use Rattle.writer.proofs.WriterState.write_record.Goals as goal

pub returns-in_err-key : goal.returns-in_err-key
returns-in_err-key c =
    let p = err_from_is_err_and c.from_residual.result c.from_residual.ensures.1 in
    rw (p.1, p.2) (first_refused _ _ _ (rec _) c.in_err-key.ensures.code)

pub returns-then-not-contains : goal.returns-then-not-contains
returns-then-not-contains c =
    let b = c.args.bytes.now in
    let h : length_ok (rec b) ≡ false = grind (arith, nat_tests) in
    write_refused _ _ _ (rec _) (sym (item_asks (allowed_ready c.in_ok-key.ensures.code) (rec _) ∙ simp h))

pub overflow_add-end : goal.overflow_add-end
overflow_add-end c =
    let f = allowed_facts _ c.in_ok-key.ensures.code in
    let b = c.blocks_for-k.ensures in
    omega arith

pub returns-then-self-end : goal.returns-then-self-end
unfolding room
returns-then-self-end c =
    let s = c.args.self.now in
    let b = c.args.bytes.now in
    let l : length_ok (rec b) ≡ true = grind (arith, nat_tests) in
    let h : s.capacity ≤ s.position + blocks_for (length b) = omega (arith, c.blocks_for-k.ensures) in
    write_refused _ _ _ (rec _) (sym (item_asks (allowed_ready c.in_ok-key.ensures.code) (rec _) ∙ simp (l, le-ltb _ _ h)))

pub lay_record-requires : goal.lay_record-requires
lay_record-requires c =
    let f = allowed_facts _ c.in_ok-key.ensures.code in
    let b = c.blocks_for-k.ensures in
    (omega arith, omega arith, b.0)

pub answer_at-requires : goal.answer_at-requires
answer_at-requires c = let f = allowed_facts _ c.in_ok-key.ensures.code in omega arith

pub returns : goal.returns
unfolding room
returns c =
    let s = c.args.self.now in
    let b = c.args.bytes.now in
    let l : length_ok (rec b) ≡ true = grind (arith, nat_tests) in
    let h : s.position + blocks_for (length b) < s.capacity = omega (arith, c.blocks_for-k.ensures) in
    item_taken_at _ _ _ (rec _) _ (item_asks (allowed_ready c.in_ok-key.ensures.code) (rec _) ∙ simp (l, lt-ltb _ _ h)) c.blocks_for-k.ensures.0 (omega arith) (omega arith) (omega arith)
    c.answer_at.ensures (rw c.in_ok-key.ensures.key at c.lay_record.ensures)
