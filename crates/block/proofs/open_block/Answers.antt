-- `block::open_block` meets its contract: its tests, one after the other, then the opening itself.
-- Assumes nothing.
use borrow.Author.Tests.{eq-eqb, ne_eqb, le-leb, lt-leb}
use mathlib.Core.Path.{sym, ap, ◌∙◌}
use native.Mathlib.Omega.{arith}
use lib.Seq.{length-take-le}
use Rattle.numbers.specs.Refusals.{number_of}
use Rattle.numbers.proofs.RefusalLaws.{cause_not_0}
use Rattle.aead.specs.Sealing.{key_ok}
use Rattle.block.specs.Calls.{open_block_number}
use Rattle.block.proofs.OpenLaws.{number_shuts, tag_shuts, tag_opens, open_stays, open_answers, open_shuts}
use Rattle.block.proofs.open_block.Goals as goal

pub returns-then-key-ne-KEY_BYTES : goal.returns-then-key-ne-KEY_BYTES
unfolding open_block_number key_ok
returns-then-key-ne-KEY_BYTES c = open_stays (rw (ne_eqb _ _ c.if-key-ne-KEY_BYTES.true))

pub returns-then-part-lt-BLOCK_BYTES : goal.returns-then-part-lt-BLOCK_BYTES
unfolding open_block_number key_ok
returns-then-part-lt-BLOCK_BYTES c = open_stays (rw (eq-eqb _ _ c.if-key-ne-KEY_BYTES.false, lt-leb _ _ c.if-part-lt-BLOCK_BYTES.true))

pub returns-then-out-ne-BLOCK_PAYLOAD : goal.returns-then-out-ne-BLOCK_PAYLOAD
unfolding open_block_number key_ok
returns-then-out-ne-BLOCK_PAYLOAD c = open_stays (rw (eq-eqb _ _ c.if-key-ne-KEY_BYTES.false, le-leb _ _ c.if-part-lt-BLOCK_BYTES.false, ne_eqb _ _ c.if-out-ne-BLOCK_PAYLOAD.true))

pub returns-then-number_in-p : goal.returns-then-number_in-p
returns-then-number_in-p c =
    let a = c.args in
    open_shuts a.key.now a.part.now a.out.now c.if-key-ne-KEY_BYTES.false c.if-part-lt-BLOCK_BYTES.false c.if-out-ne-BLOCK_PAYLOAD.false
    (number_shuts a.key.now a.id a.recording a.p a.part.now (λ e. c.if-number_in-p.true (c.number_in.ensures ∙ e)))
    c.zero.ensures

pub slice_bounds-open-end-2 : goal.slice_bounds-open-end-2
slice_bounds-open-end-2 c = sym (length-take-le 8 c.args.part.now (omega arith))

pub returns-in-Err : goal.returns-in-Err
returns-in-Err c =
    let a = c.args in
    let s =
    tag_shuts a.key.now a.id a.recording a.p a.part.now c.if-key-ne-KEY_BYTES.false c.if-part-lt-BLOCK_BYTES.false c.if-out-ne-BLOCK_PAYLOAD.false c.nonce_at-nonce.ensures
    (sym c.number_in.ensures ∙ c.if-number_in-p.false) c.open.ensures (λ z. cause_not_0 c.in-Err.field-0 (ap number_of (sym c.in-Err.is) ∙ z)) in
    open_shuts a.key.now a.part.now a.out.now c.if-key-ne-KEY_BYTES.false c.if-part-lt-BLOCK_BYTES.false c.if-out-ne-BLOCK_PAYLOAD.false s.0 s.1

pub returns-in-Ok : goal.returns-in-Ok
returns-in-Ok c =
    let a = c.args in
    let s =
    tag_opens a.key.now a.id a.recording a.p a.part.now c.if-key-ne-KEY_BYTES.false c.if-part-lt-BLOCK_BYTES.false c.if-out-ne-BLOCK_PAYLOAD.false c.nonce_at-nonce.ensures
    (sym c.number_in.ensures ∙ c.if-number_in-p.false) c.open.ensures (c.from.ensures ∙ c.used_in.ensures) (ap number_of c.in-Ok.is) in
    open_answers a.key.now a.part.now a.out.now c.if-key-ne-KEY_BYTES.false c.if-part-lt-BLOCK_BYTES.false c.if-out-ne-BLOCK_PAYLOAD.false _ s c.settle.ensures.says c.settle.ensures.bytes
