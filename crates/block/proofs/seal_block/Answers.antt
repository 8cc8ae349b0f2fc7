-- `block::seal_block` meets its contract: its tests, one after the other, then the block.
-- Assumes nothing.
use borrow.Author.Tests.{eq-eqb, ne_eqb, le-leb, lt-leb}
use mathlib.Core.Path.{sym, ap, ◌∙◌}
use native.Mathlib.Omega.{arith}
use Rattle.laws.specs.Lists.{splice}
use Rattle.aead.specs.Sealing.{key_ok}
use Rattle.block.specs.Calls.{seal_block_number}
use Rattle.block.proofs.SealLaws.{fits_few, seal_refuses, seal_writes, block_made}
use Rattle.block.proofs.seal_block.Goals as goal

pub returns-then-key-ne-KEY_BYTES : goal.returns-then-key-ne-KEY_BYTES
unfolding seal_block_number key_ok
returns-then-key-ne-KEY_BYTES c = seal_refuses (rw (ne_eqb _ _ c.if-key-ne-KEY_BYTES.true))

pub returns-then-part-lt-BLOCK_BYTES : goal.returns-then-part-lt-BLOCK_BYTES
unfolding seal_block_number key_ok
returns-then-part-lt-BLOCK_BYTES c = seal_refuses (rw (eq-eqb _ _ c.if-key-ne-KEY_BYTES.false, lt-leb _ _ c.if-part-lt-BLOCK_BYTES.true))

pub returns-then-not-fits : goal.returns-then-not-fits
unfolding seal_block_number key_ok
returns-then-not-fits c =
    seal_refuses (rw (eq-eqb _ _ c.if-key-ne-KEY_BYTES.false, le-leb _ _ c.if-part-lt-BLOCK_BYTES.false, sym c.fits.ensures ∙ c.if-not-fits.true))

pub payload_of-message-requires : goal.payload_of-message-requires
payload_of-message-requires c =
    fits_few c.args.kind _ (sym c.fits.ensures ∙ c.if-not-fits.false)

pub returns : goal.returns
unfolding seal_block_number key_ok
returns c =
    let a = c.args in
    let f = sym c.fits.ensures ∙ c.if-not-fits.false in
    seal_writes (rw (eq-eqb _ _ c.if-key-ne-KEY_BYTES.false, le-leb _ _ c.if-part-lt-BLOCK_BYTES.false, f)) c.seal_parts.ensures.done
    (c.seal_parts.ensures.bytes ∙ ap (splice a.part.now 0)
    (block_made a.key.now a.id a.recording a.p a.kind a.bytes.now f c.nonce_at-nonce.ensures c.header_of-head.ensures c.payload_of-message.ensures))

pub overflow_cast-bytes : goal.overflow_cast-bytes
overflow_cast-bytes c = let h = fits_few c.args.kind _ (sym c.fits.ensures ∙ c.if-not-fits.false) in omega arith
