-- `writer::WriterState::write_end` meets its contract: refused, or laid.
-- Assumes nothing.
use mathlib.Core.Path.{refl, sym}
use native.Mathlib.Omega.{arith}
use Rattle.std.proofs.lemmas.Result.{err_from_is_err_and}
use Rattle.block.specs.Image.{lay}
use Rattle.writer.proofs.Ready.{allowed_facts}
use Rattle.writer.proofs.Answers.{close_refused, close_taken}
use Rattle.writer.proofs.WriterState.write_end.Goals as goal

pub returns-in_err-key : goal.returns-in_err-key
returns-in_err-key c =
    let p = err_from_is_err_and c.from_residual.result c.from_residual.ensures.1 in
    rw (p.1, p.2) (close_refused _ _ _ c.in_err-key.ensures.code)

pub lay_block-requires : goal.lay_block-requires
lay_block-requires c = let f = allowed_facts _ c.in_ok-key.ensures.code in (omega arith, omega arith, refl)

pub overflow_add-self : goal.overflow_add-self
overflow_add-self c = let f = allowed_facts _ c.in_ok-key.ensures.code in omega arith

pub returns : goal.returns
unfolding lay
returns c = close_taken _ _ _ (sym c.in_ok-key.ensures.code) (record { says = refl; number = refl; leaves = rw c.in_ok-key.ensures.key at c.lay_block.ensures })
