-- `notchbadger::writing::odd_flag` meets its contract: image and key, then 8.
-- Assumes nothing.
use mathlib.Core.Path.{sym, ◌∙◌}
use Rattle.std.proofs.lemmas.Result.{err_from_is_err_and}
use Rattle.numbers.proofs.RefusalLaws.{cause_not_0}
use Rattle.block.proofs.ImageSize.{asks_refused, asks_rest, asked}
use Rattle.notchbadger.specs.FlatWriter.{flag_number}
use Rattle.notchbadger.proofs.writing.odd_flag.Goals as goal

pub returns-in_err-image_then_key : goal.returns-in_err-image_then_key
unfolding flag_number
returns-in_err-image_then_key c =
    let p = err_from_is_err_and c.from_residual.result c.from_residual.ensures.1 in
    let e = c.in_err-image_then_key.ensures in
    rw (p.1, p.2) (e ∙ sym (asks_refused _ _ 8 (λ z. cause_not_0 _ (e ∙ z))))

pub returns : goal.returns
unfolding flag_number
returns c = sym (asks_rest _ _ (asked _ _ 0 (sym c.in_ok-image_then_key.ensures)).0 8)
