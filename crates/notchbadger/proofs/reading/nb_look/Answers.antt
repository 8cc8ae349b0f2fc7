-- `notchbadger::reading::nb_look` meets its contract: the part's place and length.
-- Assumes nothing.
use borrow.Author.Tests.{eq-eqb, ne_eqb}
use mathlib.Core.Path.{sym, ◌∙◌}
use native.Mathlib.Omega.{arith}
use Rattle.numbers.proofs.RefusalLaws.{cause_not_0}
use Rattle.reader.specs.Reading.{look_place}
use Rattle.reader.proofs.ImageTests.{look_in}
use Rattle.notchbadger.proofs.reading.nb_look.Goals as goal

pub overflow_mul-result : goal.overflow_mul-result
overflow_mul-result c = omega (arith, look_in _ _ (sym c.in-Ok.ensures))

pub returns-in-Ok : goal.returns-in-Ok
unfolding look_place
returns-in-Ok c = rw (c.look-length.ensures.bytes, eq-eqb _ 0 (sym c.in-Ok.ensures))

pub returns-in-Err : goal.returns-in-Err
unfolding look_place
returns-in-Err c = rw (c.look-length.ensures.bytes, ne_eqb _ 0 (λ z. cause_not_0 _ (c.in-Err.ensures ∙ z)))
