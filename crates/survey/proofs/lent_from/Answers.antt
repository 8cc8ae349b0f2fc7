-- `survey::lent_from` meets its contract: image and key, then the position.
-- Assumes nothing.
use borrow.Author.Tests.{lt-ltb, le-ltb}
use mathlib.Core.Path.{◌≡◌, sym, ap, ◌∙◌}
use native.Mathlib.Omega.{arith}
use Rattle.std.proofs.lemmas.Result.{err_from_is_err_and}
use Rattle.numbers.proofs.RefusalLaws.{cause_not_0}
use Rattle.block.specs.declared.Cartridge.{Cartridge}
use Rattle.block.specs.Image.{capacity_of}
use Rattle.block.proofs.ImageSize.{Asked, asks_refused, asks_rest, asked}
use Rattle.survey.specs.Spacing.{space_number}
use Rattle.survey.proofs.lent_from.Goals as goal
use Rattle.survey.proofs.lent_from.Goals.{After-capacity}

-- nothing is wrong with image and key
fit : (c : After-capacity) → Asked c.args.cartridge.key.now c.args.cartridge.image.now
fit c = (asked _ _ 0 (sym c.in_ok-lent.ensures.number)).0

room : (c : After-capacity) → c.capacity.result ≡ capacity_of c.args.cartridge.image.now
room c = c.capacity.ensures ∙ ap (λ (t : Cartridge). capacity_of t.image.now) c.in_ok-lent.ensures.same

pub returns-in_err-lent-clause-number : goal.returns-in_err-lent-clause-number
unfolding space_number
returns-in_err-lent-clause-number c =
    let p = err_from_is_err_and c.from_residual.result c.from_residual.ensures.1 in
    let e = c.in_err-lent.ensures.number in
    rw (p.1, p.2) (e ∙ sym (asks_refused _ _ _ (λ z. cause_not_0 _ (e ∙ z))))

pub returns-then-capacity-p-clause-number : goal.returns-then-capacity-p-clause-number
unfolding space_number
returns-then-capacity-p-clause-number c =
    let k = (goal.at.returns-then-capacity-p-clause-number c).After-capacity in
    sym (asks_rest _ _ (fit k) _ ∙ rw (le-ltb c.args.p (capacity_of c.args.cartridge.image.now) (omega (arith, room k))))

pub returns : goal.returns
unfolding space_number
returns c =
    let k = (goal.at.returns c).After-capacity in
    record {
      number = sym (asks_rest _ _ (fit k) _ ∙ rw (lt-ltb c.args.p (capacity_of c.args.cartridge.image.now) (omega (arith, room k))));
      same = (c.in_ok-lent.ensures.same, omega (arith, room k));
    }
