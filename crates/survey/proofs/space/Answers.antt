-- `survey::space` meets its contract: refused, or the spacing itself.
-- Assumes nothing.
use borrow.Author.Tests.{ne_eqb, eq-eqb}
use mathlib.Core.Path.{◌≡◌, sym, ap, subst, ◌∙◌}
use Prim.Native.Nat.{◌-◌}
use native.Mathlib.Omega.{arith}
use Rattle.std.specs.Prelude.{Err}
use Rattle.numbers.specs.declared.Refusal.{Refusal}
use Rattle.numbers.specs.Refusals.{cause_of}
use Rattle.numbers.proofs.RefusalLaws.{cause_of_number, cause_not_0}
use Rattle.block.specs.declared.Cartridge.{Cartridge}
use Rattle.block.specs.Image.{capacity_of}
use Rattle.reader.specs.Steps.{shown}
use Rattle.survey.specs.declared.Spaced.{Spaced}
use Rattle.survey.specs.Spacing.{space_from, spacing}
use Rattle.survey.proofs.SpaceNumber.{spaced_over_lem}
use Rattle.survey.proofs.space.Goals as goal

pub returns-in-Err : goal.returns-in-Err
unfolding spacing
returns-in-Err c =
    let x = c.in-Err.refusal in
    let e = c.in-Err.ensures.number in
    let spaced : Refusal → Spaced = λ y. record { reach = Err y; position = c.args.p } in
    spaced_over_lem (rw (ne_eqb _ _ (λ z. cause_not_0 x (e ∙ z))) (ap spaced (sym (cause_of_number x) ∙ ap cause_of e)))

pub space_on-requires : goal.space_on-requires
space_on-requires c =
    let s = c.in-Ok.ensures.same in
    let e = ap (λ (t : Cartridge). capacity_of t.image.now) s.0 in
    (omega (arith, s.1), omega arith)

pub returns-in-Ok : goal.returns-in-Ok
unfolding spacing
returns-in-Ok c =
    let P : Cartridge → Type 0 = λ t. c.space_on.result ≡ space_from (capacity_of t.image.now - c.args.p) (shown t) (capacity_of t.image.now) c.args.p c.args.n 0 in
    spaced_over_lem (rw (eq-eqb _ _ (sym c.in-Ok.ensures.number)) (subst P c.in-Ok.ensures.same.0 (c.space_on.ensures _ (omega arith))))
