-- `survey::space_on` meets its contract: it falls back on itself with fewer blocks left.
-- Assumes nothing.
use mathlib.Core.Path.{sym, ◌∙◌}
use Prim.Native.Nat.{◌-◌}
use native.Mathlib.Omega.{arith}
use Rattle.reader.specs.Steps.{shown}
use Rattle.survey.proofs.SpaceLaws.{space_none, space_over, space_end, space_mark, space_other}
use Rattle.survey.proofs.+space_on.Goals as goal

pub returns-then-n-eq0 : goal.returns-then-n-eq0
returns-then-n-eq0 t c = let a = c.args in λ f h. space_none (shown a.lent.now.cartridge) _ a.n a.m a.p f c.if-n-eq0.true

pub returns-then-capacity-p : goal.returns-then-capacity-p
returns-then-capacity-p t c =
    let a = c.args in
    λ f h. space_over (shown a.lent.now.cartridge) _ a.n a.m c.if-n-eq0.false a.p f (omega (arith, c.capacity.ensures))

pub returns-in-End : goal.returns-in-End
returns-in-End t c =
    let a = c.args in
    λ f h. space_end (shown a.lent.now.cartridge) _ a.n a.m c.if-n-eq0.false a.p (omega (arith, c.capacity.ensures)) f h (sym c.seen_at.ensures ∙ c.in-End.is)

pub returns-in-Mark : goal.returns-in-Mark
returns-in-Mark t c =
    let a = c.args in
    λ f h. c.space_on.ensures (f - 1) (omega arith)
    ∙ space_mark (shown a.lent.now.cartridge) _ a.n a.m c.if-n-eq0.false a.p (omega (arith, c.capacity.ensures)) f h (sym c.seen_at.ensures ∙ c.in-Mark.is)

pub returns-in_default : goal.returns-in_default
returns-in_default t c =
    let a = c.args in
    let s = c.seen_at.ensures in
    space_other (shown a.lent.now.cartridge) _ a.n a.m c.if-n-eq0.false a.p (omega (arith, c.capacity.ensures)) c.space_on-in_default.result
    (λ z. c.in_default.not-End (s ∙ z)) (λ z. c.in_default.not-Mark (s ∙ z)) c.space_on-in_default.ensures
