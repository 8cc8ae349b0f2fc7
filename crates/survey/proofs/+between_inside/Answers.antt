-- `survey::between` and `survey::inside` meet their contracts. Each hands the following block to the other or to
-- itself.
-- Assumes nothing.
use mathlib.Core.Path.{ap, sym, ◌∙◌}
use Prim.Native.Nat.{ℕ, ◌+◌, ◌-◌, min}
use native.Mathlib.Omega.{arith}
use Rattle.block.specs.Image.{capacity_of}
use Rattle.reader.specs.Steps.{shown}
use Rattle.survey.specs.declared.Told.{Told}
use Rattle.survey.specs.Report.{counted}
use Rattle.survey.specs.Steps.{told_between, place, list_of, count_on}
use Rattle.survey.proofs.CountLaws.{count_over, count_step, outside_at, outside_over, within_at}
use Rattle.survey.proofs.+between_inside.Goals as goal

-- ---- between records
pub between-returns-then-c-p : goal.between-returns-then-c-p
between-returns-then-c-p t c = let a = c.args in λ f h. count_over f (shown a.lent.now.cartridge) _ a.p _ (omega (arith, c.capacity-c.ensures))

pub between-returns-in_default : goal.between-returns-in_default
between-returns-in_default t c =
    let a = c.args in
    let v = shown a.lent.now.cartridge in
    let n = capacity_of a.lent.now.cartridge.image.now in
    λ f h. let o = outside_at v n a.p (list_of a.tally.now) (count_on (f - 1) v n) (sym c.in_default.is ∙ c.told_between.ensures ∙ ap told_between c.seen_at.ensures) in
    o _ (c.min.ensures ∙ ap (λ (k : ℕ). min k (a.p + 64)) c.capacity-c.ensures) _ (λ b. c.inside.ensures (f - 1) b (omega arith))
    ∙ count_step f v n a.p (list_of a.tally.now) (omega (arith, c.capacity-c.ensures)) h

pub between-returns-in-End : goal.between-returns-in-End
between-returns-in-End t c =
    let a = c.args in
    let v = shown a.lent.now.cartridge in
    let n = capacity_of a.lent.now.cartridge.image.now in
    λ f h. let o = outside_at v n a.p (list_of a.tally.now) (count_on (f - 1) v n) (sym c.in-Some.is ∙ c.told_between.ensures ∙ ap told_between c.seen_at.ensures) in
    c.count.ensures.counts ∙ ap (λ (x : Told). counted (place x) (list_of a.tally.now)) c.in-End.is ∙ (rw c.in-End.is at o)
    ∙ count_step f v n a.p (list_of a.tally.now) (omega (arith, c.capacity-c.ensures)) h

pub between-returns : goal.between-returns
between-returns t c =
    let a = c.args in
    let v = shown a.lent.now.cartridge in
    let n = capacity_of a.lent.now.cartridge.image.now in
    λ f h. let o = outside_at v n a.p (list_of a.tally.now) (count_on (f - 1) v n) (sym c.in-Some.is ∙ c.told_between.ensures ∙ ap told_between c.seen_at.ensures) in
    c.between.ensures (f - 1) (omega arith) ∙ ap (count_on (f - 1) v n (a.p + 1)) c.count.ensures.counts
    ∙ outside_over v n a.p (list_of a.tally.now) (count_on (f - 1) v n) c.in-Some.told c.in_default-told.not-End _ o
    ∙ count_step f v n a.p (list_of a.tally.now) (omega (arith, c.capacity-c.ensures)) h

-- ---- inside a record
pub inside-inside-requires : goal.inside-inside-requires
inside-inside-requires t c =
    let a = c.args in
    let v = shown a.lent.now.cartridge in
    let w = within_at v a.end a.q (list_of a.tally.now) (count_on 0 v 0) c.step_at-step.ensures in
    let k = rw c.in_default.is at w.counts in
    let n = k.0 in
    let s = w.stays in
    (omega arith, ((omega arith, c.requires.place.1), omega arith))

pub inside-returns-in_default : goal.inside-returns-in_default
inside-returns-in_default t c =
    let a = c.args in
    let v = shown a.lent.now.cartridge in
    let n = capacity_of a.lent.now.cartridge.image.now in
    λ f b h. let w = within_at v a.end a.q (list_of a.tally.now) (count_on f v n) c.step_at-step.ensures in
    let g = w.near in
    let k = rw c.in_default.is at w.counts in
    k.1 _ (λ x. c.inside.ensures f x (omega arith)) b

pub inside-between-requires : goal.inside-between-requires
inside-between-requires t c =
    let a = c.args in
    let v = shown a.lent.now.cartridge in
    let w = within_at v a.end a.q (list_of a.tally.now) (count_on 0 v 0) c.step_at-step.ensures in
    let n = w.near in
    let s = w.stays in
    (omega arith, (omega arith, omega arith))

pub inside-returns : goal.inside-returns
inside-returns t c =
    let a = c.args in
    let v = shown a.lent.now.cartridge in
    let n = capacity_of a.lent.now.cartridge.image.now in
    λ f b h. let w = within_at v a.end a.q (list_of a.tally.now) (count_on f v n) c.step_at-step.ensures in
    let g = w.near in
    let k = rw c.in-Some.is at w.counts in
    c.between.ensures f (omega arith) ∙ ap (count_on f v n c.step_at-step.result.next) c.count.ensures.counts ∙ k b
