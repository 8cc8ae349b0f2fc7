-- `picture::draw_answer` meets its contract: the answer at p reaches past p, and not past the end.
-- Assumes nothing.
use mathlib.Core.Path.{◌≡◌, refl, sym, ap, ◌∙◌}
use native.Mathlib.Omega.{arith}
use lib.ListN.{length}
use Rattle.reader.specs.declared.Got.{Got}
use Rattle.reader.specs.Reading.{outcome_of}
use Rattle.reader.specs.Steps.{answer_of}
use Rattle.picture.specs.Steps.{reached}
use Rattle.picture.proofs.PictureLaws.{ready, ready_reads, ready_within}
use Rattle.picture.proofs.draw_answer.Goals as goal

pub answer_at-got-requires : goal.answer_at-got-requires
answer_at-got-requires c = ready_reads (ready _ _ _ c.requires.0) c.args.p c.requires.1

pub paint-requires : goal.paint-requires
paint-requires c =
    let a = c.args in
    let t = a.cartridge in
    let w = ready_within (ready _ _ _ c.requires.0) t.id t.recording a.p c.requires.1 in
    let w₀ = w.0 in
    let w₁ = w.1 in
    let g = c.answer_at-got.ensures in
    let x = sym c.unwrap-outcome.ensures ∙ ap (λ (g : Got). g.outcome) g in
    let y : c.unwrap-outcome.result ≡ outcome_of (answer_of t a.p).told = cc in
    let e : c.reach_of-q.result ≡ reached (answer_of t a.p) (length a.out.now) = c.reach_of-q.ensures ∙ rw (y, g) refl in
    (omega arith, omega arith)
