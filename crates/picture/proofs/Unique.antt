-- `picture::draw` promises one result: two that meet the promise at the same arguments are equal, and so is what they
-- leave in the buffer.
-- Assumes nothing.
use mathlib.Core.Path.{◌≡◌, sym, ◌∙◌}
use contract.Lifetimes.{Lfts}
use borrow.Fn.Kinds.{Dens, res_t, ended_of}
use denote.Triple.Clauses.{AtExit}
use Rattle.numbers.proofs.RefusalLaws.{same_answer}
use Rattle.picture.proofs.draw.Reads as drawing
use Rattle.picture.proofs.draw.Kinds as drawing-kinds

pub draw_unique : (κs : Lfts 2) (a : Dens κs drawing-kinds.ps) (r₁ r₂ : (res_t drawing-kinds.r κs).Denot) (s₁ s₂ : AtExit (ended_of 2 drawing-kinds.ps drawing-kinds.r) κs)
    → drawing.Post κs a r₁ s₁ → drawing.Post κs a r₂ s₂ → (r₁ ≡ r₂) × (s₁.1.0.now ≡ s₂.1.0.now)
draw_unique κs a r₁ r₂ s₁ s₂ p q = (same_answer r₁ r₂ (p.0 ∙ sym q.0), p.1 ∙ sym q.1)
