-- `writer::start`, `record`, `mark` and `close` promise one result: two that meet the promise at the same arguments
-- are equal, and so is what they leave in the image.
-- Assumes nothing.
use mathlib.Core.Path.{◌≡◌, sym, ◌∙◌}
use contract.Lifetimes.{Lfts}
use borrow.Fn.Kinds.{Dens, res_t, ended_of}
use denote.Triple.Clauses.{AtExit}
use Rattle.writer.proofs.start.Reads as start
use Rattle.writer.proofs.start.Kinds as start-kinds
use Rattle.writer.proofs.WriterState.record.Reads as recording
use Rattle.writer.proofs.WriterState.record.Kinds as recording-kinds
use Rattle.writer.proofs.WriterState.mark.Reads as mark
use Rattle.writer.proofs.WriterState.mark.Kinds as mark-kinds
use Rattle.writer.proofs.WriterState.close.Reads as close
use Rattle.writer.proofs.WriterState.close.Kinds as close-kinds

pub start_unique : (κs : Lfts 1) (a : Dens κs start-kinds.ps) (r₁ r₂ : (res_t start-kinds.r κs).Denot) (s₁ s₂ : AtExit (ended_of 1 start-kinds.ps start-kinds.r) κs)
    → start.Post κs a r₁ s₁ → start.Post κs a r₂ s₂ → (r₁ ≡ r₂) × (s₁.1.1.1.0.now ≡ s₂.1.1.1.0.now)
start_unique κs a r₁ r₂ s₁ s₂ p q = (p.says ∙ sym q.says, p.leaves ∙ sym q.leaves)

pub record_unique : (κs : Lfts 3) (a : Dens κs recording-kinds.ps) (r₁ r₂ : (res_t recording-kinds.r κs).Denot) (s₁ s₂ : AtExit (ended_of 3 recording-kinds.ps recording-kinds.r) κs)
    → recording.Post κs a r₁ s₁ → recording.Post κs a r₂ s₂ → (r₁ ≡ r₂) × (s₁.1.1.1.0.now ≡ s₂.1.1.1.0.now)
record_unique κs a r₁ r₂ s₁ s₂ p q = (p.says ∙ sym q.says, p.leaves ∙ sym q.leaves)

pub mark_unique : (κs : Lfts 2) (a : Dens κs mark-kinds.ps) (r₁ r₂ : (res_t mark-kinds.r κs).Denot) (s₁ s₂ : AtExit (ended_of 2 mark-kinds.ps mark-kinds.r) κs)
    → mark.Post κs a r₁ s₁ → mark.Post κs a r₂ s₂ → (r₁ ≡ r₂) × (s₁.1.1.0.now ≡ s₂.1.1.0.now)
mark_unique κs a r₁ r₂ s₁ s₂ p q = (p.says ∙ sym q.says, p.leaves ∙ sym q.leaves)

pub close_unique : (κs : Lfts 2) (a : Dens κs close-kinds.ps) (r₁ r₂ : (res_t close-kinds.r κs).Denot) (s₁ s₂ : AtExit (ended_of 2 close-kinds.ps close-kinds.r) κs)
    → close.Post κs a r₁ s₁ → close.Post κs a r₂ s₂ → (r₁ ≡ r₂) × (s₁.1.1.0.now ≡ s₂.1.1.0.now)
close_unique κs a r₁ r₂ s₁ s₂ p q = (p.says ∙ sym q.says, p.leaves ∙ sym q.leaves)
