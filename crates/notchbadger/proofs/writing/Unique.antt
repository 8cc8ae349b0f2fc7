-- The writer's calls promise one result and one image, and what crosses one value.
-- Assumes nothing.
use mathlib.Core.Path.{◌≡◌, sym, ◌∙◌}
use contract.Lifetimes.{Lfts}
use borrow.Fn.Kinds.{Dens, res_t, ended_of}
use denote.Triple.Clauses.{AtExit}
use Rattle.notchbadger.proofs.writing.NbStateFromWriterState.from.Reads as state-out
use Rattle.notchbadger.proofs.writing.NbStateFromWriterState.from.Kinds as state-out-kinds
use Rattle.notchbadger.proofs.writing.WriterStateTryFromNbState.try_from.Reads as state-in
use Rattle.notchbadger.proofs.writing.WriterStateTryFromNbState.try_from.Kinds as state-in-kinds
use Rattle.notchbadger.proofs.writing.NbWroteFromWrote.from.Reads as wrote
use Rattle.notchbadger.proofs.writing.NbWroteFromWrote.from.Kinds as wrote-kinds
use Rattle.notchbadger.proofs.writing.nb_start.Reads as start
use Rattle.notchbadger.proofs.writing.nb_start.Kinds as start-kinds
use Rattle.notchbadger.proofs.writing.nb_record.Reads as recording
use Rattle.notchbadger.proofs.writing.nb_record.Kinds as recording-kinds
use Rattle.notchbadger.proofs.writing.nb_mark.Reads as mark
use Rattle.notchbadger.proofs.writing.nb_mark.Kinds as mark-kinds
use Rattle.notchbadger.proofs.writing.nb_close.Reads as close
use Rattle.notchbadger.proofs.writing.nb_close.Kinds as close-kinds

pub state_out_unique : (κs : Lfts 0) (a : Dens κs state-out-kinds.ps) (r₁ r₂ : (res_t state-out-kinds.r κs).Denot)
    (s₁ s₂ : AtExit (ended_of 0 state-out-kinds.ps state-out-kinds.r) κs)
    → state-out.Post κs a r₁ s₁ → state-out.Post κs a r₂ s₂ → r₁ ≡ r₂
state_out_unique κs a r₁ r₂ s₁ s₂ p q = p ∙ sym q

pub state_in_unique : (κs : Lfts 0) (a : Dens κs state-in-kinds.ps) (r₁ r₂ : (res_t state-in-kinds.r κs).Denot)
    (s₁ s₂ : AtExit (ended_of 0 state-in-kinds.ps state-in-kinds.r) κs)
    → state-in.Post κs a r₁ s₁ → state-in.Post κs a r₂ s₂ → r₁ ≡ r₂
state_in_unique κs a r₁ r₂ s₁ s₂ p q = p ∙ sym q

pub wrote_unique : (κs : Lfts 0) (a : Dens κs wrote-kinds.ps) (r₁ r₂ : (res_t wrote-kinds.r κs).Denot)
    (s₁ s₂ : AtExit (ended_of 0 wrote-kinds.ps wrote-kinds.r) κs)
    → wrote.Post κs a r₁ s₁ → wrote.Post κs a r₂ s₂ → r₁ ≡ r₂
wrote_unique κs a r₁ r₂ s₁ s₂ p q = p ∙ sym q

pub start_unique : (κs : Lfts 1) (a : Dens κs start-kinds.ps) (r₁ r₂ : (res_t start-kinds.r κs).Denot)
    (s₁ s₂ : AtExit (ended_of 1 start-kinds.ps start-kinds.r) κs)
    → start.Post κs a r₁ s₁ → start.Post κs a r₂ s₂ → (r₁ ≡ r₂) × (s₁.1.1.1.0.now ≡ s₂.1.1.1.0.now)
start_unique κs a r₁ r₂ s₁ s₂ p q = (p.says ∙ sym q.says, p.leaves ∙ sym q.leaves)

pub record_unique : (κs : Lfts 3) (a : Dens κs recording-kinds.ps) (r₁ r₂ : (res_t recording-kinds.r κs).Denot)
    (s₁ s₂ : AtExit (ended_of 3 recording-kinds.ps recording-kinds.r) κs)
    → recording.Post κs a r₁ s₁ → recording.Post κs a r₂ s₂ → (r₁ ≡ r₂) × (s₁.1.1.1.0.now ≡ s₂.1.1.1.0.now)
record_unique κs a r₁ r₂ s₁ s₂ p q = (p.says ∙ sym q.says, p.leaves ∙ sym q.leaves)

pub mark_unique : (κs : Lfts 2) (a : Dens κs mark-kinds.ps) (r₁ r₂ : (res_t mark-kinds.r κs).Denot)
    (s₁ s₂ : AtExit (ended_of 2 mark-kinds.ps mark-kinds.r) κs)
    → mark.Post κs a r₁ s₁ → mark.Post κs a r₂ s₂ → (r₁ ≡ r₂) × (s₁.1.1.0.now ≡ s₂.1.1.0.now)
mark_unique κs a r₁ r₂ s₁ s₂ p q = (p.says ∙ sym q.says, p.leaves ∙ sym q.leaves)

pub close_unique : (κs : Lfts 2) (a : Dens κs close-kinds.ps) (r₁ r₂ : (res_t close-kinds.r κs).Denot)
    (s₁ s₂ : AtExit (ended_of 2 close-kinds.ps close-kinds.r) κs)
    → close.Post κs a r₁ s₁ → close.Post κs a r₂ s₂ → (r₁ ≡ r₂) × (s₁.1.1.0.now ≡ s₂.1.1.0.now)
close_unique κs a r₁ r₂ s₁ s₂ p q = (p.says ∙ sym q.says, p.leaves ∙ sym q.leaves)
