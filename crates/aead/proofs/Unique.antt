-- `aead::seal` and `aead::open` promise one result: two that meet the promise at the same arguments are equal, and so is what they leave in `out`.
-- Assumes nothing.
use mathlib.Core.Path.{◌≡◌, sym, ◌∙◌}
use contract.Lifetimes.{Lfts}
use borrow.Fn.Kinds.{Dens, res_t, ended_of}
use denote.Triple.Clauses.{AtExit}
use Rattle.numbers.proofs.RefusalLaws.{same_answer}
use Rattle.aead.proofs.seal.Reads as sealing
use Rattle.aead.proofs.seal.Kinds as sealing-kinds
use Rattle.aead.proofs.open.Reads as opening
use Rattle.aead.proofs.open.Kinds as opening-kinds

pub seal_unique : (κs : Lfts 5) (a : Dens κs sealing-kinds.ps) (r₁ r₂ : (res_t sealing-kinds.r κs).Denot) (s₁ s₂ : AtExit (ended_of 5 sealing-kinds.ps sealing-kinds.r) κs)
    → sealing.Post κs a r₁ s₁ → sealing.Post κs a r₂ s₂ → (r₁ ≡ r₂) × (s₁.1.1.1.1.0.now ≡ s₂.1.1.1.1.0.now)
seal_unique κs a r₁ r₂ s₁ s₂ p q = (same_answer r₁ r₂ (p.code ∙ sym q.code), p.bytes ∙ sym q.bytes)

pub open_unique : (κs : Lfts 5) (a : Dens κs opening-kinds.ps) (r₁ r₂ : (res_t opening-kinds.r κs).Denot) (s₁ s₂ : AtExit (ended_of 5 opening-kinds.ps opening-kinds.r) κs)
    → opening.Post κs a r₁ s₁ → opening.Post κs a r₂ s₂ → (r₁ ≡ r₂) × (s₁.1.1.1.1.0.now ≡ s₂.1.1.1.1.0.now)
open_unique κs a r₁ r₂ s₁ s₂ p q = (same_answer r₁ r₂ (p.code ∙ sym q.code), p.bytes ∙ sym q.bytes)
