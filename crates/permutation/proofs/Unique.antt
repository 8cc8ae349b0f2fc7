-- Each public call promises one result: two that meet the promise at the same arguments are equal, with what they leave in the state.
-- Assumes nothing.
use mathlib.Core.Path.{◌≡◌, sym, ◌∙◌}
use contract.Lifetimes.{Lfts}
use borrow.Fn.Kinds.{Dens, res_t, ended_of}
use denote.Triple.Clauses.{AtExit}
use Rattle.numbers.proofs.RefusalLaws.{same_answer}
use Rattle.permutation.proofs.permute.Reads as permute
use Rattle.permutation.proofs.permute.Kinds as permute-kinds
use Rattle.permutation.proofs.permute_back.Reads as permute-back
use Rattle.permutation.proofs.permute_back.Kinds as permute-back-kinds
use Rattle.permutation.proofs.round.Reads as round
use Rattle.permutation.proofs.round.Kinds as round-kinds
use Rattle.permutation.proofs.round_back.Reads as round-back
use Rattle.permutation.proofs.round_back.Kinds as round-back-kinds
use Rattle.permutation.proofs.minibox.Reads as minibox
use Rattle.permutation.proofs.minibox.Kinds as minibox-kinds

pub permute_unique : (κs : Lfts 1) (a : Dens κs permute-kinds.ps) (r₁ r₂ : (res_t permute-kinds.r κs).Denot) (s₁ s₂ : AtExit (ended_of 1 permute-kinds.ps permute-kinds.r) κs)
    → permute.Post κs a r₁ s₁ → permute.Post κs a r₂ s₂ → (r₁ ≡ r₂) × (s₁.0.now ≡ s₂.0.now)
permute_unique κs a r₁ r₂ s₁ s₂ p q = (same_answer r₁ r₂ (p.code ∙ sym q.code), p.state ∙ sym q.state)

pub permute_back_unique : (κs : Lfts 1) (a : Dens κs permute-back-kinds.ps) (r₁ r₂ : (res_t permute-back-kinds.r κs).Denot) (s₁ s₂ : AtExit (ended_of 1 permute-back-kinds.ps permute-back-kinds.r) κs)
    → permute-back.Post κs a r₁ s₁ → permute-back.Post κs a r₂ s₂ → (r₁ ≡ r₂) × (s₁.0.now ≡ s₂.0.now)
permute_back_unique κs a r₁ r₂ s₁ s₂ p q = (same_answer r₁ r₂ (p.code ∙ sym q.code), p.state ∙ sym q.state)

pub round_unique : (κs : Lfts 2) (a : Dens κs round-kinds.ps) (r₁ r₂ : (res_t round-kinds.r κs).Denot) (s₁ s₂ : AtExit (ended_of 2 round-kinds.ps round-kinds.r) κs)
    → round.Post κs a r₁ s₁ → round.Post κs a r₂ s₂ → (r₁ ≡ r₂) × (s₁.0.now ≡ s₂.0.now)
round_unique κs a r₁ r₂ s₁ s₂ p q = (same_answer r₁ r₂ (p.code ∙ sym q.code), p.state ∙ sym q.state)

pub round_back_unique : (κs : Lfts 2) (a : Dens κs round-back-kinds.ps) (r₁ r₂ : (res_t round-back-kinds.r κs).Denot) (s₁ s₂ : AtExit (ended_of 2 round-back-kinds.ps round-back-kinds.r) κs)
    → round-back.Post κs a r₁ s₁ → round-back.Post κs a r₂ s₂ → (r₁ ≡ r₂) × (s₁.0.now ≡ s₂.0.now)
round_back_unique κs a r₁ r₂ s₁ s₂ p q = (same_answer r₁ r₂ (p.code ∙ sym q.code), p.state ∙ sym q.state)

pub minibox_unique : (κs : Lfts 0) (a : Dens κs minibox-kinds.ps) (r₁ r₂ : (res_t minibox-kinds.r κs).Denot) (s₁ s₂ : AtExit (ended_of 0 minibox-kinds.ps minibox-kinds.r) κs)
    → minibox.Post κs a r₁ s₁ → minibox.Post κs a r₂ s₂ → r₁ ≡ r₂
minibox_unique κs a r₁ r₂ s₁ s₂ p q = p ∙ sym q
