-- Each public call promises one result: two that meet the promise at the same arguments are equal, with what they leave
-- in the state.
-- Assumes nothing.
use mathlib.Core.Path.{◌≡◌, sym, ◌∙◌}
use contract.Lifetimes.{Lfts}
use borrow.Fn.Kinds.{Dens, res_t, ended_of}
use denote.Triple.Clauses.{AtExit}
use Rattle.numbers.proofs.RefusalLaws.{same_answer}
use Rattle.rounds.proofs.permute.Reads as permute
use Rattle.rounds.proofs.permute.Kinds as permute-kinds
use Rattle.rounds.proofs.permute_back.Reads as permute-back
use Rattle.rounds.proofs.permute_back.Kinds as permute-back-kinds
use Rattle.rounds.proofs.constants.constants.Reads as constants
use Rattle.rounds.proofs.constants.constants.Kinds as constants-kinds

pub constants_unique : (κs : Lfts 0) (a : Dens κs constants-kinds.ps) (r₁ r₂ : (res_t constants-kinds.r κs).Denot) (s₁ s₂ : AtExit (ended_of 0 constants-kinds.ps constants-kinds.r) κs)
    → constants.Post κs a r₁ s₁ → constants.Post κs a r₂ s₂ → r₁ ≡ r₂
constants_unique κs a r₁ r₂ s₁ s₂ p q = p ∙ sym q

pub permute_unique : (κs : Lfts 1) (a : Dens κs permute-kinds.ps) (r₁ r₂ : (res_t permute-kinds.r κs).Denot) (s₁ s₂ : AtExit (ended_of 1 permute-kinds.ps permute-kinds.r) κs)
    → permute.Post κs a r₁ s₁ → permute.Post κs a r₂ s₂ → (r₁ ≡ r₂) × (s₁.0.now ≡ s₂.0.now)
permute_unique κs a r₁ r₂ s₁ s₂ p q = (same_answer r₁ r₂ (p.code ∙ sym q.code), p.state ∙ sym q.state)

pub permute_back_unique : (κs : Lfts 1) (a : Dens κs permute-back-kinds.ps) (r₁ r₂ : (res_t permute-back-kinds.r κs).Denot) (s₁ s₂ : AtExit (ended_of 1 permute-back-kinds.ps permute-back-kinds.r) κs)
    → permute-back.Post κs a r₁ s₁ → permute-back.Post κs a r₂ s₂ → (r₁ ≡ r₂) × (s₁.0.now ≡ s₂.0.now)
permute_back_unique κs a r₁ r₂ s₁ s₂ p q = (same_answer r₁ r₂ (p.code ∙ sym q.code), p.state ∙ sym q.state)
