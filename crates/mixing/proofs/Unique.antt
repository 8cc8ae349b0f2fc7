-- `mixing::mixed` and `mixed_back` promise one result: two that meet the promise at the same planes are equal. As in
-- `planes`, that each of a result's words is below 2^64 is what its type says (`Ok`).
-- Assumes nothing.
use mathlib.Core.Path.{◌≡◌, sym, ◌∙◌}
use contract.Lifetimes.{Lfts}
use borrow.Fn.Kinds.{Dens, res_t, ended_of}
use denote.Triple.Clauses.{AtExit}
use Rattle.planes.proofs.WordLaws.{fit, same_flipped}
use Rattle.mixing.proofs.mixed.Reads as mixed
use Rattle.mixing.proofs.mixed.Kinds as mixed-kinds
use Rattle.mixing.proofs.mixed_back.Reads as mixed-back
use Rattle.mixing.proofs.mixed_back.Kinds as mixed-back-kinds

pub mixed_unique : (κs : Lfts 0) (a : Dens κs mixed-kinds.ps) (r₁ r₂ : (res_t mixed-kinds.r κs).Denot) (s₁ s₂ : AtExit (ended_of 0 mixed-kinds.ps mixed-kinds.r) κs)
    → (mixed-kinds.r).is.Ok κs r₁ → (mixed-kinds.r).is.Ok κs r₂ → mixed.Post κs a r₁ s₁ → mixed.Post κs a r₂ s₂ → r₁ ≡ r₂
mixed_unique κs a r₁ r₂ s₁ s₂ u v p q = same_flipped r₁ r₂ (fit r₁ _ u) (fit r₂ _ v) (p ∙ sym q)

pub mixed_back_unique : (κs : Lfts 0) (a : Dens κs mixed-back-kinds.ps) (r₁ r₂ : (res_t mixed-back-kinds.r κs).Denot) (s₁ s₂ : AtExit (ended_of 0 mixed-back-kinds.ps mixed-back-kinds.r) κs)
    → (mixed-back-kinds.r).is.Ok κs r₁ → (mixed-back-kinds.r).is.Ok κs r₂ → mixed-back.Post κs a r₁ s₁ → mixed-back.Post κs a r₂ s₂ → r₁ ≡ r₂
mixed_back_unique κs a r₁ r₂ s₁ s₂ u v p q = same_flipped r₁ r₂ (fit r₁ _ u) (fit r₂ _ v) (p ∙ sym q)
