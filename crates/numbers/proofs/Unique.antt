-- A refusal's number is the only one that its conversion promises.
-- Assumes nothing.
use mathlib.Core.Path.{◌≡◌, sym, ◌∙◌}
use contract.Lifetimes.{Lfts}
use borrow.Fn.Kinds.{Dens, res_t, ended_of}
use denote.Triple.Clauses.{AtExit}
use Rattle.numbers.proofs.U8FromRefusal.from.Reads as number
use Rattle.numbers.proofs.U8FromRefusal.from.Kinds as number-kinds

pub number_unique : (κs : Lfts 0) (a : Dens κs number-kinds.ps) (r₁ r₂ : (res_t number-kinds.r κs).Denot) (s₁ s₂ : AtExit (ended_of 0 number-kinds.ps number-kinds.r) κs)
    → number.Post κs a r₁ s₁ → number.Post κs a r₂ s₂ → r₁ ≡ r₂
number_unique κs a r₁ r₂ s₁ s₂ p q = p ∙ sym q
