-- `planes::words`, `put_words`, `transposed` and `sum` promise one result: two that meet the promise at the same
-- arguments are equal, or leave the same bytes. Planes are eight numbers, and a promise of their bytes says nothing of
-- what is past 2^64: that each is below it is what their type says, and a caller is told it of every call's result
-- (`Ok`).
-- Assumes nothing.
use mathlib.Core.Path.{◌≡◌, sym, ◌∙◌}
use contract.Lifetimes.{Lfts}
use borrow.Fn.Kinds.{Dens, res_t, ended_of}
use denote.Triple.Clauses.{AtExit}
use Rattle.planes.proofs.WordLaws.{fit, same_words}
use Rattle.planes.proofs.words.Reads as words
use Rattle.planes.proofs.words.Kinds as words-kinds
use Rattle.planes.proofs.put_words.Reads as put-words
use Rattle.planes.proofs.put_words.Kinds as put-words-kinds
use Rattle.planes.proofs.transposed.Reads as transposed
use Rattle.planes.proofs.transposed.Kinds as transposed-kinds
use Rattle.planes.proofs.sum.Reads as sum
use Rattle.planes.proofs.sum.Kinds as sum-kinds

pub words_unique : (κs : Lfts 1) (a : Dens κs words-kinds.ps) (r₁ r₂ : (res_t words-kinds.r κs).Denot) (s₁ s₂ : AtExit (ended_of 1 words-kinds.ps words-kinds.r) κs)
    → (words-kinds.r).is.Ok κs r₁ → (words-kinds.r).is.Ok κs r₂ → words.Post κs a r₁ s₁ → words.Post κs a r₂ s₂ → r₁ ≡ r₂
words_unique κs a r₁ r₂ s₁ s₂ u v p q = same_words r₁ r₂ (fit r₁ _ u) (fit r₂ _ v) (p ∙ sym q)

pub put_words_unique : (κs : Lfts 1) (a : Dens κs put-words-kinds.ps) (r₁ r₂ : (res_t put-words-kinds.r κs).Denot) (s₁ s₂ : AtExit (ended_of 1 put-words-kinds.ps put-words-kinds.r) κs)
    → put-words.Post κs a r₁ s₁ → put-words.Post κs a r₂ s₂ → s₁.0.now ≡ s₂.0.now
put_words_unique κs a r₁ r₂ s₁ s₂ p q = p ∙ sym q

pub transposed_unique : (κs : Lfts 0) (a : Dens κs transposed-kinds.ps) (r₁ r₂ : (res_t transposed-kinds.r κs).Denot) (s₁ s₂ : AtExit (ended_of 0 transposed-kinds.ps transposed-kinds.r) κs)
    → (transposed-kinds.r).is.Ok κs r₁ → (transposed-kinds.r).is.Ok κs r₂ → transposed.Post κs a r₁ s₁ → transposed.Post κs a r₂ s₂ → r₁ ≡ r₂
transposed_unique κs a r₁ r₂ s₁ s₂ u v p q = same_words r₁ r₂ (fit r₁ _ u) (fit r₂ _ v) (p ∙ sym q)

pub sum_unique : (κs : Lfts 0) (a : Dens κs sum-kinds.ps) (r₁ r₂ : (res_t sum-kinds.r κs).Denot) (s₁ s₂ : AtExit (ended_of 0 sum-kinds.ps sum-kinds.r) κs)
    → (sum-kinds.r).is.Ok κs r₁ → (sum-kinds.r).is.Ok κs r₂ → sum.Post κs a r₁ s₁ → sum.Post κs a r₂ s₂ → r₁ ≡ r₂
sum_unique κs a r₁ r₂ s₁ s₂ u v p q = same_words r₁ r₂ (fit r₁ _ u) (fit r₂ _ v) (p ∙ sym q)
