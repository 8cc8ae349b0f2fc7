-- `buffer::zero`, `copy`, `add` and `same` promise one result: two that meet the promise at the same arguments leave the same bytes, or give the same answer.
-- Assumes nothing.
use mathlib.Core.Path.{◌≡◌, sym, ◌∙◌}
use contract.Lifetimes.{Lfts}
use borrow.Fn.Kinds.{Dens, res_t, ended_of}
use denote.Triple.Clauses.{AtExit}
use Rattle.buffer.proofs.zero.Reads as zeroing
use Rattle.buffer.proofs.zero.Kinds as zeroing-kinds
use Rattle.buffer.proofs.copy.Reads as copying
use Rattle.buffer.proofs.copy.Kinds as copying-kinds
use Rattle.buffer.proofs.add.Reads as adding
use Rattle.buffer.proofs.add.Kinds as adding-kinds
use Rattle.buffer.proofs.same.Reads as comparing
use Rattle.buffer.proofs.same.Kinds as comparing-kinds

pub zero_unique : (κs : Lfts 1) (a : Dens κs zeroing-kinds.ps) (r₁ r₂ : (res_t zeroing-kinds.r κs).Denot) (s₁ s₂ : AtExit (ended_of 1 zeroing-kinds.ps zeroing-kinds.r) κs)
    → zeroing.Post κs a r₁ s₁ → zeroing.Post κs a r₂ s₂ → s₁.0.now ≡ s₂.0.now
zero_unique κs a r₁ r₂ s₁ s₂ p q = p ∙ sym q

pub copy_unique : (κs : Lfts 2) (a : Dens κs copying-kinds.ps) (r₁ r₂ : (res_t copying-kinds.r κs).Denot) (s₁ s₂ : AtExit (ended_of 2 copying-kinds.ps copying-kinds.r) κs)
    → copying.Post κs a r₁ s₁ → copying.Post κs a r₂ s₂ → s₁.0.now ≡ s₂.0.now
copy_unique κs a r₁ r₂ s₁ s₂ p q = p ∙ sym q

pub add_unique : (κs : Lfts 2) (a : Dens κs adding-kinds.ps) (r₁ r₂ : (res_t adding-kinds.r κs).Denot) (s₁ s₂ : AtExit (ended_of 2 adding-kinds.ps adding-kinds.r) κs)
    → adding.Post κs a r₁ s₁ → adding.Post κs a r₂ s₂ → s₁.0.now ≡ s₂.0.now
add_unique κs a r₁ r₂ s₁ s₂ p q = p ∙ sym q

pub same_unique : (κs : Lfts 2) (a : Dens κs comparing-kinds.ps) (r₁ r₂ : (res_t comparing-kinds.r κs).Denot) (s₁ s₂ : AtExit (ended_of 2 comparing-kinds.ps comparing-kinds.r) κs)
    → comparing.Post κs a r₁ s₁ → comparing.Post κs a r₂ s₂ → r₁ ≡ r₂
same_unique κs a r₁ r₂ s₁ s₂ p q = p ∙ sym q
