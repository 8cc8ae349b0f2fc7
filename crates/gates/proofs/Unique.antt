-- Each public call promises one result: two that meet the promise at the same arguments are equal. A promise of four words fixes the half byte at
-- each of their 16 places; that words have no more than 16 bits is what their type says (`Ok`).
-- Assumes nothing.
use mathlib.Core.Path.{◌≡◌, sym, ◌∙◌}
use contract.Lifetimes.{Lfts}
use borrow.Fn.Kinds.{Dens, res_t, ended_of}
use denote.Triple.Clauses.{AtExit}
use Rattle.gates.proofs.Words.{fit, same_halves}
use Rattle.gates.proofs.FourBitXor.bitxor.Reads as sum
use Rattle.gates.proofs.FourBitXor.bitxor.Kinds as sum-kinds
use Rattle.gates.proofs.high_in.Reads as high-in
use Rattle.gates.proofs.high_in.Kinds as high-in-kinds
use Rattle.gates.proofs.low_in.Reads as low-in
use Rattle.gates.proofs.low_in.Kinds as low-in-kinds
use Rattle.gates.proofs.between.Reads as between
use Rattle.gates.proofs.between.Kinds as between-kinds
use Rattle.gates.proofs.high_out.Reads as high-out
use Rattle.gates.proofs.high_out.Kinds as high-out-kinds
use Rattle.gates.proofs.low_out.Reads as low-out
use Rattle.gates.proofs.low_out.Kinds as low-out-kinds
use Rattle.gates.proofs.box_e.Reads as box-e
use Rattle.gates.proofs.box_e.Kinds as box-e-kinds
use Rattle.gates.proofs.box_e_back.Reads as box-e-back
use Rattle.gates.proofs.box_e_back.Kinds as box-e-back-kinds
use Rattle.gates.proofs.box_r.Reads as box-r
use Rattle.gates.proofs.box_r.Kinds as box-r-kinds

pub sum_unique : (κs : Lfts 0) (a : Dens κs sum-kinds.ps) (r₁ r₂ : (res_t sum-kinds.r κs).Denot) (s₁ s₂ : AtExit (ended_of 0 sum-kinds.ps sum-kinds.r) κs)
    → (sum-kinds.r).is.Ok κs r₁ → (sum-kinds.r).is.Ok κs r₂ → sum.Post κs a r₁ s₁ → sum.Post κs a r₂ s₂ → r₁ ≡ r₂
sum_unique κs a r₁ r₂ s₁ s₂ w₁ w₂ p q = same_halves r₁ r₂ (fit r₁ _ w₁) (fit r₂ _ w₂) (λ n h. p n h ∙ sym (q n h))

pub high_in_unique : (κs : Lfts 0) (a : Dens κs high-in-kinds.ps) (r₁ r₂ : (res_t high-in-kinds.r κs).Denot) (s₁ s₂ : AtExit (ended_of 0 high-in-kinds.ps high-in-kinds.r) κs)
    → (high-in-kinds.r).is.Ok κs r₁ → (high-in-kinds.r).is.Ok κs r₂ → high-in.Post κs a r₁ s₁ → high-in.Post κs a r₂ s₂ → r₁ ≡ r₂
high_in_unique κs a r₁ r₂ s₁ s₂ w₁ w₂ p q = same_halves r₁ r₂ (fit r₁ _ w₁) (fit r₂ _ w₂) (λ n h. p n h ∙ sym (q n h))

pub low_in_unique : (κs : Lfts 0) (a : Dens κs low-in-kinds.ps) (r₁ r₂ : (res_t low-in-kinds.r κs).Denot) (s₁ s₂ : AtExit (ended_of 0 low-in-kinds.ps low-in-kinds.r) κs)
    → (low-in-kinds.r).is.Ok κs r₁ → (low-in-kinds.r).is.Ok κs r₂ → low-in.Post κs a r₁ s₁ → low-in.Post κs a r₂ s₂ → r₁ ≡ r₂
low_in_unique κs a r₁ r₂ s₁ s₂ w₁ w₂ p q = same_halves r₁ r₂ (fit r₁ _ w₁) (fit r₂ _ w₂) (λ n h. p n h ∙ sym (q n h))

pub between_unique : (κs : Lfts 0) (a : Dens κs between-kinds.ps) (r₁ r₂ : (res_t between-kinds.r κs).Denot) (s₁ s₂ : AtExit (ended_of 0 between-kinds.ps between-kinds.r) κs)
    → (between-kinds.r).is.Ok κs r₁ → (between-kinds.r).is.Ok κs r₂ → between.Post κs a r₁ s₁ → between.Post κs a r₂ s₂ → r₁ ≡ r₂
between_unique κs a r₁ r₂ s₁ s₂ w₁ w₂ p q = same_halves r₁ r₂ (fit r₁ _ w₁) (fit r₂ _ w₂) (λ n h. p n h ∙ sym (q n h))

pub high_out_unique : (κs : Lfts 0) (a : Dens κs high-out-kinds.ps) (r₁ r₂ : (res_t high-out-kinds.r κs).Denot) (s₁ s₂ : AtExit (ended_of 0 high-out-kinds.ps high-out-kinds.r) κs)
    → (high-out-kinds.r).is.Ok κs r₁ → (high-out-kinds.r).is.Ok κs r₂ → high-out.Post κs a r₁ s₁ → high-out.Post κs a r₂ s₂ → r₁ ≡ r₂
high_out_unique κs a r₁ r₂ s₁ s₂ w₁ w₂ p q = same_halves r₁ r₂ (fit r₁ _ w₁) (fit r₂ _ w₂) (λ n h. p n h ∙ sym (q n h))

pub low_out_unique : (κs : Lfts 0) (a : Dens κs low-out-kinds.ps) (r₁ r₂ : (res_t low-out-kinds.r κs).Denot) (s₁ s₂ : AtExit (ended_of 0 low-out-kinds.ps low-out-kinds.r) κs)
    → (low-out-kinds.r).is.Ok κs r₁ → (low-out-kinds.r).is.Ok κs r₂ → low-out.Post κs a r₁ s₁ → low-out.Post κs a r₂ s₂ → r₁ ≡ r₂
low_out_unique κs a r₁ r₂ s₁ s₂ w₁ w₂ p q = same_halves r₁ r₂ (fit r₁ _ w₁) (fit r₂ _ w₂) (λ n h. p n h ∙ sym (q n h))

pub box_e_unique : (κs : Lfts 0) (a : Dens κs box-e-kinds.ps) (r₁ r₂ : (res_t box-e-kinds.r κs).Denot) (s₁ s₂ : AtExit (ended_of 0 box-e-kinds.ps box-e-kinds.r) κs)
    → box-e.Post κs a r₁ s₁ → box-e.Post κs a r₂ s₂ → r₁ ≡ r₂
box_e_unique κs a r₁ r₂ s₁ s₂ p q = p ∙ sym q

pub box_e_back_unique : (κs : Lfts 0) (a : Dens κs box-e-back-kinds.ps) (r₁ r₂ : (res_t box-e-back-kinds.r κs).Denot) (s₁ s₂ : AtExit (ended_of 0 box-e-back-kinds.ps box-e-back-kinds.r) κs)
    → box-e-back.Post κs a r₁ s₁ → box-e-back.Post κs a r₂ s₂ → r₁ ≡ r₂
box_e_back_unique κs a r₁ r₂ s₁ s₂ p q = p ∙ sym q

pub box_r_unique : (κs : Lfts 0) (a : Dens κs box-r-kinds.ps) (r₁ r₂ : (res_t box-r-kinds.r κs).Denot) (s₁ s₂ : AtExit (ended_of 0 box-r-kinds.ps box-r-kinds.r) κs)
    → box-r.Post κs a r₁ s₁ → box-r.Post κs a r₂ s₂ → r₁ ≡ r₂
box_r_unique κs a r₁ r₂ s₁ s₂ p q = p ∙ sym q
