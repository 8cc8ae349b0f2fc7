-- `put`, `get`, `enc` and `dec` promise one result: two that meet the promise at the same arguments are equal, in the number and in each lent buffer.
-- Assumes nothing.
use mathlib.Core.Path.{◌≡◌, sym, ◌∙◌}
use contract.Lifetimes.{Lfts}
use borrow.Fn.Kinds.{Dens, res_t, ended_of}
use denote.Triple.Clauses.{AtExit}
use Rattle.numbers.proofs.RefusalLaws.{same_answer}
use Rattle.sponge.proofs.put.Reads as put
use Rattle.sponge.proofs.put.Kinds as put-kinds
use Rattle.sponge.proofs.get.Reads as get
use Rattle.sponge.proofs.get.Kinds as get-kinds
use Rattle.sponge.proofs.enc.Reads as enc
use Rattle.sponge.proofs.enc.Kinds as enc-kinds
use Rattle.sponge.proofs.dec.Reads as dec
use Rattle.sponge.proofs.dec.Kinds as dec-kinds

pub put_unique : (κs : Lfts 2) (a : Dens κs put-kinds.ps) (r₁ r₂ : (res_t put-kinds.r κs).Denot) (s₁ s₂ : AtExit (ended_of 2 put-kinds.ps put-kinds.r) κs)
    → put.Post κs a r₁ s₁ → put.Post κs a r₂ s₂ → (r₁ ≡ r₂) × (s₁.0.now ≡ s₂.0.now)
put_unique κs a r₁ r₂ s₁ s₂ p q = (same_answer r₁ r₂ (p.code ∙ sym q.code), p.state ∙ sym q.state)

pub get_unique : (κs : Lfts 2) (a : Dens κs get-kinds.ps) (r₁ r₂ : (res_t get-kinds.r κs).Denot) (s₁ s₂ : AtExit (ended_of 2 get-kinds.ps get-kinds.r) κs)
    → get.Post κs a r₁ s₁ → get.Post κs a r₂ s₂ → (r₁ ≡ r₂) × (s₁.0.now ≡ s₂.0.now) × (s₁.1.0.now ≡ s₂.1.0.now)
get_unique κs a r₁ r₂ s₁ s₂ p q = (same_answer r₁ r₂ (p.code ∙ sym q.code), p.state ∙ sym q.state, p.bytes ∙ sym q.bytes)

pub enc_unique : (κs : Lfts 3) (a : Dens κs enc-kinds.ps) (r₁ r₂ : (res_t enc-kinds.r κs).Denot) (s₁ s₂ : AtExit (ended_of 3 enc-kinds.ps enc-kinds.r) κs)
    → enc.Post κs a r₁ s₁ → enc.Post κs a r₂ s₂ → (r₁ ≡ r₂) × (s₁.0.now ≡ s₂.0.now) × (s₁.1.1.0.now ≡ s₂.1.1.0.now)
enc_unique κs a r₁ r₂ s₁ s₂ p q = (same_answer r₁ r₂ (p.code ∙ sym q.code), p.state ∙ sym q.state, p.bytes ∙ sym q.bytes)

pub dec_unique : (κs : Lfts 3) (a : Dens κs dec-kinds.ps) (r₁ r₂ : (res_t dec-kinds.r κs).Denot) (s₁ s₂ : AtExit (ended_of 3 dec-kinds.ps dec-kinds.r) κs)
    → dec.Post κs a r₁ s₁ → dec.Post κs a r₂ s₂ → (r₁ ≡ r₂) × (s₁.0.now ≡ s₂.0.now) × (s₁.1.1.0.now ≡ s₂.1.1.0.now)
dec_unique κs a r₁ r₂ s₁ s₂ p q = (same_answer r₁ r₂ (p.code ∙ sym q.code), p.state ∙ sym q.state, p.bytes ∙ sym q.bytes)
