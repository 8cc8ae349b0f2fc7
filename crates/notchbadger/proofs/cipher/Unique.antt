-- The permutation, the block operations and sealing: two results that meet a call's promise at the same arguments are
-- equal, and so is what they leave in each lent buffer.
-- Assumes nothing.
use mathlib.Core.Path.{◌≡◌, sym, ◌∙◌}
use contract.Lifetimes.{Lfts}
use borrow.Fn.Kinds.{Dens, res_t, ended_of}
use denote.Triple.Clauses.{AtExit}
use Rattle.notchbadger.proofs.cipher.nb_permute.Reads as permute
use Rattle.notchbadger.proofs.cipher.nb_permute.Kinds as permute-kinds
use Rattle.notchbadger.proofs.cipher.nb_permute_back.Reads as permute-back
use Rattle.notchbadger.proofs.cipher.nb_permute_back.Kinds as permute-back-kinds
use Rattle.notchbadger.proofs.cipher.nb_round.Reads as round
use Rattle.notchbadger.proofs.cipher.nb_round.Kinds as round-kinds
use Rattle.notchbadger.proofs.cipher.nb_round_back.Reads as round-back
use Rattle.notchbadger.proofs.cipher.nb_round_back.Kinds as round-back-kinds
use Rattle.notchbadger.proofs.cipher.nb_minibox.Reads as minibox
use Rattle.notchbadger.proofs.cipher.nb_minibox.Kinds as minibox-kinds
use Rattle.notchbadger.proofs.cipher.nb_put.Reads as put
use Rattle.notchbadger.proofs.cipher.nb_put.Kinds as put-kinds
use Rattle.notchbadger.proofs.cipher.nb_get.Reads as get
use Rattle.notchbadger.proofs.cipher.nb_get.Kinds as get-kinds
use Rattle.notchbadger.proofs.cipher.nb_enc.Reads as enc
use Rattle.notchbadger.proofs.cipher.nb_enc.Kinds as enc-kinds
use Rattle.notchbadger.proofs.cipher.nb_dec.Reads as dec
use Rattle.notchbadger.proofs.cipher.nb_dec.Kinds as dec-kinds
use Rattle.notchbadger.proofs.cipher.nb_seal.Reads as seal
use Rattle.notchbadger.proofs.cipher.nb_seal.Kinds as seal-kinds
use Rattle.notchbadger.proofs.cipher.nb_open.Reads as opening
use Rattle.notchbadger.proofs.cipher.nb_open.Kinds as opening-kinds

pub permute_unique : (κs : Lfts 1) (a : Dens κs permute-kinds.ps) (r₁ r₂ : (res_t permute-kinds.r κs).Denot)
    (s₁ s₂ : AtExit (ended_of 1 permute-kinds.ps permute-kinds.r) κs)
    → permute.Post κs a r₁ s₁ → permute.Post κs a r₂ s₂ → (r₁ ≡ r₂) × (s₁.0.now ≡ s₂.0.now)
permute_unique κs a r₁ r₂ s₁ s₂ p q = (p.code ∙ sym q.code, p.state ∙ sym q.state)

pub permute_back_unique : (κs : Lfts 1) (a : Dens κs permute-back-kinds.ps)
    (r₁ r₂ : (res_t permute-back-kinds.r κs).Denot)
    (s₁ s₂ : AtExit (ended_of 1 permute-back-kinds.ps permute-back-kinds.r) κs)
    → permute-back.Post κs a r₁ s₁ → permute-back.Post κs a r₂ s₂ → (r₁ ≡ r₂) × (s₁.0.now ≡ s₂.0.now)
permute_back_unique κs a r₁ r₂ s₁ s₂ p q = (p.code ∙ sym q.code, p.state ∙ sym q.state)

pub round_unique : (κs : Lfts 2) (a : Dens κs round-kinds.ps) (r₁ r₂ : (res_t round-kinds.r κs).Denot)
    (s₁ s₂ : AtExit (ended_of 2 round-kinds.ps round-kinds.r) κs)
    → round.Post κs a r₁ s₁ → round.Post κs a r₂ s₂ → (r₁ ≡ r₂) × (s₁.0.now ≡ s₂.0.now)
round_unique κs a r₁ r₂ s₁ s₂ p q = (p.code ∙ sym q.code, p.state ∙ sym q.state)

pub round_back_unique : (κs : Lfts 2) (a : Dens κs round-back-kinds.ps) (r₁ r₂ : (res_t round-back-kinds.r κs).Denot)
    (s₁ s₂ : AtExit (ended_of 2 round-back-kinds.ps round-back-kinds.r) κs)
    → round-back.Post κs a r₁ s₁ → round-back.Post κs a r₂ s₂ → (r₁ ≡ r₂) × (s₁.0.now ≡ s₂.0.now)
round_back_unique κs a r₁ r₂ s₁ s₂ p q = (p.code ∙ sym q.code, p.state ∙ sym q.state)

pub minibox_unique : (κs : Lfts 0) (a : Dens κs minibox-kinds.ps) (r₁ r₂ : (res_t minibox-kinds.r κs).Denot)
    (s₁ s₂ : AtExit (ended_of 0 minibox-kinds.ps minibox-kinds.r) κs)
    → minibox.Post κs a r₁ s₁ → minibox.Post κs a r₂ s₂ → r₁ ≡ r₂
minibox_unique κs a r₁ r₂ s₁ s₂ p q = p ∙ sym q

pub put_unique : (κs : Lfts 2) (a : Dens κs put-kinds.ps) (r₁ r₂ : (res_t put-kinds.r κs).Denot)
    (s₁ s₂ : AtExit (ended_of 2 put-kinds.ps put-kinds.r) κs)
    → put.Post κs a r₁ s₁ → put.Post κs a r₂ s₂ → (r₁ ≡ r₂) × (s₁.0.now ≡ s₂.0.now)
put_unique κs a r₁ r₂ s₁ s₂ p q = (p.code ∙ sym q.code, p.state ∙ sym q.state)

pub get_unique : (κs : Lfts 2) (a : Dens κs get-kinds.ps) (r₁ r₂ : (res_t get-kinds.r κs).Denot)
    (s₁ s₂ : AtExit (ended_of 2 get-kinds.ps get-kinds.r) κs)
    → get.Post κs a r₁ s₁ → get.Post κs a r₂ s₂
    → (r₁ ≡ r₂) × (s₁.0.now ≡ s₂.0.now) × (s₁.1.0.now ≡ s₂.1.0.now)
get_unique κs a r₁ r₂ s₁ s₂ p q = (p.code ∙ sym q.code, p.state ∙ sym q.state, p.bytes ∙ sym q.bytes)

pub enc_unique : (κs : Lfts 3) (a : Dens κs enc-kinds.ps) (r₁ r₂ : (res_t enc-kinds.r κs).Denot)
    (s₁ s₂ : AtExit (ended_of 3 enc-kinds.ps enc-kinds.r) κs)
    → enc.Post κs a r₁ s₁ → enc.Post κs a r₂ s₂
    → (r₁ ≡ r₂) × (s₁.0.now ≡ s₂.0.now) × (s₁.1.1.0.now ≡ s₂.1.1.0.now)
enc_unique κs a r₁ r₂ s₁ s₂ p q = (p.code ∙ sym q.code, p.state ∙ sym q.state, p.bytes ∙ sym q.bytes)

pub dec_unique : (κs : Lfts 3) (a : Dens κs dec-kinds.ps) (r₁ r₂ : (res_t dec-kinds.r κs).Denot)
    (s₁ s₂ : AtExit (ended_of 3 dec-kinds.ps dec-kinds.r) κs)
    → dec.Post κs a r₁ s₁ → dec.Post κs a r₂ s₂
    → (r₁ ≡ r₂) × (s₁.0.now ≡ s₂.0.now) × (s₁.1.1.0.now ≡ s₂.1.1.0.now)
dec_unique κs a r₁ r₂ s₁ s₂ p q = (p.code ∙ sym q.code, p.state ∙ sym q.state, p.bytes ∙ sym q.bytes)

pub seal_unique : (κs : Lfts 5) (a : Dens κs seal-kinds.ps) (r₁ r₂ : (res_t seal-kinds.r κs).Denot)
    (s₁ s₂ : AtExit (ended_of 5 seal-kinds.ps seal-kinds.r) κs)
    → seal.Post κs a r₁ s₁ → seal.Post κs a r₂ s₂ → (r₁ ≡ r₂) × (s₁.1.1.1.1.0.now ≡ s₂.1.1.1.1.0.now)
seal_unique κs a r₁ r₂ s₁ s₂ p q = (p.code ∙ sym q.code, p.bytes ∙ sym q.bytes)

pub open_unique : (κs : Lfts 5) (a : Dens κs opening-kinds.ps) (r₁ r₂ : (res_t opening-kinds.r κs).Denot)
    (s₁ s₂ : AtExit (ended_of 5 opening-kinds.ps opening-kinds.r) κs)
    → opening.Post κs a r₁ s₁ → opening.Post κs a r₂ s₂
    → (r₁ ≡ r₂) × (s₁.1.1.1.1.0.now ≡ s₂.1.1.1.1.0.now)
open_unique κs a r₁ r₂ s₁ s₂ p q = (p.code ∙ sym q.code, p.bytes ∙ sym q.bytes)
