-- The reader's calls promise one result, and nb_read one buffer.
-- Assumes nothing.
use mathlib.Core.Path.{◌≡◌, sym, ◌∙◌}
use contract.Lifetimes.{Lfts}
use borrow.Fn.Kinds.{Dens, res_t, ended_of}
use denote.Triple.Clauses.{AtExit}
use Rattle.notchbadger.proofs.reading.NbGotFromGot.from.Reads as got
use Rattle.notchbadger.proofs.reading.NbGotFromGot.from.Kinds as got-kinds
use Rattle.notchbadger.proofs.reading.nb_read.Reads as read
use Rattle.notchbadger.proofs.reading.nb_read.Kinds as read-kinds
use Rattle.notchbadger.proofs.reading.nb_record_part.Reads as part
use Rattle.notchbadger.proofs.reading.nb_record_part.Kinds as part-kinds
use Rattle.notchbadger.proofs.reading.nb_look_number.Reads as look-number
use Rattle.notchbadger.proofs.reading.nb_look_number.Kinds as look-number-kinds
use Rattle.notchbadger.proofs.reading.nb_look.Reads as look
use Rattle.notchbadger.proofs.reading.nb_look.Kinds as look-kinds

pub got_unique : (κs : Lfts 0) (a : Dens κs got-kinds.ps) (r₁ r₂ : (res_t got-kinds.r κs).Denot)
    (s₁ s₂ : AtExit (ended_of 0 got-kinds.ps got-kinds.r) κs)
    → got.Post κs a r₁ s₁ → got.Post κs a r₂ s₂ → r₁ ≡ r₂
got_unique κs a r₁ r₂ s₁ s₂ p q = p ∙ sym q

pub read_unique : (κs : Lfts 3) (a : Dens κs read-kinds.ps) (r₁ r₂ : (res_t read-kinds.r κs).Denot)
    (s₁ s₂ : AtExit (ended_of 3 read-kinds.ps read-kinds.r) κs)
    → read.Post κs a r₁ s₁ → read.Post κs a r₂ s₂
    → (r₁ ≡ r₂) × (s₁.1.1.1.1.1.0.now ≡ s₂.1.1.1.1.1.0.now)
read_unique κs a r₁ r₂ s₁ s₂ p q = (p.says ∙ sym q.says, p.leaves ∙ sym q.leaves)

pub record_part_unique : (κs : Lfts 1) (a : Dens κs part-kinds.ps) (r₁ r₂ : (res_t part-kinds.r κs).Denot)
    (s₁ s₂ : AtExit (ended_of 1 part-kinds.ps part-kinds.r) κs)
    → part.Post κs a r₁ s₁ → part.Post κs a r₂ s₂ → r₁ ≡ r₂
record_part_unique κs a r₁ r₂ s₁ s₂ p q = p ∙ sym q

pub look_number_unique : (κs : Lfts 1) (a : Dens κs look-number-kinds.ps) (r₁ r₂ : (res_t look-number-kinds.r κs).Denot)
    (s₁ s₂ : AtExit (ended_of 1 look-number-kinds.ps look-number-kinds.r) κs)
    → look-number.Post κs a r₁ s₁ → look-number.Post κs a r₂ s₂ → r₁ ≡ r₂
look_number_unique κs a r₁ r₂ s₁ s₂ p q = p ∙ sym q

pub look_unique : (κs : Lfts 1) (a : Dens κs look-kinds.ps) (r₁ r₂ : (res_t look-kinds.r κs).Denot)
    (s₁ s₂ : AtExit (ended_of 1 look-kinds.ps look-kinds.r) κs)
    → look.Post κs a r₁ s₁ → look.Post κs a r₂ s₂ → r₁ ≡ r₂
look_unique κs a r₁ r₂ s₁ s₂ p q = p ∙ sym q
