-- `reader::read`, `record_part`, `look_number` and `look` promise one result: two that meet the promise at the same
-- arguments are equal, and so is what they leave in the buffer; a part handed back is one in its bytes and its place.
-- Assumes nothing.
use mathlib.Core.Path.{◌≡◌, sym, ◌∙◌}
use contract.Lifetimes.{Lfts}
use borrow.Fn.Kinds.{Dens, res_t, ended_of}
use denote.Triple.Clauses.{AtExit}
use Rattle.numbers.proofs.RefusalLaws.{same_answer}
use Rattle.reader.proofs.read.Reads as reading
use Rattle.reader.proofs.read.Kinds as reading-kinds
use Rattle.reader.proofs.record_part.Reads as parting
use Rattle.reader.proofs.record_part.Kinds as parting-kinds
use Rattle.reader.proofs.look_number.Reads as numbering
use Rattle.reader.proofs.look_number.Kinds as numbering-kinds
use Rattle.reader.proofs.look.Reads as looking
use Rattle.reader.proofs.look.Kinds as looking-kinds

pub read_unique : (κs : Lfts 2) (a : Dens κs reading-kinds.ps) (r₁ r₂ : (res_t reading-kinds.r κs).Denot) (s₁ s₂ : AtExit (ended_of 2 reading-kinds.ps reading-kinds.r) κs)
    → reading.Post κs a r₁ s₁ → reading.Post κs a r₂ s₂ → (r₁ ≡ r₂) × (s₁.1.1.0.now ≡ s₂.1.1.0.now)
read_unique κs a r₁ r₂ s₁ s₂ p q = (p.says ∙ sym q.says, p.leaves ∙ sym q.leaves)

pub record_part_unique : (κs : Lfts 1) (a : Dens κs parting-kinds.ps) (r₁ r₂ : (res_t parting-kinds.r κs).Denot) (s₁ s₂ : AtExit (ended_of 1 parting-kinds.ps parting-kinds.r) κs)
    → parting.Post κs a r₁ s₁ → parting.Post κs a r₂ s₂ → (r₁.now ≡ r₂.now) × (r₁.ref_ptr ≡ r₂.ref_ptr)
record_part_unique κs a r₁ r₂ s₁ s₂ p q = (p.0 ∙ sym q.0, p.1 ∙ sym q.1)

pub look_number_unique : (κs : Lfts 1) (a : Dens κs numbering-kinds.ps) (r₁ r₂ : (res_t numbering-kinds.r κs).Denot)
    (s₁ s₂ : AtExit (ended_of 1 numbering-kinds.ps numbering-kinds.r) κs) → numbering.Post κs a r₁ s₁ → numbering.Post κs a r₂ s₂ → r₁ ≡ r₂
look_number_unique κs a r₁ r₂ s₁ s₂ p q = same_answer r₁ r₂ (p ∙ sym q)

pub look_unique : (κs : Lfts 1) (a : Dens κs looking-kinds.ps) (r₁ r₂ : (res_t looking-kinds.r κs).Denot) (s₁ s₂ : AtExit (ended_of 1 looking-kinds.ps looking-kinds.r) κs)
    → looking.Post κs a r₁ s₁ → looking.Post κs a r₂ s₂ → (r₁.now ≡ r₂.now) × ((r₁.ref_ptr.0 ≡ r₂.ref_ptr.0) × (r₁.ref_ptr.1 ≡ r₂.ref_ptr.1))
look_unique κs a r₁ r₂ s₁ s₂ p q = (p.0 ∙ sym q.0, (p.1.0 ∙ sym q.1.0, p.1.1 ∙ sym q.1.1))
