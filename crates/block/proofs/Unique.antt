-- `block::is_image`, `image_then_key`, `Cartridge::capacity`, `seal_block` and `open_block` promise one result: two
-- that meet the promise at the same arguments are equal, and so is what they leave in the part or the buffer.
-- Assumes nothing.
use mathlib.Core.Path.{◌≡◌, sym, ◌∙◌}
use contract.Lifetimes.{Lfts}
use borrow.Fn.Kinds.{Dens, res_t, ended_of}
use denote.Triple.Clauses.{AtExit}
use Rattle.numbers.proofs.RefusalLaws.{same_answer}
use Rattle.block.proofs.is_image.Reads as sizing
use Rattle.block.proofs.is_image.Kinds as sizing-kinds
use Rattle.block.proofs.image_then_key.Reads as asking
use Rattle.block.proofs.image_then_key.Kinds as asking-kinds
use Rattle.block.proofs.Cartridge.capacity.Reads as counting
use Rattle.block.proofs.Cartridge.capacity.Kinds as counting-kinds
use Rattle.block.proofs.seal_block.Reads as sealing
use Rattle.block.proofs.seal_block.Kinds as sealing-kinds
use Rattle.block.proofs.open_block.Reads as opening
use Rattle.block.proofs.open_block.Kinds as opening-kinds

pub is_image_unique : (κs : Lfts 0) (a : Dens κs sizing-kinds.ps) (r₁ r₂ : (res_t sizing-kinds.r κs).Denot) (s₁ s₂ : AtExit (ended_of 0 sizing-kinds.ps sizing-kinds.r) κs)
    → sizing.Post κs a r₁ s₁ → sizing.Post κs a r₂ s₂ → r₁ ≡ r₂
is_image_unique κs a r₁ r₂ s₁ s₂ p q = p ∙ sym q

pub image_then_key_unique : (κs : Lfts 2) (a : Dens κs asking-kinds.ps) (r₁ r₂ : (res_t asking-kinds.r κs).Denot) (s₁ s₂ : AtExit (ended_of 2 asking-kinds.ps asking-kinds.r) κs)
    → asking.Post κs a r₁ s₁ → asking.Post κs a r₂ s₂ → r₁ ≡ r₂
image_then_key_unique κs a r₁ r₂ s₁ s₂ p q = same_answer r₁ r₂ (p ∙ sym q)

pub capacity_unique : (κs : Lfts 1) (a : Dens κs counting-kinds.ps) (r₁ r₂ : (res_t counting-kinds.r κs).Denot) (s₁ s₂ : AtExit (ended_of 1 counting-kinds.ps counting-kinds.r) κs)
    → counting.Post κs a r₁ s₁ → counting.Post κs a r₂ s₂ → r₁ ≡ r₂
capacity_unique κs a r₁ r₂ s₁ s₂ p q = p ∙ sym q

pub seal_block_unique : (κs : Lfts 3) (a : Dens κs sealing-kinds.ps) (r₁ r₂ : (res_t sealing-kinds.r κs).Denot) (s₁ s₂ : AtExit (ended_of 3 sealing-kinds.ps sealing-kinds.r) κs)
    → sealing.Post κs a r₁ s₁ → sealing.Post κs a r₂ s₂ → (r₁ ≡ r₂) × (s₁.1.1.1.1.1.1.0.now ≡ s₂.1.1.1.1.1.1.0.now)
seal_block_unique κs a r₁ r₂ s₁ s₂ p q = (same_answer r₁ r₂ (p.code ∙ sym q.code), p.bytes ∙ sym q.bytes)

pub open_block_unique : (κs : Lfts 3) (a : Dens κs opening-kinds.ps) (r₁ r₂ : (res_t opening-kinds.r κs).Denot) (s₁ s₂ : AtExit (ended_of 3 opening-kinds.ps opening-kinds.r) κs)
    → opening.Post κs a r₁ s₁ → opening.Post κs a r₂ s₂ → (r₁ ≡ r₂) × (s₁.1.1.1.1.1.0.now ≡ s₂.1.1.1.1.1.0.now)
open_block_unique κs a r₁ r₂ s₁ s₂ p q = (p.says ∙ sym q.says, p.bytes ∙ sym q.bytes)
