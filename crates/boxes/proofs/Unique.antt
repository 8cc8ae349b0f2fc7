-- Each public call promises one state: two that meet the promise at the same arguments leave the same 64 bytes. The promise fixes the planes of what
-- is left, and planes are one to one; that its elements are bytes is what their type says (`AllBytes`).
-- Assumes nothing.
use mathlib.Core.Path.{◌≡◌, sym, ap, ◌∙◌}
use mathlib.Core.List.{List}
use Prim.Native.Nat.{ℕ}
use contract.Lifetimes.{Lfts}
use borrow.Fn.Kinds.{Dens, res_t, ended_of}
use denote.Triple.Clauses.{AtExit}
use lib.ListN.{length}
use Rattle.laws.specs.Lists.{AllBytes}
use Rattle.planes.specs.Planes.{flipped}
use Rattle.planes.proofs.FlipLaws.{flip_flip}
use Rattle.boxes.proofs.substitute.Reads as substitute
use Rattle.boxes.proofs.substitute.Kinds as substitute-kinds
use Rattle.boxes.proofs.substitute_back.Reads as substitute-back
use Rattle.boxes.proofs.substitute_back.Kinds as substitute-back-kinds

-- two lists of 64 bytes with the same planes
same_planes : (s t w : List ℕ) → AllBytes s → AllBytes t → (length s ≡ 64) × (flipped s ≡ w) → (length t ≡ 64) × (flipped t ≡ w) → s ≡ t
same_planes s t w hs ht p q =
    sym (flip_flip s (record { long = p.0; bytes = hs })) ∙ ap flipped (p.1 ∙ sym q.1) ∙ flip_flip t (record { long = q.0; bytes = ht })

pub substitute_unique : (κs : Lfts 2) (a : Dens κs substitute-kinds.ps) (r₁ r₂ : (res_t substitute-kinds.r κs).Denot) (s₁ s₂ : AtExit (ended_of 2 substitute-kinds.ps substitute-kinds.r) κs)
    → AllBytes s₁.1.0.now → AllBytes s₂.1.0.now → substitute.Post κs a r₁ s₁ → substitute.Post κs a r₂ s₂ → s₁.1.0.now ≡ s₂.1.0.now
substitute_unique κs a r₁ r₂ s₁ s₂ b₁ b₂ p q = same_planes _ _ _ b₁ b₂ p q

pub substitute_back_unique : (κs : Lfts 2) (a : Dens κs substitute-back-kinds.ps) (r₁ r₂ : (res_t substitute-back-kinds.r κs).Denot) (s₁ s₂ : AtExit (ended_of 2 substitute-back-kinds.ps substitute-back-kinds.r) κs)
    → AllBytes s₁.1.0.now → AllBytes s₂.1.0.now → substitute-back.Post κs a r₁ s₁ → substitute-back.Post κs a r₂ s₂ → s₁.1.0.now ≡ s₂.1.0.now
substitute_back_unique κs a r₁ r₂ s₁ s₂ b₁ b₂ p q = same_planes _ _ _ b₁ b₂ p q
