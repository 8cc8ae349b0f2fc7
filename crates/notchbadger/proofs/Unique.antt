-- The version: two results that meet the call's promise are equal.
-- Assumes nothing.
use mathlib.Core.Path.{◌≡◌, sym, ◌∙◌}
use contract.Lifetimes.{Lfts}
use borrow.Fn.Kinds.{Dens, res_t, ended_of}
use denote.Triple.Clauses.{AtExit}
use Rattle.notchbadger.proofs.nb_version.Reads as version
use Rattle.notchbadger.proofs.nb_version.Kinds as version-kinds

pub version_unique : (κs : Lfts 0) (a : Dens κs version-kinds.ps) (r₁ r₂ : (res_t version-kinds.r κs).Denot)
    (s₁ s₂ : AtExit (ended_of 0 version-kinds.ps version-kinds.r) κs)
    → version.Post κs a r₁ s₁ → version.Post κs a r₂ s₂ → r₁ ≡ r₂
version_unique κs a r₁ r₂ s₁ s₂ p q = p ∙ sym q
