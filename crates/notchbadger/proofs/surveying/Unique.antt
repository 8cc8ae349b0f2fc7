-- Spacing and the report promise one result.
-- Assumes nothing.
use mathlib.Core.Path.{◌≡◌, sym, ◌∙◌}
use contract.Lifetimes.{Lfts}
use borrow.Fn.Kinds.{Dens, res_t, ended_of}
use denote.Triple.Clauses.{AtExit}
use Rattle.notchbadger.proofs.surveying.NbSpacedFromSpaced.from.Reads as spaced
use Rattle.notchbadger.proofs.surveying.NbSpacedFromSpaced.from.Kinds as spaced-kinds
use Rattle.notchbadger.proofs.surveying.NbTallyFromResultTallyRefusal.from.Reads as tally
use Rattle.notchbadger.proofs.surveying.NbTallyFromResultTallyRefusal.from.Kinds as tally-kinds
use Rattle.notchbadger.proofs.surveying.nb_space.Reads as space
use Rattle.notchbadger.proofs.surveying.nb_space.Kinds as space-kinds
use Rattle.notchbadger.proofs.surveying.nb_report.Reads as report
use Rattle.notchbadger.proofs.surveying.nb_report.Kinds as report-kinds

pub spaced_unique : (κs : Lfts 0) (a : Dens κs spaced-kinds.ps) (r₁ r₂ : (res_t spaced-kinds.r κs).Denot)
    (s₁ s₂ : AtExit (ended_of 0 spaced-kinds.ps spaced-kinds.r) κs)
    → spaced.Post κs a r₁ s₁ → spaced.Post κs a r₂ s₂ → r₁ ≡ r₂
spaced_unique κs a r₁ r₂ s₁ s₂ p q = p ∙ sym q

pub tally_unique : (κs : Lfts 0) (a : Dens κs tally-kinds.ps) (r₁ r₂ : (res_t tally-kinds.r κs).Denot)
    (s₁ s₂ : AtExit (ended_of 0 tally-kinds.ps tally-kinds.r) κs)
    → tally.Post κs a r₁ s₁ → tally.Post κs a r₂ s₂ → r₁ ≡ r₂
tally_unique κs a r₁ r₂ s₁ s₂ p q = p ∙ sym q

pub space_unique : (κs : Lfts 2) (a : Dens κs space-kinds.ps) (r₁ r₂ : (res_t space-kinds.r κs).Denot)
    (s₁ s₂ : AtExit (ended_of 2 space-kinds.ps space-kinds.r) κs)
    → space.Post κs a r₁ s₁ → space.Post κs a r₂ s₂ → r₁ ≡ r₂
space_unique κs a r₁ r₂ s₁ s₂ p q = p ∙ sym q

pub report_unique : (κs : Lfts 2) (a : Dens κs report-kinds.ps) (r₁ r₂ : (res_t report-kinds.r κs).Denot)
    (s₁ s₂ : AtExit (ended_of 2 report-kinds.ps report-kinds.r) κs)
    → report.Post κs a r₁ s₁ → report.Post κs a r₂ s₂ → r₁ ≡ r₂
report_unique κs a r₁ r₂ s₁ s₂ p q = p ∙ sym q
