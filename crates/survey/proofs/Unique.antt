-- `survey::space` and `survey::report` promise one result: two that meet the promise at the same arguments are equal.
-- Assumes nothing.
use mathlib.Core.Path.{◌≡◌, sym, ◌∙◌}
use contract.Lifetimes.{Lfts}
use borrow.Fn.Kinds.{Dens, res_t, ended_of}
use denote.Triple.Clauses.{AtExit}
use Rattle.survey.proofs.space.Reads as spacing
use Rattle.survey.proofs.space.Kinds as spacing-kinds
use Rattle.survey.proofs.report.Reads as report
use Rattle.survey.proofs.report.Kinds as report-kinds

pub space_unique : (κs : Lfts 1) (a : Dens κs spacing-kinds.ps) (r₁ r₂ : (res_t spacing-kinds.r κs).Denot) (s₁ s₂ : AtExit (ended_of 1 spacing-kinds.ps spacing-kinds.r) κs)
    → spacing.Post κs a r₁ s₁ → spacing.Post κs a r₂ s₂ → r₁ ≡ r₂
space_unique κs a r₁ r₂ s₁ s₂ p q = p.says ∙ sym q.says

pub report_unique : (κs : Lfts 1) (a : Dens κs report-kinds.ps) (r₁ r₂ : (res_t report-kinds.r κs).Denot) (s₁ s₂ : AtExit (ended_of 1 report-kinds.ps report-kinds.r) κs)
    → report.Post κs a r₁ s₁ → report.Post κs a r₂ s₂ → r₁ ≡ r₂
report_unique κs a r₁ r₂ s₁ s₂ p q = p ∙ sym q
