-- `print::parse` promises one result. (The other public functions write, and answer only whether they could.)
-- Assumes nothing.
use mathlib.Core.Path.{◌≡◌, sym, ◌∙◌}
use contract.Lifetimes.{Lfts}
use borrow.Fn.Kinds.{Dens, res_t, ended_of}
use denote.Triple.Clauses.{AtExit}
use Rattle.print.proofs.parse.Reads as parsing
use Rattle.print.proofs.parse.Kinds as parsing-kinds

pub parse_unique : (κs : Lfts 1) (a : Dens κs parsing-kinds.ps) (r₁ r₂ : (res_t parsing-kinds.r κs).Denot)
    (s₁ s₂ : AtExit (ended_of 1 parsing-kinds.ps parsing-kinds.r) κs) → parsing.Post κs a r₁ s₁ → parsing.Post κs a r₂ s₂ → r₁ ≡ r₂
parse_unique κs a r₁ r₂ s₁ s₂ p q = p.0 ∙ sym q.0
