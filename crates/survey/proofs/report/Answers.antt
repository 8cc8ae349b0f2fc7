-- `survey::report` meets its contract: refused, or the walk from 0 on.
-- Assumes nothing.
use mathlib.Core.Path.{◌≡◌, sym, ap, subst, ◌∙◌}
use mathlib.Core.List.{List, [], ◌∷◌}
use Prim.Native.Nat.{ℕ}
use native.Mathlib.Omega.{arith}
use Rattle.std.specs.Prelude.{Ok}
use Rattle.std.proofs.lemmas.Result.{err_from_is_err_and}
use Rattle.numbers.proofs.RefusalLaws.{answered_err, answered_ok}
use Rattle.block.specs.declared.Cartridge.{Cartridge}
use Rattle.block.specs.Image.{capacity_of}
use Rattle.reader.specs.Walk.{walk}
use Rattle.reader.specs.Steps.{shown}
use Rattle.survey.specs.declared.Tally.{Tally}
use Rattle.survey.specs.Report.{tally_of, report_number, report_of}
use Rattle.survey.specs.Steps.{list_of, count_on}
use Rattle.survey.proofs.report.Goals as goal

pub returns-in_err-lent : goal.returns-in_err-lent
unfolding report_of report_number
returns-in_err-lent c =
    let p = err_from_is_err_and c.from_residual.result c.from_residual.ensures.1 in
    rw (p.1, p.2, sym c.in_err-lent.ensures.number) (sym (answered_err _ _))

-- the walk is counted from six counts of 0 on, whatever gave these
reported : (t : Cartridge) {u : Cartridge} {n : Tally} {r m e b s x : ℕ} → 0 ≡ report_number t.key.now t.image.now → u ≡ t
    → list_of n ≡ count_on (capacity_of u.image.now) (shown u) (capacity_of u.image.now) 0 (r ∷ m ∷ e ∷ b ∷ s ∷ x ∷ [])
    → r ≡ 0 → m ≡ 0 → e ≡ 0 → b ≡ 0 → s ≡ 0 → x ≡ 0
    → Ok n ≡ report_of t.key.now t.id t.recording t.image.now
unfolding report_of report_number count_on walk
reported t {n = n} {r = r} {m = m} {e = e} {b = b} {s = s} {x = x} h same c er em ee eb es ex =
    let P : Cartridge → Type 0 = λ u. list_of n ≡ count_on (capacity_of u.image.now) (shown u) (capacity_of u.image.now) 0 (r ∷ m ∷ e ∷ b ∷ s ∷ x ∷ []) in
    ap (λ (l : List ℕ). Ok (tally_of l)) (rw (er, em, ee, eb, es, ex) at (subst P same c)) ∙ sym (answered_ok _ _ (sym h))

pub returns : goal.returns
unfolding report_of report_number
returns c =
    reported c.args.cartridge c.in_ok-lent.ensures.number c.in_ok-lent.ensures.same (c.between.ensures _ (omega arith))
    (omega arith) (omega arith) (omega arith) (omega arith) (omega arith) (omega arith)
