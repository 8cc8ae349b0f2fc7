-- The file number across the boundary: in a chain of `nb_` calls behind a start that was taken, the marks of the state
-- that came back last are what `nb_report` counts in the image.
-- Assumes nothing.
use mathlib.Core.Path.{◌≡◌, refl, sym, ap, ◌∙◌}
use mathlib.Core.List.{List}
use Prim.Native.Nat.{ℕ}
use native.Mathlib.Omega.{arith}
use Rattle.std.specs.Prelude.{Result, Ok, Err}
use Rattle.numbers.specs.declared.Refusal.{Refusal}
use Rattle.writer.specs.declared.Reply.{Reply}
use Rattle.writer.specs.declared.Reply.TheVariants.{Plain, Warned}
use Rattle.writer.specs.Writing.{wrote_of, Did}
use Rattle.writer.proofs.Rules.{start_says}
use Rattle.survey.specs.Report.{report_of}
use Rattle.cartridge.specs.Chain.{AllCallBytes, Run, begun}
use Rattle.cartridge.proofs.Counted.{file_number_by_calls}
use Rattle.notchbadger.specs.declared.writing.NbState.{NbState}
use Rattle.notchbadger.specs.declared.writing.NbWrote.{NbWrote}
use Rattle.notchbadger.specs.declared.surveying.NbTally.{NbTally}
use Rattle.notchbadger.specs.FlatWriter.{reply_code, FlatStarted}
use Rattle.notchbadger.specs.FlatSurvey.{flat_tally}
use Rattle.notchbadger.specs.NbChain.{NbWrites}
use Rattle.notchbadger.proofs.writing.Chained.{nb_chain}

plain_code : (a : Result Reply Refusal) → reply_code a ≡ 0 → a ≡ Ok Plain
plain_code (Ok Plain) e = refl
plain_code (Ok Warned) e = absurd (omega arith)
plain_code (Err e) r = absurd (omega arith)

pub nb_file_number : (r : Run) {w₀ : NbWrote} {z : List ℕ} {rs : List NbWrote} {s : NbState} {was : List ℕ} {t : NbTally}
    → FlatStarted (begun r.setup) w₀ z → w₀.reply ≡ 0 → AllCallBytes r.calls
    → NbWrites r.setup.key w₀.state z r.calls rs s was
    → t ≡ flat_tally (report_of r.setup.key r.setup.id r.setup.recording was) → s.marks ≡ t.marks
nb_file_number r {z = z} c e b ch q =
    let a = r.setup in
    let d = begun a in
    let k = nb_chain d.state (ap (λ (y : NbWrote). y.state) c.says) ch in
    let did : Did d (wrote_of d) z = record { says = refl; number = start_says a.id a.recording a.zone a.fresh; leaves = c.leaves } in
    let plain = plain_code d.reply (sym (ap (λ (y : NbWrote). y.reply) c.says) ∙ e) in
    ap (λ (y : NbState). y.marks) k.ends ∙ (file_number_by_calls r did plain b k.writes).1 ∙ sym (ap (λ (y : NbTally). y.marks) q)
