-- The file number: the file marks that the writer's state has counted are those that a walk over the image as it stands
-- meets, and so those that the report counts there.
-- Assumes nothing.
use mathlib.Core.Path.{◌≡◌, refl, sym, ap, ◌∙◌}
use mathlib.Core.List.{List, [], ◌∷◌, ◌++◌}
use Prim.Native.Nat.{ℕ, zero, suc, ◌+◌}
use native.Mathlib.Omega.{arith}
use lib.Dec.{eqb}
use lib.ListN.{length}
use Rattle.std.specs.Prelude.{Result, Ok}
use Rattle.numbers.specs.declared.Refusal.{Refusal}
use Rattle.laws.specs.Choose.{pick}
use Rattle.laws.proofs.ListLaws.{listed_seen}
use Rattle.block.specs.Image.{capacity_of}
use Rattle.block.proofs.ImageSize.{asks_rest}
use Rattle.writer.specs.declared.WriterState.{WriterState}
use Rattle.writer.specs.declared.Reply.TheVariants.{Plain}
use Rattle.writer.specs.declared.Wrote.{Wrote}
use Rattle.writer.specs.Items.{Item, size, file_marks, file_marks_in}
use Rattle.writer.specs.Writing.{Done, Did, taken, ended, item_number, close_number, write, close}
use Rattle.writer.proofs.Judged.{judged_refused}
use Rattle.writer.proofs.Ready.{item_fits, close_ready}
use Rattle.reader.specs.Walk.{Told, Record, Mark, End, Bad, Stray, Cut, Visit, walk}
use Rattle.survey.specs.Marks.{how_many}
use Rattle.survey.specs.declared.Tally.{Tally}
use Rattle.survey.specs.Report.{outcomes, place_of, counts_of, report_number, report_of}
use Rattle.survey.proofs.ReportLaws.{report_counts, report_refused}
use Rattle.cartridge.specs.Chain.{Call, item, closing, call, chain, AllCallBytes, Run, begun, left, items, shown, Proper}
use Rattle.cartridge.specs.ByCalls.{Writes}
use Rattle.cartridge.specs.Handed.{Handed, hands_out, handed}
use Rattle.cartridge.proofs.Made.{made}
use Rattle.cartridge.proofs.CanBeMet.{image_holds}
use Rattle.cartridge.proofs.Demand3.{placed, nothing_lost}
use Rattle.cartridge.proofs.ByCalls.{as_run}

-- ---- among what a walk hands out
abbrev handed_marks : List Handed → ℕ
handed_marks [] = 0
handed_marks (h ∷ hs) = file_marks h.item + handed_marks hs

answer_marks : (p : ℕ) (t : Told) (hs : List Handed) → handed_marks (hands_out p t ++ hs) ≡ pick (eqb 1 (place_of t)) 1 0 + handed_marks hs
answer_marks p (Record b) hs = refl
answer_marks p Mark hs = refl
answer_marks p End hs = omega arith
answer_marks p Bad hs = omega arith
answer_marks p Stray hs = omega arith
answer_marks p (Cut q) hs = omega arith

walk_marks : (w : List Visit) → handed_marks (handed w) ≡ how_many 1 w
unfolding how_many
walk_marks [] = refl
walk_marks (x ∷ w) = answer_marks x.at x.says (handed w) ∙ ap (λ (n : ℕ). pick (eqb 1 (place_of x.says)) 1 0 + n) (walk_marks w)

placed_marks : (is : List Item) (s : ℕ) → handed_marks (placed s is) ≡ file_marks_in is
placed_marks [] s = refl
placed_marks (i ∷ is) s = ap (λ (n : ℕ). file_marks i + n) (placed_marks is (s + size i))

-- closed or still open
pub marks_walked : (r : Run) → Proper r → how_many 1 (walk (shown r.setup (left r).image) (capacity_of (left r).image)) ≡ file_marks_in (items r)
marks_walked r p =
    let w = walk (shown r.setup (left r).image) (capacity_of (left r).image) in
    sym (walk_marks w) ∙ ap handed_marks (nothing_lost r p) ∙ placed_marks (items r) 0

pub marks_reported : (r : Run) → Proper r → let a = r.setup in report_number a.key (left r).image ≡ 0
    → (counts_of (report_of a.key a.id a.recording (left r).image)).marks ≡ file_marks_in (items r)
marks_reported r p e =
    let a = r.setup in
    let w = walk (shown a (left r).image) (capacity_of (left r).image) in
    ap (λ (x : Result Tally Refusal). (counts_of x).marks) (report_counts a.key a.id a.recording (left r).image e)
    ∙ listed_seen outcomes (λ k. how_many k w) 1 (omega arith) ∙ marks_walked r p

-- ---- the writer's number is the walk's: after the start and any calls, taken or refused, closed or still open
pub file_number : (r : Run) → Proper r
    → (left r).state.marks ≡ how_many 1 (walk (shown r.setup (left r).image) (capacity_of (left r).image))
file_number r p = (made r p).counts ∙ sym (marks_walked r p)

-- without a key of 24 bytes nothing is taken
call_keyless : (key : List ℕ) (s : WriterState) (image : List ℕ) (x : Call) → (length key ≡ 24 → ⊥) → (call key s image x).state ≡ s
unfolding write close
call_keyless key s image (item i) n =
    ap (λ (d : Done). d.state)
    (judged_refused (taken s key image i) s image (item_number s key image i) (λ e. n (item_fits s key image i e).ready.asked.key24))
call_keyless key s image closing n =
    ap (λ (d : Done). d.state) (judged_refused (ended s key image) s image (close_number s key image) (λ e. n (close_ready s key image e).asked.key24))

chain_keyless : (key : List ℕ) (s : WriterState) (image : List ℕ) (xs : List Call) → (length key ≡ 24 → ⊥) → (chain key s image xs).state ≡ s
chain_keyless key s image [] n = refl
chain_keyless key s image (x ∷ xs) n =
    chain_keyless key (call key s image x).state (call key s image x).image xs n ∙ call_keyless key s image x n

-- and it is the report's. Refused, which is under a key of another length, the report counts nothing
module _ (r : Run) (p : Proper r) where
  abbrev reports : Tally
  reports = counts_of (report_of r.setup.key r.setup.id r.setup.recording (left r).image)

  refused_keyless : (report_number r.setup.key (left r).image ≡ 0 → ⊥) → length r.setup.key ≡ 24 → ⊥
  unfolding report_number
  refused_keyless n k =
      let ok = image_holds r.setup (left r).state (left r).image (items r) (made r p) k in
      n (asks_rest r.setup.key (left r).image (record { image_holds = ok; key24 = k }) 0)

  begins_at_0 : (begun r.setup).state.marks ≡ 0
  begins_at_0 = (made (record { setup = r.setup; calls = [] }) (record { starts = p.starts; bytes = tt })).counts

  refused_number : (report_number r.setup.key (left r).image ≡ 0 → ⊥) → (left r).state.marks ≡ reports.marks
  refused_number n =
      let a = r.setup in
      ap (λ (s : WriterState). s.marks) (chain_keyless a.key (begun a).state (begun a).image r.calls (refused_keyless n)) ∙ begins_at_0
      ∙ sym (ap (λ (x : Result Tally Refusal). (counts_of x).marks) (report_refused a.key a.id a.recording (left r).image n))

  pub file_number_reported : (left r).state.marks ≡ reports.marks
  file_number_reported = go (report_number r.setup.key (left r).image) refl
    where
      go : (n : ℕ) → report_number r.setup.key (left r).image ≡ n → (left r).state.marks ≡ reports.marks
      go zero e = (made r p).counts ∙ sym (marks_reported r p e)
      go (suc n) e = refused_number (λ z. omega arith)

-- ---- said of the calls: a start that was taken, and the state and image that the calls behind it left
pub file_number_by_calls : (r : Run) {w₀ : Wrote} {z : List ℕ} {ws : List Wrote} {s : WriterState} {was : List ℕ}
    → Did (begun r.setup) w₀ z → w₀.reply ≡ Ok Plain → AllCallBytes r.calls → Writes r.setup.key w₀.state z r.calls ws s was
    → let a = r.setup in
    (s.marks ≡ how_many 1 (walk (shown a was) (capacity_of was))) × (s.marks ≡ (counts_of (report_of a.key a.id a.recording was)).marks)
file_number_by_calls r c e b ch =
    let j = as_run r c e b ch in rw (j.state, j.bytes) (file_number r j.proper, file_number_reported r j.proper)
