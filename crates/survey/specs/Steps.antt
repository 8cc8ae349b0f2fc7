-- Cited by private contracts alone: what survey's own steps promise of one block, and of the walk from a place on,
-- counted.
use Rattle.std.specs.Prelude.{true, false, List, [], ◌∷◌, ℕ, zero, suc, ◌+◌, Option, Some, None}
use Rattle.laws.specs.Choose.{pick}
use Rattle.block.specs.Image.{View}
use Rattle.block.specs.Calls.{seen_of}
use Rattle.block.specs.declared.Seen.{Seen}
use Rattle.block.specs.declared.Seen.TheVariants as seen
use Rattle.reader.specs.Walk.{Answer, is_end, walk_from}
use Rattle.survey.specs.declared.Step.{Step}
use Rattle.survey.specs.declared.Told.{Told}
use Rattle.survey.specs.declared.Told.TheVariants as told
use Rattle.survey.specs.declared.Tally.{Tally}
use Rattle.survey.specs.Report.{place_of, counted, tallied}

-- ---- the counts as a list, how many they are, and the place of what is told among them
abbrev pub list_of : Tally → List ℕ
list_of t = t.records ∷ t.marks ∷ t.ends ∷ t.bads ∷ t.strays ∷ t.cuts ∷ []

abbrev pub total : Tally → ℕ
total t = t.records + t.marks + t.ends + t.bads + t.strays + t.cuts

abbrev pub place : Told → ℕ
place told.Record = 0
place told.Mark = 1
place told.End = 2
place told.Bad = 3
place told.Stray = 4
place told.Cut = 5

-- ---- a block between records: what is told of it, or nothing yet, since its record goes on
abbrev pub told_between : Seen → Option Told
told_between seen.Shut = Some told.Bad
told_between (seen.First true n) = Some told.Record
told_between (seen.First false n) = None
told_between (seen.More l n) = Some told.Stray
told_between seen.Mark = Some told.Mark
told_between seen.End = Some told.End

-- ---- a block inside a record: the same, and how many blocks on the walk goes on
abbrev pub told_inside : Seen → Option Told
told_inside seen.Shut = Some told.Cut
told_inside (seen.First l n) = Some told.Cut
told_inside (seen.More true n) = Some told.Record
told_inside (seen.More false n) = None
told_inside seen.Mark = Some told.Cut
told_inside seen.End = Some told.Cut

abbrev pub passed_inside : Seen → ℕ
passed_inside seen.Shut = 1
passed_inside (seen.First l n) = 0
passed_inside (seen.More l n) = 1
passed_inside seen.Mark = 0
passed_inside seen.End = 0

-- where `room` more blocks may belong to the record
abbrev pub step_to : Option Told → ℕ → Step
step_to t n = record { told = t; next = n }

unfoldable pub step_by : ℕ → View → ℕ → Step
step_by zero v q = step_to (Some told.Cut) q
step_by (suc room) v q = step_to (told_inside (seen_of (v q))) (q + passed_inside (seen_of (v q)))

-- ---- the walk from p on, counted into t
unfoldable pub count_on : ℕ → View → ℕ → ℕ → List ℕ → List ℕ
count_on f v c p t = tallied (walk_from f v c p) t

-- an answer counted, and what follows it, unless it is End
unfoldable pub count_answer : Answer → List ℕ → (ℕ → List ℕ → List ℕ) → List ℕ
count_answer a t go = pick (is_end a.told) (counted (place_of a.told) t) (go a.next (counted (place_of a.told) t))
