-- The report (FORMAT, "Reading"; NUMBERS): the answers of the walk, counted by outcome.
use Rattle.std.specs.Prelude.{List, [], ◌∷◌, ℕ, ◌+◌, get_or, set, replicate, Result, Ok, Err}
use Rattle.numbers.specs.declared.Refusal.{Refusal}
use Rattle.numbers.specs.Refusals.{answered}
use Rattle.block.specs.Image.{capacity_of, image_then_key, view}
use Rattle.reader.specs.Walk.{Told, Record, Mark, End, Bad, Stray, Cut, Visit, walk}
use Rattle.survey.specs.declared.Tally.{Tally}

-- ---- the counts are a list, in the order of the outcomes
abbrev pub outcomes : ℕ
outcomes = 6

abbrev pub place_of : Told → ℕ
place_of (Record b) = 0
place_of Mark = 1
place_of End = 2
place_of Bad = 3
place_of Stray = 4
place_of (Cut q) = 5

abbrev pub tally_of : List ℕ → Tally
tally_of t =
    record {
      records = get_or t 0 0;
      marks = get_or t 1 0;
      ends = get_or t 2 0;
      bads = get_or t 3 0;
      strays = get_or t 4 0;
      cuts = get_or t 5 0;
    }

abbrev pub uncounted : List ℕ
uncounted = replicate outcomes 0

-- the counts that an answer tells: none where it was refused
abbrev pub counts_of : Result Tally Refusal → Tally
counts_of (Ok t) = t
counts_of (Err e) = tally_of uncounted

-- one more at place k
abbrev pub counted : ℕ → List ℕ → List ℕ
counted k t = set t k (get_or t k 0 + 1)

-- the answers of a list of visits, counted into t from the front
unfoldable pub tallied : List Visit → List ℕ → List ℕ
tallied [] t = t
tallied (x ∷ xs) t = tallied xs (counted (place_of x.says) t)

unfoldable pub report_number : List ℕ → List ℕ → ℕ
report_number key image = image_then_key key image 0

unfoldable pub report_of : List ℕ → ℕ → ℕ → List ℕ → Result Tally Refusal
report_of key id recording image =
    answered (report_number key image) (tally_of (tallied (walk (view key id recording image) (capacity_of image)) uncounted))
