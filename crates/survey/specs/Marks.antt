-- What a walk's visits say (FORMAT, "Reading"): its marks and its end, the answer that spacing gives by them, and how
-- many there are of each outcome.
use Rattle.std.specs.Prelude.{List, [], ◌∷◌, ℕ, suc, ◌+◌, ◌-◌, eqb, leb, length, get_or}
use Rattle.laws.specs.Choose.{pick}
use Rattle.survey.specs.declared.Spaced.{Spaced}
use Rattle.survey.specs.Report.{place_of}
use Rattle.survey.specs.Spacing.{spaced_at, spaced_short}
use Rattle.reader.specs.Walk.{mark_or_end, Visit}

-- the places of the visits that say Mark, in their order
unfoldable pub marks_of : List Visit → List ℕ
marks_of [] = []
marks_of (x ∷ xs) = mark_or_end x.says (x.at ∷ marks_of xs) (marks_of xs) (marks_of xs)

-- the place of the visit that says End, or c where none does
unfoldable pub end_of : ℕ → List Visit → ℕ
end_of c [] = c
end_of c (x ∷ xs) = mark_or_end x.says (end_of c xs) x.at (end_of c xs)

-- over n of these marks from p on, with m passed before: p itself; the place after the nth; or all of them and the end
unfoldable pub spaced_over : ℕ → ℕ → ℕ → List ℕ → ℕ → Spaced
spaced_over p n m marks end =
    pick (eqb n 0) (spaced_at p) (pick (leb n (length marks)) (spaced_at (suc (get_or marks (n - 1) 0))) (spaced_short (m + length marks) end))

-- how many visits say the outcome at place k
unfoldable pub how_many : ℕ → List Visit → ℕ
how_many k [] = 0
how_many k (x ∷ xs) = pick (eqb k (place_of x.says)) 1 0 + how_many k xs
