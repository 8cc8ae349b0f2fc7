-- What `walk` ends with: 0 the walk met end of data and nothing bad, stray or cut before it; 1 it did not; 2 not done,
-- as where a call refused or something could not be written.
use Rattle.std.specs.Prelude.{Bool, false, ◌&&◌, ◌⊎◌, ◌≡◌, ℕ, eqb, Result, Ok, Err}
use Rattle.laws.specs.Choose.{pick}
use Rattle.numbers.specs.declared.Refusal.{Refusal}
use Rattle.survey.specs.declared.Tally.{Tally}
use Rattle.walk.specs.declared.Status.{Status}
use Rattle.walk.specs.declared.Status.TheVariants as status

unfoldable pub clean : Tally → Bool
clean t = pick (eqb t.ends 0) false (eqb t.bads 0 && eqb t.strays 0 && eqb t.cuts 0)

abbrev pub status_of : Result Tally Refusal → ℕ
status_of (Ok t) = pick (clean t) 0 1
status_of (Err e) = 2

-- the status r of a run over an image whose report is t: what the report says, or not done
abbrev pub Ends : Result Tally Refusal → ℕ → Type 0
Ends t r = (r ≡ status_of t) ⊎ (r ≡ 2)

-- ---- the status that the code has for a number, and what a run ends with: not done where it has a complaint
abbrev pub status_number : Status → ℕ
status_number status.Clean = 0
status_number status.Damaged = 1
status_number status.NotDone = 2

abbrev pub ended : {E : Type 0} → Result Status E → ℕ
ended (Ok s) = status_number s
ended (Err e) = 2
