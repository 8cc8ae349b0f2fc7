-- What `Ends` says: a status is 0, 1 or 2.
-- Assumes nothing.
use Rattle.std.proofs.Common.{◌≤◌, ℕ, Result, Ok, Err, inl, inr, arith}
use Rattle.std.proofs.lemmas.Bool.Decides.{nat_tests}
use Rattle.numbers.specs.declared.Refusal.{Refusal}
use Rattle.survey.specs.declared.Tally.{Tally}
use Rattle.walk.specs.Status.{Ends, status_of}

status_within : (t : Result Tally Refusal) → status_of t ≤ 2
status_within (Ok t) = grind (arith, nat_tests)
status_within (Err e) = omega arith

pub ends_within : (t : Result Tally Refusal) (r : ℕ) → Ends t r → r ≤ 2
ends_within t r (inl e) = rw e (status_within t)
ends_within t r (inr e) = omega arith
