-- The causes of a refusal by their numbers (NUMBERS), and what a call answers that may be refused.
use Rattle.std.specs.Prelude.{ℕ, zero, suc, eqb, Result, Ok, Err}
use Rattle.laws.specs.Choose.{pick}
use Rattle.numbers.specs.declared.Refusal.{Refusal}
use Rattle.numbers.specs.declared.Refusal.TheVariants as refusal

abbrev pub cause_number : Refusal → ℕ
cause_number refusal.WrongImage = 1
cause_number refusal.WrongLength = 2
cause_number refusal.WrongZone = 3
cause_number refusal.WrongRecord = 4
cause_number refusal.NoRoom = 5
cause_number refusal.Closed = 6
cause_number refusal.WrongTag = 7
cause_number refusal.Unlawful = 8
cause_number refusal.AboveLimit = 9

-- 0 where it was carried out
abbrev pub number_of : {A : Type 0} → Result A Refusal → ℕ
number_of (Ok x) = 0
number_of (Err e) = cause_number e

-- the cause that has the number n; of 9 and on it is the last
unfoldable pub cause_of : ℕ → Refusal
cause_of n =
    pick (eqb n 1) refusal.WrongImage (pick (eqb n 2) refusal.WrongLength (pick (eqb n 3) refusal.WrongZone (pick (eqb n 4) refusal.WrongRecord
    (pick (eqb n 5) refusal.NoRoom (pick (eqb n 6) refusal.Closed (pick (eqb n 7) refusal.WrongTag (pick (eqb n 8) refusal.Unlawful
    refusal.AboveLimit)))))))

-- x where the number is 0; else its cause
abbrev pub answered : {A : Type 0} → ℕ → A → Result A Refusal
answered zero x = Ok x
answered (suc n) x = Err (cause_of (suc n))
