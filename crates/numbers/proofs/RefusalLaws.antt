-- A cause and its number tell one another.
use Rattle.std.specs.Prelude.{◌≡◌, refl, Bool, true, false, ℕ, zero, suc, ◌≤◌, Result, Ok, Err}
use mathlib.Core.Path.{ap, sym, ◌∙◌}
use native.Mathlib.Omega.{arith}
use Rattle.laws.specs.Choose.{first_of}
use Rattle.numbers.specs.declared.Refusal.{Refusal}
use Rattle.numbers.specs.declared.Refusal.TheVariants as refusal
use Rattle.numbers.specs.Refusals.{cause_number, number_of, cause_of, answered}

pub cause_of_number : (e : Refusal) → cause_of (cause_number e) ≡ e
unfolding cause_of
cause_of_number refusal.WrongImage = refl
cause_of_number refusal.WrongLength = refl
cause_of_number refusal.WrongZone = refl
cause_of_number refusal.WrongRecord = refl
cause_of_number refusal.NoRoom = refl
cause_of_number refusal.Closed = refl
cause_of_number refusal.WrongTag = refl
cause_of_number refusal.Unlawful = refl
cause_of_number refusal.AboveLimit = refl

-- what a call answers is what its number says: refused by e, or carried out with x
pub answered_err : {A : Type 0} (x : A) (e : Refusal) → answered (cause_number e) x ≡ Err e
answered_err x refusal.WrongImage = ap Err (cause_of_number refusal.WrongImage)
answered_err x refusal.WrongLength = ap Err (cause_of_number refusal.WrongLength)
answered_err x refusal.WrongZone = ap Err (cause_of_number refusal.WrongZone)
answered_err x refusal.WrongRecord = ap Err (cause_of_number refusal.WrongRecord)
answered_err x refusal.NoRoom = ap Err (cause_of_number refusal.NoRoom)
answered_err x refusal.Closed = ap Err (cause_of_number refusal.Closed)
answered_err x refusal.WrongTag = ap Err (cause_of_number refusal.WrongTag)
answered_err x refusal.Unlawful = ap Err (cause_of_number refusal.Unlawful)
answered_err x refusal.AboveLimit = ap Err (cause_of_number refusal.AboveLimit)

pub answered_ok : {A : Type 0} (n : ℕ) (x : A) → n ≡ 0 → answered n x ≡ Ok x
answered_ok n x p = ap (λ k. answered k x) p

-- an answer without a value is told by its number
pub answered_number : (r : Result (Unit {0}) Refusal) → answered (number_of r) tt ≡ r
answered_number (Ok tt) = refl
answered_number (Err e) = answered_err tt e

-- so two that have one number are one
pub same_answer : (r s : Result (Unit {0}) Refusal) → number_of r ≡ number_of s → r ≡ s
same_answer r s p = sym (answered_number r) ∙ (ap (λ n. answered n tt) p ∙ answered_number s)

-- ---- the numbers 1 to 9 are those of the causes: a list of causes gives no other
pub cause_named : (n : ℕ) → suc n ≤ 9 → cause_number (cause_of (suc n)) ≡ suc n
unfolding cause_of
cause_named zero h = refl
cause_named (suc zero) h = refl
cause_named (suc (suc zero)) h = refl
cause_named (suc (suc (suc zero))) h = refl
cause_named (suc (suc (suc (suc zero)))) h = refl
cause_named (suc (suc (suc (suc (suc zero))))) h = refl
cause_named (suc (suc (suc (suc (suc (suc zero)))))) h = refl
cause_named (suc (suc (suc (suc (suc (suc (suc zero))))))) h = refl
cause_named (suc (suc (suc (suc (suc (suc (suc (suc zero)))))))) h = refl
cause_named (suc (suc (suc (suc (suc (suc (suc (suc (suc n))))))))) h = absurd (omega arith)

pub answered_named : {A : Type 0} (n : ℕ) (x : A) → n ≤ 9 → number_of (answered n x) ≡ n
answered_named zero x h = refl
answered_named (suc n) x h = cause_named n h

pub first_named : (t : Bool) (n rest : ℕ) → n ≤ 9 → rest ≤ 9 → first_of t n rest ≤ 9
first_named true n rest h k = k
first_named false n rest h k = h

-- and none of them is 0
pub cause_not_0 : (e : Refusal) → cause_number e ≡ 0 → ⊥
cause_not_0 e p = let z : ◌≡◌ {A = Result (Unit {0}) Refusal} (Ok tt) (Err e) = ap (λ n. answered n tt) (sym p) ∙ answered_err tt e in cc
