-- Tests that hold together, and what a refusal's number says of the tests before it.
-- Assumes nothing.
use borrow.Author.Tests.{not-true, not-false}
use mathlib.Core.Path.{◌≡◌, refl, sym, ◌∙◌}
use mathlib.Core.Bool.{Bool, true, false, not, ◌&&◌}
use Prim.Native.Nat.{ℕ, suc}
use native.Mathlib.Omega.{arith}
use Rattle.laws.specs.Choose.{first_of}

pub both_left : (p q : Bool) → (p && q) ≡ true → p ≡ true
both_left true q e = refl
both_left false q e = e

pub both_right : (p q : Bool) → (p && q) ≡ true → q ≡ true
both_right true q e = e
both_right false true e = refl
both_right false false e = e

-- what a test t says behind `if !r`, where r is what a call answers
pub passed : {r t : Bool} → r ≡ t → not r ≡ false → t ≡ true
passed {r = r} e h = sym e ∙ not-false r h

pub failed : {r t : Bool} → r ≡ t → not r ≡ true → t ≡ false
failed {r = r} e h = sym e ∙ not-true r h

-- no refusal: the test holds, and the later tests refuse nothing
pub no_refusal : (t : Bool) (n rest : ℕ) → first_of t (suc n) rest ≡ 0 → (t ≡ true) × (rest ≡ 0)
no_refusal true n rest e = (refl, e)
no_refusal false n rest e = absurd (omega arith)
