-- What spacing says as a number: that of its refusal, and 0 where it answers.
-- Assumes nothing.
use borrow.Author.Tests.{ne_eqb}
use mathlib.Core.Path.{◌≡◌, refl, ap, ◌∙◌}
use mathlib.Core.Bool.{Bool, true, false}
use mathlib.Core.List.{List}
use Prim.Native.Nat.{ℕ, zero, suc, ◌+◌, ◌-◌, ◌≤◌}
use native.Mathlib.Omega.{arith}
use lib.Dec.{eqb, ltb}
use Rattle.laws.specs.Choose.{pick}
use Rattle.numbers.specs.Refusals.{number_of}
use Rattle.numbers.proofs.RefusalLaws.{cause_named, first_named}
use Rattle.block.specs.Image.{View, capacity_of, view}
use Rattle.block.proofs.ImageSize.{asks_named}
use Rattle.reader.specs.Walk.{Told, Record, Mark, End, Bad, Stray, Cut, mark_or_end, read_at}
use Rattle.survey.specs.declared.Spaced.{Spaced}
use Rattle.survey.specs.Spacing.{spaced_at, spaced_short, spaced_refused, space_from, space_number, spacing, SpacedOver}

abbrev number_at : Spaced → ℕ
number_at s = number_of s.reach

told_0 : (t : Told) (a b d : Spaced) → number_at a ≡ 0 → number_at b ≡ 0 → number_at d ≡ 0 → number_at (mark_or_end t a b d) ≡ 0
told_0 (Record r) a b d x y z = z
told_0 Mark a b d x y z = x
told_0 End a b d x y z = y
told_0 Bad a b d x y z = z
told_0 Stray a b d x y z = z
told_0 (Cut q) a b d x y z = z

pick_0 : (t : Bool) (a b : Spaced) → number_at a ≡ 0 → number_at b ≡ 0 → number_at (pick t a b) ≡ 0
pick_0 true a b x y = x
pick_0 false a b x y = y

from_0 : (f : ℕ) (v : View) (c p n m : ℕ) → number_at (space_from f v c p n m) ≡ 0
unfolding space_from
from_0 zero v c p n m = pick_0 (eqb n 0) (spaced_at p) (spaced_short m p) refl refl
from_0 (suc f) v c p n m =
    let a = read_at v c p in
    pick_0 (eqb n 0) (spaced_at p) _ refl
    (pick_0 (ltb p c) _ (spaced_short m p)
    (told_0 a.told _ (spaced_short m p) _ (from_0 f v c a.next (n - 1) (m + 1)) refl (from_0 f v c a.next n m)) refl)

space_named : (key image : List ℕ) (p : ℕ) → space_number key image p ≤ 9
unfolding space_number
space_named key image p = asks_named key image _ (first_named (ltb p (capacity_of image)) 8 0 (omega arith) (omega arith))

pub spacing_number : (key : List ℕ) (id recording : ℕ) (image : List ℕ) (p n : ℕ) → number_at (spacing key id recording image p n) ≡ space_number key image p
unfolding spacing
spacing_number key id recording image p n = go (space_number key image p) (space_named key image p)
  where
    go : (k : ℕ) → k ≤ 9 → number_at (pick (eqb k 0) (space_from (capacity_of image - p) (view key id recording image) (capacity_of image) p n 0) (spaced_refused k p)) ≡ k
    go zero h = from_0 (capacity_of image - p) (view key id recording image) (capacity_of image) p n 0
    go (suc k) h = rw (ne_eqb (suc k) 0 (omega arith)) (cause_named k h)

-- so the call's promise is its answer
pub spaced_over_lem : {key : List ℕ} {id recording : ℕ} {image : List ℕ} {p n : ℕ} {r : Spaced} → r ≡ spacing key id recording image p n
    → SpacedOver key id recording image p n r
spaced_over_lem {key} {id} {recording} {image} {p} {n} e = record { says = e; number = ap number_at e ∙ spacing_number key id recording image p n }
