-- The report's counts are those of the walk: as many of each outcome as visits of the walk say it.
-- Assumes nothing.
use mathlib.Core.Path.{◌≡◌, refl, sym, ap, ◌∙◌}
use mathlib.Core.List.{List, [], ◌∷◌}
use Prim.Native.Nat.{ℕ, zero, suc, ◌+◌, ◌≤◌, ◌<◌}
use native.Mathlib.Omega.{arith}
use lib.ListN.{length, get_or, length-set, get_or-replicate}
use Rattle.laws.specs.Lists.{listed}
use Rattle.laws.proofs.ListLaws.{listed_is}
use Rattle.std.specs.Prelude.{Ok, Err}
use Rattle.numbers.specs.Refusals.{number_of, cause_of, answered}
use Rattle.numbers.proofs.RefusalLaws.{answered_named}
use Rattle.block.specs.Image.{view, capacity_of}
use Rattle.reader.specs.Walk.{Visit, walk}
use Rattle.block.proofs.ImageSize.{asks_named}
use Rattle.survey.specs.declared.Tally.{Tally}
use Rattle.survey.specs.Report.{outcomes, place_of, tally_of, uncounted, counted, tallied, report_number, report_of}
use Rattle.survey.specs.Marks.{how_many}
use Rattle.survey.proofs.CountLaws.{counted_at, tallied_length}

tallied_at : (w : List Visit) (t : List ℕ) (k : ℕ) → k < length t → get_or (tallied w t) k 0 ≡ how_many k w + get_or t k 0
unfolding tallied how_many
tallied_at [] t k h = omega arith
tallied_at (x ∷ w) t k h =
    let j = place_of x.says in
    let n = length-set t j (get_or t j 0 + 1) in
    tallied_at w (counted j t) k (omega arith) ∙ omega (arith, counted_at t j k h)

report_named : (key image : List ℕ) → report_number key image ≤ 9
unfolding report_number
report_named key image = asks_named key image 0 (omega arith)

-- where it is refused
pub report_refused : (key : List ℕ) (id recording : ℕ) (image : List ℕ) → (report_number key image ≡ 0 → ⊥)
    → report_of key id recording image ≡ Err (cause_of (report_number key image))
unfolding report_of
report_refused key id recording image n = refused (report_number key image) n _
  where
    refused : (k : ℕ) → (k ≡ 0 → ⊥) → (t : Tally) → answered k t ≡ Err (cause_of k)
    refused zero n t = absurd (n refl)
    refused (suc k) n t = refl

-- where nothing is refused
pub report_counts : (key : List ℕ) (id recording : ℕ) (image : List ℕ) → report_number key image ≡ 0
    → report_of key id recording image ≡ Ok (tally_of (listed 0 outcomes (λ k. how_many k (walk (view key id recording image) (capacity_of image)))))
unfolding report_of
report_counts key id recording image e =
    let w = walk (view key id recording image) (capacity_of image) in
    rw e (ap (λ (t : List ℕ). Ok (tally_of t)) (sym (listed_is outcomes (λ k. how_many k w) (tallied w uncounted) (tallied_length w uncounted)
    (λ k h. sym (tallied_at w uncounted k h ∙ omega (arith, get_or-replicate {A = ℕ} outcomes k 0 0 h))))))

-- the number that it answers with is that of the first cause
pub report_says : (key : List ℕ) (id recording : ℕ) (image : List ℕ) → number_of (report_of key id recording image) ≡ report_number key image
unfolding report_of
report_says key id recording image = answered_named (report_number key image) _ (report_named key image)
