-- `reader::look` meets its contract: the block's part, or the empty part at the image's front.
-- Assumes nothing.
use borrow.Author.Tests.{eq-eqb, ne_eqb}
use mathlib.Core.Path.{◌≡◌, refl, sym, ap, ◌∙◌}
use Prim.Native.Nat.{ℕ, ◌+◌, ◌-◌, ◌*◌, ◌≤◌}
use native.Mathlib.Omega.{arith}
use lib.ListN.{length, take, drop}
use Rattle.block.specs.Image.{block_at}
use Rattle.reader.specs.Reading.{look_number, look_part, look_place}
use Rattle.reader.proofs.ImageTests.{look_in, ok_0, err_number}
use Rattle.reader.proofs.look.Goals as goal
use Rattle.reader.proofs.look.Goals.{Then-is_ok}

-- the test says that the block lies in the image
done : (c : Then-is_ok) → look_number c.args.image.now c.args.p ≡ 0
done c = sym c.look_number.ensures ∙ ok_0 _ (sym c.is_ok.ensures.value ∙ c.if-is_ok.true)

fits : (c : Then-is_ok) → (512 * c.args.p + 512 ≤ length c.args.image.now) × (length c.args.image.now ≤ 65536)
fits c = look_in c.args.image.now c.args.p (sym c.look_number.ensures ∙ ok_0 _ (sym c.is_ok.ensures.value ∙ c.if-is_ok.true))

pub slice_bounds-result-end : goal.slice_bounds-result-end
slice_bounds-result-end c = omega (arith, fits (goal.at.slice_bounds-result-end c).Then-is_ok)

pub overflow_mul-at : goal.overflow_mul-at
overflow_mul-at c = omega (arith, fits (goal.at.overflow_mul-at c).Then-is_ok)

pub overflow_add-result : goal.overflow_add-result
overflow_add-result c = omega (arith, fits (goal.at.overflow_add-result c).Then-is_ok)

pub returns-then-is_ok : goal.returns-then-is_ok
unfolding look_part look_place block_at
returns-then-is_ok c =
    let a = c.args in
    let k : 512 * a.p + 512 - 512 * a.p ≡ 512 = omega arith in
    simp (eq-eqb _ _ (done (goal.at.returns-then-is_ok c).Then-is_ok))
    (record { bytes = ap (λ (k : ℕ). take k (drop (512 * a.p) a.image.now)) k; place = (refl, refl) })

pub returns-else-is_ok : goal.returns-else-is_ok
unfolding look_part look_place
returns-else-is_ok c =
    let n = err_number c.look_number.result (sym c.is_ok.ensures.value ∙ c.if-is_ok.false) in
    simp (ne_eqb _ _ (λ z. n (c.look_number.ensures ∙ z))) (record { bytes = refl; place = (refl, omega arith) })
