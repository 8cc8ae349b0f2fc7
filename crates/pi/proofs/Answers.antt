-- The last round, either way.
-- Assumes nothing.
use mathlib.Core.Path.{◌≡◌, sym, ap, ◌∙◌}
use mathlib.Core.List.{List}
use Prim.Native.Nat.{ℕ, suc, ◌-◌, ◌<◌}
use native.Mathlib.Omega.{arith}
use Rattle.pi.specs.Permutation.{constant, rounds, π, round⁻, rounds⁻, π⁻}

pub rounds_all : (r : ℕ) (s t : List ℕ) → t ≡ rounds r s → r ≡ 12 → t ≡ π s
unfolding π
rounds_all r s t e h = e ∙ ap (λ (n : ℕ). rounds n s) h

-- one round undone: what is left to undo gives the same
pub back_more : (r : ℕ) (t u : List ℕ) → 0 < r → u ≡ round⁻ (constant (r - 1)) t → rounds⁻ (r - 1) u ≡ rounds⁻ r t
unfolding rounds⁻
back_more r t u h e =
    let g : r ≡ suc (r - 1) = omega arith in
    ap (rounds⁻ (r - 1)) e ∙ ap (λ (n : ℕ). rounds⁻ n t) (sym g)

pub back_all : (r : ℕ) (s t : List ℕ) → rounds⁻ r t ≡ π⁻ s → r ≡ 0 → t ≡ π⁻ s
unfolding rounds⁻
back_all r s t e h = sym (ap (λ (n : ℕ). rounds⁻ n t) h) ∙ e
