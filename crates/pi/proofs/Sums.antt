-- Sums by xor, through a product.
-- Assumes nothing.
use mathlib.Core.Path.{◌≡◌, ap, ◌∙◌}
use Prim.Native.Nat.{ℕ, zero, suc}
use Rattle.laws.specs.Xor.{xor, xor_all}
use Rattle.pi.specs.Field.{times}
use Rattle.pi.proofs.Products.{times_sum, times_in, times_zero, zero_times}

pub times_all : (c n : ℕ) (f : ℕ → ℕ) → times c (xor_all n f) ≡ xor_all n (λ i. times c (f i))
unfolding xor_all
times_all c zero f = times_zero c
times_all c (suc n) f = times_sum c (f 0) (xor_all n (λ i. f (suc i))) ∙ ap (xor (times c (f 0))) (times_all c n (λ i. f (suc i)))

pub all_times : (x n : ℕ) (f : ℕ → ℕ) → times (xor_all n f) x ≡ xor_all n (λ i. times (f i) x)
unfolding xor_all
all_times x zero f = zero_times x
all_times x (suc n) f = times_in (f 0) (xor_all n (λ i. f (suc i))) x ∙ ap (xor (times (f 0) x)) (all_times x n (λ i. f (suc i)))
