-- Orders: one of two, and small numbers case by case.
-- Assumes nothing.
use mathlib.Core.Logic.{◌⊎◌, inl, inr, ⊎_elim}
use Prim.Native.Nat.{ℕ, zero, suc, ◌≤◌, ◌<◌, zero-le, suc-le-suc}
use native.Mathlib.Nat.{le_of_suc-le-suc, not-suc-le-zero}

pub lt_or_ge : (k i : ℕ) → (k < i) ⊎ (i ≤ k)
lt_or_ge k zero = inr zero-le
lt_or_ge zero (suc i) = inl (suc-le-suc zero-le)
lt_or_ge (suc k) (suc i) = ⊎_elim (λ p. inl (suc-le-suc p)) (λ p. inr (suc-le-suc p)) (lt_or_ge k i)

pub below2 : (P : ℕ → Type 0) → P 0 → P 1 → (n : ℕ) → n < 2 → P n
below2 P p q zero h = p
below2 P p q (suc zero) h = q
below2 P p q (suc (suc n)) h = absurd (not-suc-le-zero (le_of_suc-le-suc (le_of_suc-le-suc h)))

pub below8 : (P : ℕ → Type 0) → P 0 → P 1 → P 2 → P 3 → P 4 → P 5 → P 6 → P 7 → (n : ℕ) → n < 8 → P n
below8 P a b c d e f g h zero l = a
below8 P a b c d e f g h (suc zero) l = b
below8 P a b c d e f g h (suc (suc zero)) l = c
below8 P a b c d e f g h (suc (suc (suc zero))) l = d
below8 P a b c d e f g h (suc (suc (suc (suc zero)))) l = e
below8 P a b c d e f g h (suc (suc (suc (suc (suc zero))))) l = f
below8 P a b c d e f g h (suc (suc (suc (suc (suc (suc zero)))))) l = g
below8 P a b c d e f g h (suc (suc (suc (suc (suc (suc (suc zero))))))) l = h
below8 P a b c d e f g h (suc (suc (suc (suc (suc (suc (suc (suc n)))))))) l =
    absurd (not-suc-le-zero (le_of_suc-le-suc (le_of_suc-le-suc (le_of_suc-le-suc (le_of_suc-le-suc (le_of_suc-le-suc (le_of_suc-le-suc (le_of_suc-le-suc (le_of_suc-le-suc l)))))))))
