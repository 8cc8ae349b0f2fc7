-- A rule of the numbers below a bound, proved by one test that antt computes.
-- Assumes nothing.
use mathlib.Core.Path.{◌≡◌, refl, sym, ap, subst, ◌∙◌}
use mathlib.Core.Bool.{Bool, true, false}
use Prim.Native.Nat.{ℕ, zero, suc, ◌<◌}
use native.Mathlib.Nat.{le_of_suc-le-suc, not-suc-le-zero}
use lib.Dec.{T, eqb, eqb→eq, eqb_refl}
use lib.Arith.{lt_of_le-ne}
use Rattle.laws.proofs.TableLaws.{both}

abbrev pub upto : (ℕ → Bool) → ℕ → Bool
upto f zero = true
upto f (suc n) = both (f n) (upto f n)

left : (a b : Bool) → T (both a b) → T a
left true b t = tt
left false b t = t

right : (a b : Bool) → T (both a b) → T b
right true b t = t
right false b t = absurd t

same_or_less : (P : ℕ → Type 0) (n m : ℕ) → n < suc m → P m → (n < m → P n) → P n
same_or_less P n m h p q = go (eqb n m) refl
  where
    go : (b : Bool) → eqb n m ≡ b → P n
    go true e = subst P (sym (eqb→eq n m (subst T (sym e) tt))) p
    go false e = q (lt_of_le-ne (le_of_suc-le-suc h) (λ g. subst T (sym (ap (λ (k : ℕ). eqb k m) g) ∙ e) (eqb_refl m)))

pub tested : (f : ℕ → Bool) (m : ℕ) → T (upto f m) → (n : ℕ) → n < m → T (f n)
tested f zero t n h = absurd (not-suc-le-zero h)
tested f (suc m) t n h =
    same_or_less (λ (k : ℕ). T (f k)) n m h (left (f m) (upto f m) t) (λ l. tested f m (right (f m) (upto f m) t) n l)

-- the same of two numbers
pub tested₂ : (f : ℕ → ℕ → Bool) (l m : ℕ) → T (upto (λ i. upto (f i) m) l) → (i n : ℕ) → i < l → n < m → T (f i n)
tested₂ f l m t i n hi hn = tested (f i) m (tested (λ i. upto (f i) m) l t i hi) n hn
