-- Two lists compared element by element, the differences gathered by | and ^.
-- Assumes nothing.
use mathlib.Core.Path.{◌≡◌, refl, sym, ap, ap₂, ◌∙◌}
use mathlib.Core.Bool.{Bool, true, false}
use mathlib.Core.List.{List, [], ◌∷◌}
use Prim.Native.Nat.{ℕ, zero, suc, ◌<◌}
use native.Mathlib.Nat.{not-suc-le-zero}
use native.Mathlib.Omega.{arith}
use mathlib.Core.Logic.{⊎_elim}
use lib.ListN.{length, get_or}
use lib.Seq.{ext_get_or}
use Rattle.std.specs.List.{fold, zip}
use lib.Dec.{eqb}
use lib.Bits.{bit_xor, bit_or, or_add_and, xor_add_and, and_le_l, and_le_r, xor_self}
use borrow.Author.Tests.{eq-eqb, ne_eqb, eqb-true}
use Rattle.laws.specs.Lists.{same_to, same}
use Rattle.laws.proofs.OrderLaws.{lt_or_ge}
use Rattle.laws.proofs.ChooseLaws.{both_left, both_right}

-- ---- the test says that they are equal, and where they are equal it holds
same_at : (a b : List ℕ) (n : ℕ) → same_to a b n ≡ true → (k : ℕ) → k < n → get_or a k 0 ≡ get_or b k 0
unfolding same_to
same_at a b zero e k h = absurd (not-suc-le-zero h)
same_at a b (suc n) e k h =
    ⊎_elim (λ l. same_at a b n (both_left (same_to a b n) _ e) k l)
    (λ l. let q : k ≡ n = omega arith in
    ap (λ (m : ℕ). get_or a m 0) q ∙ eqb-true (get_or a n 0) (get_or b n 0) (both_right (same_to a b n) _ e) ∙ ap (λ (m : ℕ). get_or b m 0) (sym q)) (lt_or_ge k n)

same_self : (a : List ℕ) (n : ℕ) → same_to a a n ≡ true
unfolding same_to
same_self a zero = refl
same_self a (suc n) = rw (same_self a n, eq-eqb (get_or a n 0) (get_or a n 0) refl)

pub same_true : (a b : List ℕ) → same a b ≡ true → a ≡ b
unfolding same
same_true a b e =
    let n : length b ≡ length a = eqb-true (length b) (length a) (both_left (eqb (length b) (length a)) _ e) in
    ext_get_or 0 a b (sym n) (same_at a b (length a) (both_right (eqb (length b) (length a)) _ e))

pub same_refl : (a : List ℕ) → same a a ≡ true
unfolding same
same_refl a = rw (eq-eqb (length a) (length a) refl, same_self a (length a))

-- ---- the differences of two lists of one length, gathered by | and ^: none are left exactly where the lists are the same
abbrev pub gather : ℕ → ℕ × ℕ → ℕ
gather d p = bit_or d (bit_xor p.0 p.1)

none_gathered : (d x y : ℕ) → bit_or d (bit_xor x y) ≡ 0 → (d ≡ 0) × (x ≡ y)
none_gathered d x y e =
    let o = or_add_and d (bit_xor x y) in
    let l = and_le_l d (bit_xor x y) in
    let r = and_le_r d (bit_xor x y) in
    (omega arith, omega (arith, xor_add_and x y, and_le_l x y, and_le_r x y))

none_differ : (a b : List ℕ) (d : ℕ) → length a ≡ length b → fold gather d (zip a b) ≡ 0 → (d ≡ 0) × (a ≡ b)
none_differ [] [] d l e = (e, refl)
none_differ [] (y ∷ b) d l e = absurd (omega arith)
none_differ (x ∷ a) [] d l e = absurd (omega arith)
none_differ (x ∷ a) (y ∷ b) d l e =
    let r = none_differ a b (gather d (x, y)) (omega arith) e in
    let q = none_gathered d x y r.0 in
    (q.0, ap₂ (λ (z : ℕ) (w : List ℕ). z ∷ w) q.1 r.1)

none_of_own : (a : List ℕ) → fold gather 0 (zip a a) ≡ 0
none_of_own [] = refl
none_of_own (x ∷ a) = ap (λ (d : ℕ). fold gather d (zip a a)) (ap (bit_or 0) (xor_self x)) ∙ none_of_own a

agree : (p q : Bool) → (p ≡ true → q ≡ true) → (q ≡ true → p ≡ true) → p ≡ q
agree true true f g = refl
agree true false f g = sym (f refl)
agree false true f g = g refl
agree false false f g = refl

pub same_gathered : (a b : List ℕ) → length a ≡ length b → eqb (fold gather 0 (zip a b)) 0 ≡ same a b
same_gathered a b l =
    agree _ _
    (λ e. ap (same a) (sym (none_differ a b 0 l (eqb-true _ 0 e)).1) ∙ same_refl a)
    (λ e. eq-eqb _ 0 (ap (λ (w : List ℕ). fold gather 0 (zip a w)) (sym (same_true a b e)) ∙ none_of_own a))

pub same_apart : (a b : List ℕ) → (length a ≡ length b → ⊥) → eqb (length a) (length b) ≡ same a b
unfolding same
same_apart a b n = rw (ne_eqb (length a) (length b) n, ne_eqb (length b) (length a) (λ e. n (sym e)))
