-- The test for zeros, and the bytes gathered by `or`.
-- Assumes nothing.
use borrow.Author.Tests.{eq-eqb, ne_eqb, eqb-true, eqb-false}
use mathlib.Core.Path.{◌≡◌, refl, sym, ap, ap₂, ◌∙◌}
use mathlib.Core.Bool.{Bool, true, false, ◌&&◌}
use mathlib.Core.List.{List, [], ◌∷◌}
use mathlib.Core.Logic.{⊎_elim}
use Prim.Native.Nat.{ℕ, zero, suc, ◌+◌, ◌-◌, ◌≤◌, ◌<◌}
use native.Mathlib.Numerals.{add-one}
use native.Mathlib.Omega.{arith}
use lib.Bits.{bit_or, or_add_and, and_le_l, and_le_r}
use lib.Dec.{eqb}
use lib.ListN.{length, get_or, take, drop, replicate, length-drop, drop_of_length-le}
use lib.Seq.{drop-cons, take_all}
use Rattle.std.specs.Prelude.{min}
use Rattle.laws.proofs.OrderLaws.{lt_or_ge}
use Rattle.laws.proofs.ChooseLaws.{both_left, both_right}
use Rattle.block.specs.Format.{all_zero}

-- ---- the test: it holds of zeros only
pub zeros_pass : (n : ℕ) → all_zero (replicate n 0) ≡ true
unfolding all_zero
zeros_pass zero = refl
zeros_pass (suc n) = zeros_pass n

pub passes_zeros : (s : List ℕ) → all_zero s ≡ true → s ≡ replicate (length s) 0
unfolding all_zero
passes_zeros [] e = refl
passes_zeros (x ∷ s) e =
    ap₂ (λ (y : ℕ) (t : List ℕ). y ∷ t) (eqb-true x 0 (both_left (eqb x 0) (all_zero s) e)) (passes_zeros s (both_right (eqb x 0) (all_zero s) e))

-- ---- what is gathered by `or` is zero exactly if each byte is
or_none : (a b : ℕ) (p q : Bool) → eqb a 0 ≡ p → eqb b 0 ≡ q → eqb (bit_or a b) 0 ≡ (p && q)
or_none a b true true e f = eq-eqb (bit_or a b) 0 (ap₂ bit_or (eqb-true a 0 e) (eqb-true b 0 f))
or_none a b true false e f = ne_eqb (bit_or a b) 0 (λ z. eqb-false b 0 f (omega (arith, z, or_add_and a b, and_le_l a b, and_le_r a b)))
or_none a b false q e f = ne_eqb (bit_or a b) 0 (λ z. eqb-false a 0 e (omega (arith, z, or_add_and a b, and_le_l a b, and_le_r a b)))

in_turn : (p q r : Bool) → ((p && q) && r) ≡ (p && (q && r))
in_turn true q r = refl
in_turn false q r = refl

and_true : (p : Bool) → (p && true) ≡ p
and_true true = refl
and_true false = refl

-- one byte more, and none left
pub gather_more : (s : List ℕ) (i any : ℕ) → i < length s → (eqb (bit_or any (get_or s i 0)) 0 && all_zero (drop (i + 1) s)) ≡ (eqb any 0 && all_zero (drop i s))
unfolding all_zero
gather_more s i any h =
    rw (add-one i, drop-cons s i 0 h, or_none any (get_or s i 0) (eqb any 0) (eqb (get_or s i 0) 0) refl refl)
    (in_turn (eqb any 0) (eqb (get_or s i 0) 0) (all_zero (drop (suc i) s)))

pub gather_all : (s : List ℕ) (i any : ℕ) → length s ≤ i → (eqb any 0 && all_zero (drop i s)) ≡ eqb any 0
unfolding all_zero
gather_all s i any h = rw (drop_of_length-le s {i = i} h) (and_true (eqb any 0))

-- ---- the part of a buffer behind `used` bytes, none where there are no more
behind : (n : ℕ) (m : List ℕ) → drop (min n (length m)) m ≡ drop n m
behind n m = ⊎_elim (λ l. ap (λ (k : ℕ). drop k m) (omega arith)) (λ g. short (omega arith)) (lt_or_ge n (length m))
  where
    short : length m ≤ n → drop (min n (length m)) m ≡ drop n m
    short h =
        let e : length m ≤ min n (length m) = omega arith in
        drop_of_length-le m {i = min n (length m)} e ∙ sym (drop_of_length-le m {i = n} h)

unused_part : (n : ℕ) (m : List ℕ) {r : ℕ} → length m ≡ 488 → r ≡ min n 488 → take (length m - r) (drop r m) ≡ drop n m
unused_part n m {r} h e =
    let q : r ≡ min n (length m) = omega arith in
    take_all (length m - r) (drop r m) (omega (arith, length-drop r m)) ∙ ap (λ (k : ℕ). drop k m) q ∙ behind n m

pub unused_zero : (n : ℕ) (m : List ℕ) {r : ℕ} {t : Bool} → length m ≡ 488 → r ≡ min n 488
    → t ≡ all_zero (take (length m - r) (drop r m)) → t ≡ all_zero (drop n m)
unused_zero n m h e z = z ∙ ap all_zero (unused_part n m h e)
