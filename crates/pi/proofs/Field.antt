-- Doubling adds up.
-- Assumes nothing.
use mathlib.Core.Path.{◌≡◌, refl, sym, ap, ap₂, ◌∙◌}
use Prim.Native.Nat.{ℕ, ◌*◌, ◌/◌, ◌%◌, ◌<◌}
use native.Mathlib.Nat.{add-zero}
use lib.Dec.{lit<}
use lib.Bits.{bit_xor, xor_shr, xor_mod, xor_block, xor_self, xor_zero_r}
use Rattle.laws.specs.Xor.{xor}
use Rattle.laws.proofs.OrderLaws.{below2}
use Rattle.laws.proofs.XorLaws.{ac, low}
use Rattle.pi.specs.Field.{only, double}

-- ---- doubling adds up
twice : (x y : ℕ) → bit_xor x y * 2 ≡ bit_xor (x * 2) (y * 2)
twice x y =
    sym (add-zero (bit_xor x y * 2)) ∙ sym (xor_block 1 x y 0 0 (lit< tt) (lit< tt))
    ∙ ap₂ bit_xor (add-zero (x * 2)) (add-zero (y * 2))

pub only_xor : (p q c : ℕ) → p < 2 → q < 2 → only (bit_xor p q) c ≡ xor (only p c) (only q c)
unfolding only xor
only_xor p q c hp hq =
    below2 (λ (p : ℕ). only (bit_xor p q) c ≡ xor (only p c) (only q c))
    refl
    (below2 (λ (q : ℕ). only (bit_xor 1 q) c ≡ xor (only 1 c) (only q c)) (sym (xor_zero_r c)) (sym (xor_self c)) q hq)
    p hp

shifted : (x y : ℕ) → xor x y * 2 % 256 ≡ xor (x * 2 % 256) (y * 2 % 256)
unfolding xor
shifted x y = ap (λ (n : ℕ). n % 256) (twice x y) ∙ xor_mod (x * 2) (y * 2) 8

carried : (x y : ℕ) → xor x y / 128 % 2 ≡ bit_xor (x / 128 % 2) (y / 128 % 2)
unfolding xor
carried x y = ap (λ (n : ℕ). n % 2) (xor_shr x y 7) ∙ xor_mod (x / 128) (y / 128) 1

pub double_xor : (x y : ℕ) → double (xor x y) ≡ xor (double x) (double y)
unfolding double
double_xor x y =
    ap₂ (λ (a b : ℕ). xor a (only b 29)) (shifted x y) (carried x y)
    ∙ ap (λ (n : ℕ). xor (xor (x * 2 % 256) (y * 2 % 256)) n) (only_xor (x / 128 % 2) (y / 128 % 2) 29 (low (x / 128)) (low (y / 128)))
    ∙ simp ac
