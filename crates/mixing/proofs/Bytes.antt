-- A byte by its bits: sums, and products with a constant.
-- Assumes nothing.
use mathlib.Core.Path.{◌≡◌, refl, sym, ap, ap₂, ◌∙◌}
use mathlib.Core.Bool.{Bool}
use Prim.Native.Nat.{ℕ, zero, suc, ◌+◌, ◌*◌, ◌^◌, ◌<◌}
use native.Mathlib.Omega.{arith}
use lib.Dec.{lit<, eqb, eqb→eq}
use lib.Bits.{xor_block, xor_lt}
use Rattle.laws.specs.Xor.{xor, xor_all}
use Rattle.laws.proofs.OrderLaws.{below2, below8}
use Rattle.laws.proofs.TableLaws.{at}
use Rattle.laws.proofs.XorLaws.{all_same}
use Rattle.pi.specs.Table.{table}
use Rattle.pi.specs.Field.{only, times}
use Rattle.pi.proofs.Products.{times_byte, times_zero}
use Rattle.pi.proofs.Sums.{times_all}
use Rattle.planes.specs.Planes.{bit, byte_by}
use Rattle.planes.proofs.BitLaws.{bit_low, byte_by_same, byte_by_of}

its_sum : ℕ → ℕ → Bool
its_sum k x = eqb (xor_all 8 (λ i. only (bit i k) (2 ^ i))) k

sum_of_bits : (x : ℕ) → x < 256 → xor_all 8 (λ i. only (bit i x) (2 ^ i)) ≡ x
unfolding its_sum xor_all xor only bit table
sum_of_bits x h = eqb→eq (xor_all 8 (λ i. only (bit i x) (2 ^ i))) x (at its_sum table tt x h)

-- ---- sums
one_more : (a b x y : ℕ) → a < 2 → b < 2 → xor a b + 2 * xor x y ≡ xor (a + 2 * x) (b + 2 * y)
unfolding xor
one_more a b x y ha hb =
    let e : a + 2 * x ≡ x * 2 + a = omega arith in
    let g : b + 2 * y ≡ y * 2 + b = omega arith in
    let w : xor a b + 2 * xor x y ≡ xor x y * 2 + xor a b = omega arith in
    w ∙ sym (xor_block 1 x y a b ha hb) ∙ sym (ap₂ xor e g)

pub by_sum : (f g : ℕ → ℕ) → ((b : ℕ) → f b < 2) → ((b : ℕ) → g b < 2) → byte_by (λ b. xor (f b) (g b)) ≡ xor (byte_by f) (byte_by g)
unfolding byte_by
by_sum f g hf hg = more 0 _ _ (more 1 _ _ (more 2 _ _ (more 3 _ _ (more 4 _ _ (more 5 _ _ (more 6 _ _ refl))))))
  where
    more : (b x y : ℕ) {z : ℕ} → z ≡ xor x y → xor (f b) (g b) + 2 * z ≡ xor (f b + 2 * x) (g b + 2 * y)
    more b x y e = ap (λ (n : ℕ). xor (f b) (g b) + 2 * n) e ∙ one_more (f b) (g b) x y (hf b) (hg b)

pub xor_low : (a b : ℕ) → a < 2 → b < 2 → xor a b < 2
unfolding xor
xor_low a b ha hb = xor_lt 1 a b ha hb

pub all_low : (n : ℕ) (f : ℕ → ℕ) → ((i : ℕ) → f i < 2) → xor_all n f < 2
unfolding xor_all
all_low zero f h = lit< tt
all_low (suc n) f h = xor_low (f 0) (xor_all n (λ i. f (suc i))) (h 0) (all_low n (λ i. f (suc i)) (λ i. h (suc i)))

by_none : byte_by (λ b. 0) ≡ 0
unfolding byte_by
by_none = refl

pub by_all : (n : ℕ) (f : ℕ → ℕ → ℕ) → ((b i : ℕ) → f b i < 2) → byte_by (λ b. xor_all n (λ i. f b i)) ≡ xor_all n (λ i. byte_by (λ b. f b i))
unfolding xor_all
by_all zero f h = by_none
by_all (suc n) f h =
    by_sum (λ b. f b 0) (λ b. xor_all n (λ i. f b (suc i))) (λ b. h b 0) (λ b. all_low n (λ i. f b (suc i)) (λ i. h b (suc i)))
    ∙ ap (xor (byte_by (λ b. f b 0))) (by_all n (λ b i. f b (suc i)) (λ b i. h b (suc i)))

-- ---- bits chosen by bits
pub only_low : (p q : ℕ) → q < 2 → only p q < 2
unfolding only
only_low zero q h = lit< tt
only_low (suc p) q h = h

none : (p : ℕ) → only p 0 ≡ 0
unfolding only
none zero = refl
none (suc p) = refl

only_one : (p : ℕ) → p < 2 → only p 1 ≡ p
unfolding only
only_one p h = below2 (λ (p : ℕ). only p 1 ≡ p) refl refl p h

-- q times the byte y
chosen : (q y : ℕ) → q < 2 → y < 256 → byte_by (λ b. only (bit b y) q) ≡ only q y
unfolding only
chosen q y hq hy =
    below2 (λ (q : ℕ). byte_by (λ b. only (bit b y) q) ≡ only q y)
    (byte_by_same _ _ (λ b h. none (bit b y)) ∙ by_none)
    (byte_by_same _ _ (λ b h. only_one (bit b y) (bit_low b y)) ∙ byte_by_of y hy)
    q hq

times_only : (c p x : ℕ) → times c (only p x) ≡ only p (times c x)
unfolding only
times_only c zero x = times_zero c
times_only c (suc p) x = refl

power_low : (i : ℕ) → i < 8 → 2 ^ i < 256
power_low = below8 (λ (i : ℕ). 2 ^ i < 256) (lit< tt) (lit< tt) (lit< tt) (lit< tt) (lit< tt) (lit< tt) (lit< tt) (lit< tt)

-- bit b of c times x is the sum of x's bits i where c times 2^i has the bit b
pub times_by : (c x : ℕ) → x < 256 → byte_by (λ b. xor_all 8 (λ i. only (bit b (times c (2 ^ i))) (bit i x))) ≡ times c x
times_by c x h =
    by_all 8 (λ b i. only (bit b (times c (2 ^ i))) (bit i x)) (λ b i. only_low (bit b (times c (2 ^ i))) (bit i x) (bit_low i x))
    ∙ all_same 8 _ _ (λ i l.
    chosen (bit i x) (times c (2 ^ i)) (bit_low i x) (times_byte c (2 ^ i) (power_low i l)) ∙ sym (times_only c (bit i x) (2 ^ i)))
    ∙ sym (times_all c 8 (λ i. only (bit i x) (2 ^ i)))
    ∙ ap (times c) (sum_of_bits x h)
