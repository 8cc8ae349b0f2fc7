-- The field's products: they add up in both factors, are associative on bytes, and give bytes.
-- Assumes nothing.
use mathlib.Core.Path.{◌≡◌, refl, sym, ap, ap₂, subst, ◌∙◌}
use mathlib.Core.Bool.{Bool}
use Prim.Native.Nat.{ℕ, zero, suc, ◌*◌, ◌/◌, ◌%◌, ◌<◌}
use native.Mathlib.Nat.{mod-lt}
use lib.Dec.{lit<, eqb, eqb→eq}
use lib.Bits.{bit_xor, xor_shr, xor_mod}
use Rattle.laws.specs.Xor.{xor}
use Rattle.laws.proofs.TableLaws.{at}
use Rattle.laws.proofs.XorLaws.{xor_byte, low, ac, xor_zero, zero_xor}
use Rattle.pi.specs.Table.{table}
use Rattle.pi.specs.Field.{only, double, times_bits, times}
use Rattle.pi.proofs.Field.{only_xor, double_xor}

-- ---- in the second factor
only_sum : (b x y : ℕ) → only b (xor x y) ≡ xor (only b x) (only b y)
unfolding only xor
only_sum zero x y = refl
only_sum (suc b) x y = refl

bits_sum : (n c x y : ℕ) → times_bits n c (xor x y) ≡ xor (times_bits n c x) (times_bits n c y)
unfolding times_bits
bits_sum zero c x y = sym (zero_xor 0)
bits_sum (suc n) c x y = rw (only_sum (c % 2) x y, double_xor x y, bits_sum n (c / 2) (double x) (double y)) (simp ac)

pub times_sum : (c x y : ℕ) → times c (xor x y) ≡ xor (times c x) (times c y)
unfolding times
times_sum c x y = bits_sum 8 c x y

-- ---- in the first
odd : (a b : ℕ) → xor a b % 2 ≡ bit_xor (a % 2) (b % 2)
unfolding xor
odd a b = xor_mod a b 1

half : (a b : ℕ) → xor a b / 2 ≡ xor (a / 2) (b / 2)
unfolding xor
half a b = xor_shr a b 1

bits_in : (n a b x : ℕ) → times_bits n (xor a b) x ≡ xor (times_bits n a x) (times_bits n b x)
unfolding times_bits
bits_in zero a b x = sym (zero_xor 0)
bits_in (suc n) a b x =
    ap₂ (λ (p q : ℕ). xor (only p x) (times_bits n q (double x))) (odd a b) (half a b)
    ∙ ap₂ xor (only_xor (a % 2) (b % 2) x (low a) (low b)) (bits_in n (a / 2) (b / 2) (double x))
    ∙ simp ac

pub times_in : (a b x : ℕ) → times (xor a b) x ≡ xor (times a x) (times b x)
unfolding times
times_in a b x = bits_in 8 a b x

-- ---- zero and one
none : (b : ℕ) → only b 0 ≡ 0
unfolding only
none zero = refl
none (suc b) = refl

pub double_zero : double 0 ≡ 0
unfolding double only xor
double_zero = refl

bits_zero : (n c : ℕ) → times_bits n c 0 ≡ 0
unfolding times_bits
bits_zero zero c = refl
bits_zero (suc n) c = ap₂ xor (none (c % 2)) (ap (times_bits n (c / 2)) double_zero ∙ bits_zero n (c / 2)) ∙ zero_xor 0

pub times_zero : (c : ℕ) → times c 0 ≡ 0
unfolding times
times_zero c = bits_zero 8 c

pub zero_times : (x : ℕ) → times 0 x ≡ 0
unfolding times times_bits only
zero_times x = simp zero_xor

pub one_times : (x : ℕ) → times 1 x ≡ x
unfolding times times_bits only
one_times x = simp xor_zero

-- ---- what adds up and holds of the eight bits holds of every byte
bits_of : ℕ → ℕ
bits_of x =
    xor (only (x % 2) 1) (xor (only (x / 2 % 2) 2) (xor (only (x / 4 % 2) 4) (xor (only (x / 8 % 2) 8)
    (xor (only (x / 16 % 2) 16) (xor (only (x / 32 % 2) 32) (xor (only (x / 64 % 2) 64) (only (x / 128 % 2) 128)))))))

by_bits : ℕ → ℕ → Bool
by_bits k x = eqb (bits_of k) k

bits_of_lem : (x : ℕ) → x < 256 → bits_of x ≡ x
unfolding bits_of by_bits only xor table
bits_of_lem x h = eqb→eq (bits_of x) x (at by_bits table tt x h)

module _ (P : ℕ → Type 0) (p0 : P 0) (more : (x y : ℕ) → P x → P y → P (xor x y)) where
  bit : (b v : ℕ) → P v → P (only b v)
  unfolding only
  bit zero v p = p0
  bit (suc b) v p = p

  pub spread : P 1 → P 2 → P 4 → P 8 → P 16 → P 32 → P 64 → P 128 → (x : ℕ) → x < 256 → P x
  unfolding bits_of
  spread a b c d e f g h x l =
      subst P (bits_of_lem x l)
      (more _ _ (bit (x % 2) 1 a) (more _ _ (bit (x / 2 % 2) 2 b) (more _ _ (bit (x / 4 % 2) 4 c) (more _ _ (bit (x / 8 % 2) 8 d)
      (more _ _ (bit (x / 16 % 2) 16 e) (more _ _ (bit (x / 32 % 2) 32 f) (more _ _ (bit (x / 64 % 2) 64 g) (bit (x / 128 % 2) 128 h))))))))

-- ---- doubling passes from one factor to the other; the field's polynomial is the rule at bit 7
eighth : ℕ → ℕ → Bool
eighth k x = eqb (times 29 k) (double (double (double (double (double (double (double (double k))))))))

at_bit_7 : (x : ℕ) → x < 256 → times 29 x ≡ double (double (double (double (double (double (double (double x)))))))
unfolding eighth times times_bits double only xor table
at_bit_7 x h = eqb→eq (times 29 x) (double (double (double (double (double (double (double (double x)))))))) (at eighth table tt x h)

passes_1 : (x : ℕ) → times 2 x ≡ times 1 (double x)
unfolding times times_bits only
passes_1 x = simp (xor_zero, zero_xor)

passes_2 : (x : ℕ) → times 4 x ≡ times 2 (double x)
unfolding times times_bits only
passes_2 x = simp (xor_zero, zero_xor)

passes_4 : (x : ℕ) → times 8 x ≡ times 4 (double x)
unfolding times times_bits only
passes_4 x = simp (xor_zero, zero_xor)

passes_8 : (x : ℕ) → times 16 x ≡ times 8 (double x)
unfolding times times_bits only
passes_8 x = simp (xor_zero, zero_xor)

passes_16 : (x : ℕ) → times 32 x ≡ times 16 (double x)
unfolding times times_bits only
passes_16 x = simp (xor_zero, zero_xor)

passes_32 : (x : ℕ) → times 64 x ≡ times 32 (double x)
unfolding times times_bits only
passes_32 x = simp (xor_zero, zero_xor)

passes_64 : (x : ℕ) → times 128 x ≡ times 64 (double x)
unfolding times times_bits only
passes_64 x = simp (xor_zero, zero_xor)

times_128 : (x : ℕ) → times 128 (double x) ≡ double (double (double (double (double (double (double (double x)))))))
unfolding times times_bits only
times_128 x = simp (xor_zero, zero_xor)

double_in : (b x : ℕ) → b < 256 → x < 256 → times (double b) x ≡ times b (double x)
unfolding double only xor
double_in b x hb hx =
    spread (λ (b : ℕ). times (double b) x ≡ times b (double x))
    (zero_times x ∙ sym (zero_times (double x)))
    (λ a b p q. ap (λ (n : ℕ). times n x) (double_xor a b) ∙ times_in (double a) (double b) x ∙ ap₂ xor p q ∙ sym (times_in a b (double x)))
    (passes_1 x) (passes_2 x) (passes_4 x) (passes_8 x) (passes_16 x) (passes_32 x) (passes_64 x) (at_bit_7 x hx ∙ sym (times_128 x)) b hb

chosen : (b x : ℕ) → double (only b x) ≡ only b (double x)
unfolding only double xor
chosen zero x = refl
chosen (suc b) x = refl

pub double_bits : (n c x : ℕ) → double (times_bits n c x) ≡ times_bits n c (double x)
unfolding times_bits
double_bits zero c x = double_zero
double_bits (suc n) c x =
    double_xor (only (c % 2) x) (times_bits n (c / 2) (double x))
    ∙ ap₂ xor (chosen (c % 2) x) (double_bits n (c / 2) (double x))

pub double_times : (b x : ℕ) → b < 256 → x < 256 → double (times b x) ≡ times (double b) x
unfolding times
double_times b x hb hx = double_bits 8 b x ∙ sym (double_in b x hb hx)

-- ---- bytes
only_byte : (b x : ℕ) → x < 256 → only b x < 256
unfolding only
only_byte zero x h = lit< tt
only_byte (suc b) x h = h

pub double_byte : (x : ℕ) → double x < 256
unfolding double
double_byte x = xor_byte (x * 2 % 256) (only (x / 128 % 2) 29) (mod-lt (x * 2) (lit< tt)) (only_byte (x / 128 % 2) 29 (lit< tt))

bits_byte : (n c x : ℕ) → x < 256 → times_bits n c x < 256
unfolding times_bits
bits_byte zero c x h = lit< tt
bits_byte (suc n) c x h = xor_byte (only (c % 2) x) (times_bits n (c / 2) (double x)) (only_byte (c % 2) x h) (bits_byte n (c / 2) (double x) (double_byte x))

pub times_byte : (c x : ℕ) → x < 256 → times c x < 256
unfolding times
times_byte c x h = bits_byte 8 c x h

-- ---- associative, on bytes
chosen_in : (p b x : ℕ) → only p (times b x) ≡ times (only p b) x
unfolding only
chosen_in zero b x = sym (zero_times x)
chosen_in (suc p) b x = refl

bits_assoc : (n a b x : ℕ) → b < 256 → x < 256 → times_bits n a (times b x) ≡ times (times_bits n a b) x
unfolding times_bits
bits_assoc zero a b x hb hx = sym (zero_times x)
bits_assoc (suc n) a b x hb hx =
    ap₂ xor (chosen_in (a % 2) b x)
    (ap (times_bits n (a / 2)) (double_times b x hb hx) ∙ bits_assoc n (a / 2) (double b) x (double_byte b) hx)
    ∙ sym (times_in (only (a % 2) b) (times_bits n (a / 2) (double b)) x)

pub times_assoc : (a b x : ℕ) → b < 256 → x < 256 → times a (times b x) ≡ times (times a b) x
unfolding times
times_assoc a b x hb hx = bits_assoc 8 a b x hb hx
