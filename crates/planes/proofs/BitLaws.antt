-- Bits of words and of bytes: under xor, and, shifts; a byte is known by its bits.
-- Assumes nothing.
use mathlib.Core.Path.{◌≡◌, sym, ap, ◌∙◌}
use mathlib.Core.Bool.{Bool}
use Prim.Native.Nat.{ℕ, ◌+◌, ◌-◌, ◌*◌, ◌/◌, ◌%◌, ◌^◌, ◌<◌, ◌≤◌}
use native.Mathlib.Nat.{mod-lt, div-eq_of_lt, lt_of_lt_of_le, mul_assoc, mul-mod_left, add_comm}
use native.Mathlib.Omega.{arith}
use lib.Dec.{lit<, eqb, eqb→eq}
use lib.Pow.{pow-add, pow_mono, shr-shr, shl-shr, mod-mod-pow, field}
use lib.Bits.{bit_and, bit_or, bit_xor, xor_shr, xor_mod, and_shr, and_mod, or_shr, or_mod}
use Rattle.laws.specs.Xor.{xor}
use Rattle.laws.proofs.OrderLaws.{below8}
use Rattle.planes.specs.Planes.{bit, byte_by}
use Rattle.planes.proofs.Tests.{tested}

pub bit_low : (n x : ℕ) → bit n x < 2
unfolding bit
bit_low n x = mod-lt (x / 2 ^ n) (lit< tt)

pub bit_xor_lem : (n a b : ℕ) → bit n (bit_xor a b) ≡ bit_xor (bit n a) (bit n b)
unfolding bit
bit_xor_lem n a b = ap (λ (x : ℕ). x % 2) (xor_shr a b n) ∙ xor_mod (a / 2 ^ n) (b / 2 ^ n) 1

pub bit_sum : (n a b : ℕ) → bit n (xor a b) ≡ xor (bit n a) (bit n b)
unfolding xor
bit_sum n a b = bit_xor_lem n a b

pub bit_and_lem : (n a b : ℕ) → bit n (bit_and a b) ≡ bit_and (bit n a) (bit n b)
unfolding bit
bit_and_lem n a b = ap (λ (x : ℕ). x % 2) (and_shr a b n) ∙ and_mod (a / 2 ^ n) (b / 2 ^ n) 1

pub bit_or_lem : (n a b : ℕ) → bit n (bit_or a b) ≡ bit_or (bit n a) (bit n b)
unfolding bit
bit_or_lem n a b = ap (λ (x : ℕ). x % 2) (or_shr a b n) ∙ or_mod (a / 2 ^ n) (b / 2 ^ n) 1

-- ---- shifts
pub bit_shr : (n k x : ℕ) → bit n (x / 2 ^ k) ≡ bit (n + k) x
unfolding bit
bit_shr n k x = ap (λ (y : ℕ). y % 2) (shr-shr x k n ∙ ap (λ (m : ℕ). x / 2 ^ m) (add_comm k n))

-- what is cut off at w does not show below
pub bit_mod : (n w x : ℕ) → n < w → bit n (x % 2 ^ w) ≡ bit n x
unfolding bit
bit_mod n w x h =
    let e : w ≡ (w - n - 1) + 1 + n = omega arith in
    ap (λ (m : ℕ). x % 2 ^ m / 2 ^ n % 2) e ∙ ap (λ (y : ℕ). y % 2) (field x ((w - n - 1) + 1) n) ∙ mod-mod-pow (x / 2 ^ n) (w - n - 1) 1

pub bit_up : (n k x : ℕ) → k ≤ n → bit n (x * 2 ^ k) ≡ bit (n - k) x
unfolding bit
bit_up n k x h =
    let e : n ≡ k + (n - k) = omega arith in
    ap (λ (m : ℕ). x * 2 ^ k / 2 ^ m % 2) e ∙ ap (λ (y : ℕ). y % 2) (sym (shr-shr (x * 2 ^ k) k (n - k)) ∙ ap (λ (y : ℕ). y / 2 ^ (n - k)) (shl-shr x k))

pub bit_under : (n k x : ℕ) → n < k → bit n (x * 2 ^ k) ≡ 0
unfolding bit
bit_under n k x h =
    let e : k ≡ (k - n - 1) + 1 + n = omega arith in
    ap (λ (m : ℕ). x * 2 ^ m / 2 ^ n % 2) e
    ∙ ap (λ (y : ℕ). x * y / 2 ^ n % 2) (pow-add 2 ((k - n - 1) + 1) n)
    ∙ ap (λ (y : ℕ). y / 2 ^ n % 2) (sym (mul_assoc x (2 ^ ((k - n - 1) + 1)) (2 ^ n)))
    ∙ ap (λ (y : ℕ). y % 2) (shl-shr (x * 2 ^ ((k - n - 1) + 1)) n)
    ∙ ap (λ (y : ℕ). x * y % 2) (pow-add 2 (k - n - 1) 1)
    ∙ ap (λ (y : ℕ). y % 2) (sym (mul_assoc x (2 ^ (k - n - 1)) 2))
    ∙ mul-mod_left (x * 2 ^ (k - n - 1)) 2

pub shl_up : (n k x : ℕ) → n < 64 → k ≤ n → bit n (x * 2 ^ k % 2 ^ 64) ≡ bit (n - k) x
shl_up n k x h g = bit_mod n 64 (x * 2 ^ k) h ∙ bit_up n k x g

pub shl_under : (n k x : ℕ) → n < 64 → n < k → bit n (x * 2 ^ k % 2 ^ 64) ≡ 0
shl_under n k x h g = bit_mod n 64 (x * 2 ^ k) h ∙ bit_under n k x g

pub bit_past : (n w x : ℕ) → x < 2 ^ w → w ≤ n → bit n x ≡ 0
unfolding bit
bit_past n w x h g = ap (λ (y : ℕ). y % 2) (div-eq_of_lt (lt_of_lt_of_le h (pow_mono g)))

-- bit i of the byte from bit m on
pub bit_byte : (i m x : ℕ) → i < 8 → bit i (x / 2 ^ m % 256) ≡ bit (m + i) x
unfolding bit
bit_byte i m x h = bit_mod i 8 (x / 2 ^ m) h ∙ ap (λ (y : ℕ). y % 2) (shr-shr x m i)

-- ---- a byte by its bits
module _ (f : ℕ → ℕ) (h : (b : ℕ) → f b < 2) where
  pub byte_by_low : byte_by f < 256
  unfolding byte_by
  byte_by_low = omega (arith, h 0, h 1, h 2, h 3, h 4, h 5, h 6, h 7)

  pub byte_by_bit : (b : ℕ) → b < 8 → bit b (byte_by f) ≡ f b
  unfolding byte_by bit
  byte_by_bit =
      below8 (λ (b : ℕ). bit b (byte_by f) ≡ f b)
      (omega (arith, h 0))
      (omega (arith, h 0, h 1))
      (omega (arith, h 0, h 1, h 2))
      (omega (arith, h 0, h 1, h 2, h 3))
      (omega (arith, h 0, h 1, h 2, h 3, h 4))
      (omega (arith, h 0, h 1, h 2, h 3, h 4, h 5))
      (omega (arith, h 0, h 1, h 2, h 3, h 4, h 5, h 6))
      (omega (arith, h 0, h 1, h 2, h 3, h 4, h 5, h 6, h 7))

pub byte_by_same : (f g : ℕ → ℕ) → ((b : ℕ) → b < 8 → f b ≡ g b) → byte_by f ≡ byte_by g
unfolding byte_by
byte_by_same f g e =
    rw (e 0 (lit< tt), e 1 (lit< tt), e 2 (lit< tt), e 3 (lit< tt), e 4 (lit< tt), e 5 (lit< tt), e 6 (lit< tt), e 7 (lit< tt))

made_of_bits : ℕ → Bool
made_of_bits x = eqb (byte_by (λ b. bit b x)) x

pub byte_by_of : (x : ℕ) → x < 256 → byte_by (λ b. bit b x) ≡ x
unfolding made_of_bits byte_by bit
byte_by_of x h = eqb→eq _ _ (tested made_of_bits 256 tt x h)

pub bits_same : (x y : ℕ) → x < 256 → y < 256 → ((b : ℕ) → b < 8 → bit b x ≡ bit b y) → x ≡ y
bits_same x y hx hy e = sym (byte_by_of x hx) ∙ byte_by_same (λ b. bit b x) (λ b. bit b y) e ∙ byte_by_of y hy
