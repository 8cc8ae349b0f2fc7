-- A byte by its halves through the miniboxes: each takes the low half of what it is given.
-- Assumes nothing.
use mathlib.Core.Path.{◌≡◌, sym, ap, ap₂, subst, ◌∙◌}
use Prim.Native.Nat.{ℕ, ◌+◌, ◌*◌, ◌/◌, ◌%◌, ◌<◌}
use native.Mathlib.Nat.{mod-lt, mod-eq_of_lt}
use native.Mathlib.Omega.{arith}
use lib.Bits.{bit_or, bit_and, and_mask, xor_lt}
use lib.Dec.{lit<}
use lib.ListN.{get_or}
use Rattle.laws.specs.Xor.{xor}
use Rattle.permutation.specs.Rows.{swapped}
use Rattle.pi.specs.Table.{S, S⁻, E, E⁻, R, miniboxed}
use Rattle.pi.proofs.Tables.{E_half, E⁻_half, R_half, boxed, unboxed, swapped as swapped_halves, joins, pieces}

low_xor : (a b : ℕ) → a < 16 → b < 16 → xor a b % 16 ≡ xor a b
unfolding xor
low_xor a b ha hb = mod-eq_of_lt (xor_lt 4 a b ha hb)

low : (f : ℕ → ℕ) → ((x : ℕ) → x < 16 → f x < 16) → (x r : ℕ) → r ≡ f (x % 16) → r < 16
low f h x r e = subst (λ (y : ℕ). y < 16) (sym e) (h (x % 16) (mod-lt x (lit< tt)))

upper : (p q : ℕ) → q < 16 → (p * 16 + q) / 16 ≡ p
upper p q h = omega arith

lower : (p q : ℕ) → q < 16 → (p * 16 + q) % 16 ≡ q
lower p q h = omega arith

module _ (h l u v w a b : ℕ) (eu : u ≡ get_or E (h % 16) 0) (ev : v ≡ get_or E⁻ (l % 16) 0) (ew : w ≡ get_or R (xor u v % 16) 0)
    (ea : a ≡ get_or E (xor u w % 16) 0) (eb : b ≡ get_or E⁻ (xor v w % 16) 0) where
  u_low : u < 16
  u_low = low (λ x. get_or E x 0) E_half h u eu

  v_low : v < 16
  v_low = low (λ x. get_or E⁻ x 0) E⁻_half l v ev

  w_low : w < 16
  w_low = low (λ x. get_or R x 0) R_half (xor u v) w ew

  a_low : a < 16
  a_low = low (λ x. get_or E x 0) E_half (xor u w) a ea

  b_low : b < 16
  b_low = low (λ x. get_or E⁻ x 0) E⁻_half (xor v w) b eb

  made : (x : ℕ) → h % 16 ≡ x / 16 → l % 16 ≡ x % 16 → a * 16 + b ≡ miniboxed x
  made x eh el =
      pieces x (h % 16) (l % 16) u v w a b eh el eu ev (ew ∙ ap (λ (n : ℕ). get_or R n 0) (low_xor u v u_low v_low))
      (ea ∙ ap (λ (n : ℕ). get_or E n 0) (low_xor u w u_low w_low)) (eb ∙ ap (λ (n : ℕ). get_or E⁻ n 0) (low_xor v w v_low w_low))

  pub replaced_is : (x : ℕ) → x < 256 → h ≡ x / 16 → l ≡ x % 16 → bit_or (a * 16 % 256) b ≡ S x
  replaced_is x hx eh el =
      joins a b a_low b_low
      ∙ made x (let e : h % 16 ≡ x / 16 = omega arith in e) (let e : l % 16 ≡ x % 16 = omega arith in e)
      ∙ sym (boxed x hx)

  -- and back, by the same boxes: the halves as they come, and exchanged as they go
  pub restored_halves : (x : ℕ) → x < 256 → h ≡ x % 16 → l ≡ x / 16 → bit_or (b * 16 % 256) a ≡ S⁻ x
  unfolding swapped_halves
  restored_halves x hx eh el =
      let hi : x / 16 < 16 = omega arith in
      let ph : h % 16 ≡ h = mod-eq_of_lt (let e : h < 16 = omega arith in e) in
      let pl : l % 16 ≡ l = mod-eq_of_lt (let e : l < 16 = omega arith in e) in
      joins b a b_low a_low
      ∙ ap₂ (λ (p q : ℕ). q * 16 + p) (sym (upper a b b_low)) (sym (lower a b b_low))
      ∙ ap swapped_halves (made (swapped_halves x) (ph ∙ eh ∙ sym (upper (x % 16) (x / 16) hi)) (pl ∙ el ∙ sym (lower (x % 16) (x / 16) hi)))
      ∙ sym (unboxed x hx)

-- and back, the halves exchanged on the way in and on the way out
pub restored_is : (x : ℕ) → x < 256 → swapped (S (swapped x)) ≡ S⁻ x
unfolding swapped swapped_halves
restored_is x h = ap swapped (boxed (swapped x) (omega arith)) ∙ sym (unboxed x h)

pub exchanged_is : (x : ℕ) → x < 256 → bit_or (bit_and x 15 * 16 % 256) (x / 16) ≡ swapped x
unfolding swapped
exchanged_is x h = rw (and_mask x 4) (joins (x % 16) (x / 16) (omega arith) (omega arith))
