-- Bits of words: of sums, and of a turn.
-- Assumes nothing.
use mathlib.Core.Path.{◌≡◌, sym, ap, ap₂, ◌∙◌}
use mathlib.Core.Logic.{⊎_elim}
use Prim.Native.Nat.{ℕ, ◌+◌, ◌-◌, ◌*◌, ◌/◌, ◌%◌, ◌^◌, ◌<◌}
use native.Mathlib.Omega.{arith}
use lib.Bits.{bit_or, bit_xor, or_zero_r}
use Rattle.std.specs.Int.{w64, rotate_left}
use Rattle.laws.specs.Xor.{xor}
use Rattle.laws.proofs.OrderLaws.{lt_or_ge}
use Rattle.planes.specs.Planes.{bit}
use Rattle.planes.proofs.BitLaws.{bit_xor_lem, bit_or_lem, bit_shr, bit_mod, bit_up, bit_under, bit_past}
use Rattle.mixing.specs.Turns.{before, Turned}

-- of a sum, as the code has it
pub bit_either : (n a b : ℕ) → bit n (bit_xor a b) ≡ xor (bit n a) (bit n b)
unfolding xor
bit_either n a b = bit_xor_lem n a b

-- ---- a turn: of the two parts one is empty at each place
turn_bit : (k x n : ℕ) → x < 2 ^ 64 → 0 < k → k < 64 → n < 64 → bit n (bit_or (x * 2 ^ k % 2 ^ 64) (x / 2 ^ (64 - k))) ≡ bit (before k n) x
unfolding before
turn_bit k x n hx h0 hk hn =
    bit_or_lem n (x * 2 ^ k % 2 ^ 64) (x / 2 ^ (64 - k))
    ∙ ap₂ bit_or (bit_mod n 64 (x * 2 ^ k) hn) (bit_shr n (64 - k) x)
    ∙ ⊎_elim
    (λ l.
    let e : (n + (64 - k)) % 64 ≡ n + (64 - k) = omega arith in
    ap (λ (y : ℕ). bit_or y (bit (n + (64 - k)) x)) (bit_under n k x l) ∙ ap (λ (m : ℕ). bit m x) (sym e))
    (λ g.
    let e : (n + (64 - k)) % 64 ≡ n - k = omega arith in
    ap₂ bit_or (bit_up n k x g) (bit_past (n + (64 - k)) 64 x hx (omega arith)) ∙ or_zero_r (bit (n - k) x) ∙ ap (λ (m : ℕ). bit m x) (sym e))
    (lt_or_ge n k)

pub turn_is : (k x r : ℕ) → x < 2 ^ 64 → 0 < k → k < 64 → r ≡ rotate_left w64 x k → Turned k x r
turn_is k x r hx h0 hk e =
    let f : k % 64 ≡ k = omega arith in
    let g : (64 - k % 64) % 64 ≡ 64 - k = omega arith in
    let s : r ≡ bit_or (x * 2 ^ k % 2 ^ 64) (x / 2 ^ (64 - k)) = e ∙ ap₂ (λ (l m : ℕ). bit_or (x * 2 ^ l % 2 ^ 64) (x / 2 ^ m)) f g in
    record { bits = λ n h. ap (bit n) s ∙ turn_bit k x n hx h0 hk h }
