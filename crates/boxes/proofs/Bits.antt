-- Bits of words of 16: a byte doubled and turned.
-- Assumes nothing.
use mathlib.Core.Path.{◌≡◌, ap, ap₂, ◌∙◌}
use mathlib.Core.Logic.{⊎_elim}
use Prim.Native.Nat.{ℕ, ◌+◌, ◌-◌, ◌*◌, ◌/◌, ◌%◌, ◌^◌, ◌<◌}
use native.Mathlib.Omega.{arith}
use lib.Bits.{bit_or, or_zero_r}
use Rattle.laws.proofs.OrderLaws.{lt_or_ge}
use Rattle.planes.specs.Planes.{bit}
use Rattle.planes.proofs.BitLaws.{bit_or_lem, bit_shr, bit_mod, bit_up, bit_under, bit_past}

-- ---- a byte twice in a word, and eight bits of it after a turn
pub bit_twice : (n x : ℕ) → x < 256 → n < 16 → bit n (bit_or x (x * 2 ^ 8 % 2 ^ 16)) ≡ bit (n % 8) x
bit_twice n x hx hn =
    bit_or_lem n x (x * 2 ^ 8 % 2 ^ 16) ∙ ap (bit_or (bit n x)) (bit_mod n 16 (x * 2 ^ 8) hn)
    ∙ ⊎_elim
    (λ l. let e : n ≡ n % 8 = omega arith in
    ap (bit_or (bit n x)) (bit_under n 8 x l) ∙ or_zero_r (bit n x) ∙ ap (λ (m : ℕ). bit m x) e)
    (λ g. let e : n - 8 ≡ n % 8 = omega arith in
    ap₂ bit_or (bit_past n 8 x hx g) (bit_up n 8 x g) ∙ ap (λ (m : ℕ). bit m x) e)
    (lt_or_ge n 8)

pub bit_turned : (i k x : ℕ) → i < 8 → k < 8 → bit i (x * 2 ^ k % 2 ^ 16 / 2 ^ 8 % 2 ^ 8) ≡ bit (i + 8 - k) x
bit_turned i k x hi hk =
    bit_mod i 8 (x * 2 ^ k % 2 ^ 16 / 2 ^ 8) hi ∙ bit_shr i 8 (x * 2 ^ k % 2 ^ 16)
    ∙ bit_mod (i + 8) 16 (x * 2 ^ k) (omega arith) ∙ bit_up (i + 8) k x (omega arith)
