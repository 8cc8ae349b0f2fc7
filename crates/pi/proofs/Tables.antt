-- The rules of the tables, each one computed test over all entries.
-- Assumes nothing.
use mathlib.Core.Path.{◌≡◌, ap, ◌∙◌}
use mathlib.Core.Bool.{Bool}
use Prim.Native.Nat.{ℕ, ◌+◌, ◌*◌, ◌/◌, ◌%◌, ◌<◌}
use native.Mathlib.Nat.{mod-eq_of_lt}
use native.Mathlib.Omega.{arith}
use lib.Dec.{eqb, ltb, eqb→eq, ltb→lt}
use lib.ListN.{get_or}
use lib.Bits.{bit_or, or_shifted}
use Rattle.laws.specs.Xor.{xor}
use Rattle.laws.proofs.TableLaws.{at}
use Rattle.pi.specs.Table.{table, back_table, S, S⁻, E, E⁻, R, joined, halves, miniboxed}

-- ---- the miniboxes' entries are half bytes
pub half : ℕ → ℕ → Bool
half k x = ltb x 16

pub E_half : (x : ℕ) → x < 16 → get_or E x 0 < 16
unfolding E half
E_half x h = ltb→lt (get_or E x 0) 16 (at half E tt x h)

pub E⁻_half : (x : ℕ) → x < 16 → get_or E⁻ x 0 < 16
unfolding E⁻ half
E⁻_half x h = ltb→lt (get_or E⁻ x 0) 16 (at half E⁻ tt x h)

pub R_half : (x : ℕ) → x < 16 → get_or R x 0 < 16
unfolding R half
R_half x h = ltb→lt (get_or R x 0) 16 (at half R tt x h)

-- ---- every entry of Table 1.1 is what the miniboxes make of its place
as_boxed : ℕ → ℕ → Bool
as_boxed k x = eqb x (miniboxed k)

pub boxed : (x : ℕ) → x < 256 → S x ≡ miniboxed x
unfolding S table as_boxed miniboxed halves joined E E⁻ R xor
boxed x h = eqb→eq (get_or table x 0) (miniboxed x) (at as_boxed table tt x h)

-- the two halves, put together by a shift and an or
pub joins : (a b : ℕ) → a < 16 → b < 16 → bit_or (a * 16 % 256) b ≡ a * 16 + b
joins a b ha hb = ap (λ (n : ℕ). bit_or n b) (let h : a * 16 < 256 = omega arith in mod-eq_of_lt h) ∙ or_shifted a 4 b hb

-- ---- the two tables undo each other
undone : ℕ → ℕ → Bool
undone k x = eqb (S⁻ x) k

pub S⁻_S : (x : ℕ) → x < 256 → S⁻ (S x) ≡ x
unfolding S S⁻ table back_table undone
S⁻_S x h = eqb→eq (S⁻ (get_or table x 0)) x (at undone table tt x h)

redone : ℕ → ℕ → Bool
redone k x = eqb (S x) k

pub S_S⁻ : (x : ℕ) → x < 256 → S (S⁻ x) ≡ x
unfolding S S⁻ table back_table redone
S_S⁻ x h = eqb→eq (S (get_or back_table x 0)) x (at redone back_table tt x h)

-- the miniboxes undo the table too, where the halves change places on the way in and on the way out
unfoldable pub swapped : ℕ → ℕ
swapped x = x % 16 * 16 + x / 16

as_unboxed : ℕ → ℕ → Bool
as_unboxed k x = eqb x (swapped (miniboxed (swapped k)))

pub unboxed : (x : ℕ) → x < 256 → S⁻ x ≡ swapped (miniboxed (swapped x))
unfolding S⁻ back_table as_unboxed swapped miniboxed halves joined E E⁻ R xor
unboxed x h = eqb→eq (get_or back_table x 0) (swapped (miniboxed (swapped x))) (at as_unboxed back_table tt x h)

-- what the code finds step by step, of the halves h and l of a byte, is what the miniboxes make of it
pub pieces : (x h l u v w a b : ℕ) → h ≡ x / 16 → l ≡ x % 16 → u ≡ get_or E h 0 → v ≡ get_or E⁻ l 0 → w ≡ get_or R (xor u v) 0
    → a ≡ get_or E (xor u w) 0 → b ≡ get_or E⁻ (xor v w) 0 → a * 16 + b ≡ miniboxed x
unfolding miniboxed halves joined
pieces x h l u v w a b eh el eu ev ew ea eb = cc
