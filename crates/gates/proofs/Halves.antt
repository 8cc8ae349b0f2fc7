-- One half byte: its bits at place 0 of four words, put together again, and a minibox between two sums undone to the minibox alone.
-- Assumes nothing.
use mathlib.Core.Path.{◌≡◌, sym, ap, ◌∙◌}
use mathlib.Core.Bool.{Bool}
use mathlib.Core.List.{List}
use Prim.Native.Nat.{ℕ, ◌*◌, ◌/◌, ◌%◌, ◌<◌}
use native.Mathlib.Nat.{mod-eq_of_lt, div-one}
use lib.Dec.{eqb, eqb→eq}
use lib.Bits.{bit_and, bit_or, and_mask, xor_mod}
use lib.ListN.{get_or}
use Rattle.laws.specs.Xor.{xor}
use Rattle.laws.proofs.XorLaws.{xor_undone}
use Rattle.pi.specs.Table.{E}
use Rattle.planes.specs.Planes.{bit}
use Rattle.planes.proofs.Tests.{tested}
use Rattle.planes.proofs.BitLaws.{bit_low}
use Rattle.gates.proofs.Bits.{four, all4}

-- the four low bits of a byte, each shifted to place 0, are its low half
is_low_half : ℕ → Bool
is_low_half x = eqb (four (bit 0 x) (bit 0 (x / 2)) (bit 0 (x / 4)) (bit 0 (x / 8))) (x % 16)

pub low_half : (x : ℕ) → x < 256 → four (bit 0 x) (bit 0 (x / 2)) (bit 0 (x / 4)) (bit 0 (x / 8)) ≡ x % 16
unfolding is_low_half four bit
low_half x h = eqb→eq _ _ (tested is_low_half 256 tt x h)

-- four bits by shifts and ors
laid : ℕ → ℕ → ℕ → ℕ → ℕ
laid a b c d = bit_or (bit_or (bit_or a (b * 2 % 65536)) (c * 4 % 65536)) (d * 8 % 65536) % 256

masked : (x : ℕ) → bit_and x 1 ≡ bit 0 x
unfolding bit
masked x = and_mask x 1 ∙ ap (λ (y : ℕ). y % 2) (sym (div-one x))

pub laid_four : (a b c d : ℕ)
    → bit_or (bit_or (bit_or (bit_and a 1) (bit_and b 1 * 2 % 65536)) (bit_and c 1 * 4 % 65536)) (bit_and d 1 * 8 % 65536) % 256 ≡ four (bit 0 a) (bit 0 b) (bit 0 c) (bit 0 d)
unfolding laid four E
laid_four a b c d =
    rw (masked a, masked b, masked c, masked d)
    (all4 (bit 0 a) (bit 0 b) (bit 0 c) (bit 0 d) (bit_low 0 a) (bit_low 0 b) (bit_low 0 c) (bit_low 0 d) laid four tt)

-- x plus a, its low half h through m between sums with a and c, and c once more: m of x
pub alone : (m : List ℕ) (a c x h y r : ℕ) → a < 16 → h ≡ xor x a % 16 → y ≡ xor (get_or m (xor h a) 0) c → r ≡ xor y c → r ≡ get_or m (x % 16) 0
unfolding xor
alone m a c x h y r l eh ey er =
    let e : h ≡ xor (x % 16) a = eh ∙ xor_mod x a 4 ∙ ap (xor (x % 16)) (mod-eq_of_lt l) in
    er ∙ ap (λ (z : ℕ). xor z c) ey ∙ xor_undone (get_or m (xor h a) 0) c
    ∙ ap (λ (z : ℕ). get_or m z 0) (ap (λ (z : ℕ). xor z a) e ∙ xor_undone (x % 16) a)
