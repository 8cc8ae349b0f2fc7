-- The substitution on planes of bits, without a lookup: the circuits compute x to S (x + 62) + D5, which sends 0 to 0 and needs no NOT.
use Rattle.std.specs.Prelude.{◌≡◌, List, ℕ, ◌+◌, ◌-◌, ◌*◌, ◌/◌, ◌%◌, ◌^◌, ◌<◌, length, get_or, set}
use Rattle.laws.specs.Xor.{xor}
use Rattle.pi.specs.Table.{S, S⁻}
use Rattle.planes.specs.Planes.{bit, byte_by}
use Rattle.gates.specs.Gates.{half}
use Rattle.gates.specs.declared.Four.{Four}
use Rattle.boxes.specs.declared.Both.{Both}

-- the byte that stands at bit n of eight words
unfoldable pub byte : Both → ℕ → ℕ
byte x n = half x.low n + 16 * half x.high n

-- the table between two sums, and its inverse
unfoldable pub forth : ℕ → ℕ
forth x = xor (S (xor x 0x62)) 0xD5

unfoldable pub back : ℕ → ℕ
back x = xor (S⁻ (xor x 0x26)) 0x5D

-- row i of column j, of planes; and of four of its planes, from `at` on
unfoldable pub cell : List ℕ → ℕ → ℕ → ℕ
cell s j i = byte_by (λ b. bit i (get_or s (8 * b + j) 0))

unfoldable pub quarter : List ℕ → ℕ → ℕ → ℕ
quarter s at i = bit i (get_or s at 0) + 2 * (bit i (get_or s (at + 8) 0) + 2 * (bit i (get_or s (at + 16) 0) + 2 * bit i (get_or s (at + 24) 0)))

-- ---- what is stored: of each doubled byte, turned, eight bits
unfoldable pub turned_by : ℕ → ℕ → ℕ
turned_by k x = x * 2 ^ k % 65536 / 256 % 256

unfoldable pub stored : List ℕ → ℕ → ℕ → Four → List ℕ
stored q at k x =
    set (set (set (set q at (turned_by k x.p0)) (at + 8) (turned_by k x.p1)) (at + 16) (turned_by k x.p2)) (at + 24) (turned_by k x.p3)

-- ---- q holds the columns of s, each byte by B and column g turned by `turn g`: the first j of them, and all eight
abbrev pub Done : (ℕ → ℕ) → (ℕ → ℕ) → List ℕ → List ℕ → ℕ → Type 0
Done B turn s q j = (g : ℕ) → g < j → (i : ℕ) → i < 8 → cell q g i ≡ B (cell s g ((i + 8 - turn g) % 8))

abbrev pub Columns : (ℕ → ℕ) → (ℕ → ℕ) → List ℕ → List ℕ → Type 0
Columns B turn s q = (length q ≡ 64) × Done B turn s q 8
