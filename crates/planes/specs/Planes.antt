-- A state of 64 bytes, byte 8i + j of which is row i, column j, as planes of bits: byte 8b + j of them has, at its bit
-- i, bit b of the state's byte at row i, column j.
use Rattle.std.specs.Prelude.{List, ℕ, ◌+◌, ◌*◌, ◌/◌, ◌%◌, ◌^◌, get_or}
use Rattle.laws.specs.Xor.{xor}
use Rattle.pi.specs.Permutation.{state_by}
use Rattle.planes.specs.declared.Planes.{Planes}

unfoldable pub bit : ℕ → ℕ → ℕ
bit n x = x / 2 ^ n % 2

-- the byte whose bit b is f b
unfoldable pub byte_by : (ℕ → ℕ) → ℕ
byte_by f = f 0 + 2 * (f 1 + 2 * (f 2 + 2 * (f 3 + 2 * (f 4 + 2 * (f 5 + 2 * (f 6 + 2 * f 7))))))

-- bit b of byte 8i + j and bit i of byte 8b + j change places: a state's planes, and the state of planes
unfoldable pub flipped : List ℕ → List ℕ
flipped s = state_by (λ k. byte_by (λ b. bit (k / 8) (get_or s (8 * b + k % 8) 0)))

-- each byte of a state plus c
unfoldable pub plus : ℕ → List ℕ → List ℕ
plus c s = state_by (λ k. xor (get_or s k 0) c)

-- ---- the planes as eight words
unfoldable pub word : Planes → ℕ → ℕ
word p i = get_or p.words i 0

-- their 64 bytes
unfoldable pub bytes_of : Planes → List ℕ
bytes_of p = state_by (λ k. word p (k / 8) / 2 ^ (8 * (k % 8)) % 256)
