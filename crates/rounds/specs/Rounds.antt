-- The rounds of π on planes. The planes of each round's constant: at 16 r + 2 b the low half of word b, and the high
-- one behind it.
use Rattle.std.specs.Prelude.{◌≡◌, List, ℕ, ◌+◌, ◌*◌, ◌/◌, ◌%◌, ◌<◌, length, get_or}
use Rattle.laws.specs.Lists.{listed}
use Rattle.pi.specs.Table.{S}
use Rattle.pi.specs.Permutation.{state_by}
use Rattle.planes.specs.Planes.{bit, flipped, plus}
use Rattle.planes.specs.declared.Planes.{Planes}

-- the bits b of four entries of Table 1.1, a byte each
unfoldable pub bits_of : ℕ → ℕ → ℕ
bits_of b k = bit b (S k) + 256 * (bit b (S (k + 1)) + 256 * (bit b (S (k + 2)) + 256 * bit b (S (k + 3))))

unfoldable pub halves : List ℕ
halves = listed 0 192 (λ k. bits_of (k % 16 / 2) (k / 16 * 8 + k % 2 * 4))

-- the first n of k are those
abbrev pub Made : ℕ → List ℕ → Type 0
Made n k = (length k ≡ 192) × ((i : ℕ) → i < n → get_or k i 0 ≡ get_or halves i 0)

-- four entries of Table 1.1 in a word, the first lowest
unfoldable pub entries_at : ℕ → ℕ
entries_at k = S k + S (k + 1) * 256 + S (k + 2) * 65536 + S (k + 3) * 16777216

unfoldable pub word_at : List ℕ → ℕ → ℕ
word_at t k = get_or t (k + 1) 0 * 4294967296 + get_or t k 0

unfoldable pub constant_planes : ℕ → Planes
constant_planes r = record { words = listed 0 8 (λ b. word_at halves (r * 16 + 2 * b)) }

-- the state whose bytes all are c
unfoldable pub alike : ℕ → List ℕ
alike c = state_by (λ k. c)

-- the state that planes hold with c added to each byte
unfoldable pub held : ℕ → List ℕ → List ℕ
held c s = plus c (flipped s)
