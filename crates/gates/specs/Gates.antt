-- Half bytes that stand in four words, a bit in each, and a minibox at every place of them.
use Rattle.std.specs.Prelude.{◌≡◌, List, ℕ, ◌+◌, ◌*◌, ◌<◌, get_or}
use Rattle.laws.specs.Xor.{xor}
use Rattle.planes.specs.Planes.{bit}
use Rattle.gates.specs.declared.Four.{Four}

-- two functions of a bit's place in a word agree
abbrev pub Same16 : (ℕ → ℕ) → (ℕ → ℕ) → Type 0
Same16 f g = (n : ℕ) → n < 16 → f n ≡ g n

-- the half byte that stands at bit n of four words
unfoldable pub half : Four → ℕ → ℕ
half x n = bit n x.p0 + 2 * (bit n x.p1 + 2 * (bit n x.p2 + 2 * bit n x.p3))

-- a minibox m between two sums, at every place of four words
abbrev pub Minibox : List ℕ → ℕ → ℕ → Four → Four → Type 0
Minibox m a c x r = Same16 (half r) (λ n. xor (get_or m (xor (half x n) a) 0) c)
