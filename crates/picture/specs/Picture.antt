-- The picture of a walk, one character a block: each block has the character of the answer that it belongs to.
use Rattle.std.specs.Prelude.{List, [], ◌∷◌, ◌++◌, ℕ, ◌-◌, eqb, ltb, length}
use Rattle.laws.specs.Choose.{pick, first_of}
use Rattle.laws.specs.Lists.{listed}
use Rattle.block.specs.Image.{capacity_of, image_then_key, view}
use Rattle.reader.specs.declared.Outcome.{Outcome}
use Rattle.reader.specs.declared.Outcome.TheVariants as o
use Rattle.reader.specs.Walk.{Visit, walk}
use Rattle.reader.specs.Reading.{outcome_of}

-- block b in the answer at p: R a record, r its other blocks, M a mark, E end of data and . what is behind it, x a
-- block that does not open, s a stray, c a record that is cut, up to the break
abbrev pub glyph_of : Outcome → ℕ → ℕ → ℕ
glyph_of (o.Record n) p b = pick (eqb b p) 82 114
glyph_of o.Mark p b = 77
glyph_of o.End p b = pick (eqb b p) 69 46
glyph_of o.Bad p b = 120
glyph_of o.Stray p b = 115
glyph_of (o.Cut q) p b = pick (ltb b q) 99 120

-- an answer reaches as far as the next one, and the last one to the end of the c blocks
abbrev pub reach : ℕ → List Visit → ℕ
reach c [] = c
reach c (x ∷ xs) = x.at

unfoldable pub pictured : ℕ → List Visit → List ℕ
pictured c [] = []
pictured c (x ∷ xs) = listed x.at (reach c xs - x.at) (glyph_of (outcome_of x.says) x.at) ++ pictured c xs

-- ---- the call: 1 the image, 2 the key or a buffer that has not a byte for each block; then the buffer stays
unfoldable pub draw_number : List ℕ → List ℕ → ℕ → ℕ
draw_number key image room = image_then_key key image (first_of (eqb room (capacity_of image)) 2 0)

unfoldable pub drawn : List ℕ → ℕ → ℕ → List ℕ → List ℕ → List ℕ
drawn key id recording image out =
    pick (eqb (draw_number key image (length out)) 0) (pictured (capacity_of image) (walk (view key id recording image) (capacity_of image))) out
