-- Cited by private contracts alone: where one answer of the walk reaches, and the blocks that it paints.
use Rattle.std.specs.Prelude.{List, ℕ, ◌-◌, length}
use Rattle.laws.specs.Lists.{listed, splice}
use Rattle.reader.specs.declared.Outcome.{Outcome}
use Rattle.reader.specs.declared.Outcome.TheVariants as o
use Rattle.reader.specs.Walk.{Answer}
use Rattle.reader.specs.Reading.{outcome_of}
use Rattle.picture.specs.Picture.{glyph_of}

-- an answer that goes on at `next`: as far as that, and End to the end of the c blocks
abbrev pub reaches : Outcome → ℕ → ℕ → ℕ
reaches (o.Record n) next c = next
reaches o.Mark next c = next
reaches o.End next c = c
reaches o.Bad next c = next
reaches o.Stray next c = next
reaches (o.Cut q) next c = next

abbrev pub reached : Answer → ℕ → ℕ
reached a c = reaches (outcome_of a.told) a.next c

-- the blocks from p up to q, in the answer at p
unfoldable pub painted : Outcome → ℕ → ℕ → List ℕ → List ℕ
painted outcome p q out = splice out p (listed p (q - p) (glyph_of outcome p))

abbrev pub answered : Answer → ℕ → List ℕ → List ℕ
answered a p out = painted (outcome_of a.told) p (reached a (length out)) out
