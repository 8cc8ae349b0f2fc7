-- Cited by private contracts alone: what the steps of opening promise.
use Rattle.std.specs.Prelude.{◌&&◌, ℕ, eqb, leb, Option, Some, None}
use Rattle.laws.specs.Choose.{pick}
use Rattle.block.specs.declared.Kind.{Kind}
use Rattle.block.specs.declared.Kind.TheVariants as kind
use Rattle.block.specs.declared.Seen.{Seen}
use Rattle.block.specs.declared.Seen.TheVariants as seen
use Rattle.block.specs.Format.{used_ok}

-- the kind that bytes 4 and 5 of a header say
unfoldable pub kind_said : ℕ → ℕ → Option Kind
kind_said k l =
    pick (eqb k 1) (pick (leb l 1) (Some (kind.First (eqb l 1))) None)
    (pick (eqb k 2) (pick (leb l 1) (Some (kind.More (eqb l 1))) None)
    (pick (eqb l 0) (pick (eqb k 3) (Some kind.Mark) (pick (eqb k 4) (Some kind.End) None)) None))

-- what opens as a kind, with the count of bytes used
abbrev pub seen_as : Kind → ℕ → Seen
seen_as (kind.First l) n = seen.First l n
seen_as (kind.More l) n = seen.More l n
seen_as kind.Mark n = seen.Mark
seen_as kind.End n = seen.End

-- what a header says of a payload whose unused bytes are zero
unfoldable pub head_says : ℕ → ℕ → ℕ → Seen
head_says kind last used =
    pick (eqb kind 1) (pick (used_ok last used) (seen.First (eqb last 1) used) seen.Shut)
    (pick (eqb kind 2) (pick (used_ok last used) (seen.More (eqb last 1) used) seen.Shut)
    (pick (eqb last 0 && eqb used 0) (pick (eqb kind 3) seen.Mark (pick (eqb kind 4) seen.End seen.Shut)) seen.Shut))
