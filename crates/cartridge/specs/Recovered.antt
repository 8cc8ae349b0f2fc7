-- What demand 3 says of an image `was`, written by our writer, and an image `now` of the same length.
use Rattle.std.specs.Prelude.{◌≡◌, ◌≢◌, Bool, true, false, not, List, [], ◌∷◌, ◌++◌, ℕ, zero, suc, ◌+◌, ◌≤◌, ◌<◌, length}
use Rattle.laws.specs.Choose.{pick}
use Rattle.laws.specs.Lists.{same}
use Rattle.block.specs.Content.{Shut}
use Rattle.block.specs.Image.{block_at, capacity_of}
use Rattle.writer.specs.Items.{Item, size}
use Rattle.reader.specs.Walk.{walk_from, walk}
use Rattle.cartridge.specs.Chain.{Run, left, items, shown}
use Rattle.cartridge.specs.Handed.{Handed, hand, handed}

-- block p has other bytes than it had
unfoldable pub spoiled : List ℕ → List ℕ → ℕ → Bool
spoiled was now p = not (same (block_at now p) (block_at was p))

-- none of the n blocks from s on is spoiled
abbrev pub whole : (ℕ → Bool) → ℕ → ℕ → Bool
whole sp s zero = true
whole sp s (suc n) = pick (sp s) false (whole sp (suc s) n)

-- the items, laid from s on, whose blocks are all unspoiled: once each, in the order written, as written
abbrev pub intact : (ℕ → Bool) → ℕ → List Item → List Handed
intact sp s [] = []
intact sp s (i ∷ is) = pick (whole sp s (size i)) (hand s i ∷ []) [] ++ intact sp (s + size i) is

-- what is left of a run's image after damage: a block that has other bytes does not open at its place
pub record Damaged (r : Run) (now : List ℕ) : Type 0 where
  pub long : length now ≡ length (left r).image
  pub shuts : (p : ℕ) → p < capacity_of now → block_at now p ≢ block_at (left r).image p → Shut (shown r.setup now p)

-- the walk hands out exactly the run's items whose blocks are unspoiled, and takes no more reads than there are blocks,
-- however many are allowed
pub record Recovered (r : Run) (now : List ℕ) : Type 0 where
  pub gives : handed (walk (shown r.setup now) (capacity_of now)) ≡ intact (spoiled (left r).image now) 0 (items r)
  pub short : (n : ℕ) → length (walk_from n (shown r.setup now) (capacity_of now) 0) ≤ capacity_of now
