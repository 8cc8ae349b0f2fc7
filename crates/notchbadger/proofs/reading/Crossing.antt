-- How a look that is taken crosses: the place of the block in the image, and its length.
-- Assumes nothing.
use borrow.Author.Tests.{eq-eqb}
use mathlib.Core.Path.{◌≡◌, sym, ◌∙◌}
use mathlib.Core.List.{List}
use Prim.Native.Nat.{ℕ, ◌*◌}
use lib.ListN.{length}
use Rattle.reader.specs.Reading.{look_number, look_part, look_place}
use Rattle.notchbadger.specs.declared.reading.NbPart.{NbPart}
use Rattle.notchbadger.specs.FlatReader.{looked_at}

pub look_taken : (image : List ℕ) (p : ℕ) {k r : ℕ} → r ≡ look_number image p → r ≡ 0 → k ≡ length (look_part image p)
    → ◌≡◌ {A = NbPart} (record { offset = 512 * p; length = k }) (looked_at image p)
unfolding look_place
look_taken image p e z l = rw (eq-eqb (look_number image p) 0 (sym e ∙ z), ← l)
