-- The cases at the edges hold: one theorem over the table.
-- Assumes nothing.
use mathlib.Core.Path.{◌≡◌, refl}
use mathlib.Core.List.{List, [], ◌∷◌}
use Rattle.laws.specs.Lists.{listed}
use Rattle.laws.specs.Xor.{xor, xor_all}
use Rattle.pi.specs.Table.{S, table}
use Rattle.pi.specs.Field.{only, double, times_bits, times}
use Rattle.pi.specs.Permutation.{state_by, source, shift, first_row, turned, mix_with, mix}
use Rattle.sponge.specs.Blink.{into, pad_close}
use Rattle.aead.specs.Sealing.{key_ok}
use Rattle.block.specs.Image.{capacity_of, size_ok, image_ok, image_then_key}
use Rattle.numbers.specs.Refusals.{cause_of}
use Rattle.writer.specs.Items.{blocks_for}
use Rattle.writer.specs.Writing.{zone_ok, place_ok, marks_ok, lawful, room, call_number, item_number, write}
use Rattle.cartridge.specs.Cases.{Case, one_then_zeros, numbered, closed_state, item_at, ends_at, cases}

pub data All : List Case → Type 0 where
  none : All []
  more : {c : Case} {cs : List Case} → c.found ≡ c.said → All cs → All (c ∷ cs)

pub cases_hold : All cases
unfolding cases one_then_zeros numbered closed_state item_at ends_at S table xor xor_all listed only double times_bits times state_by source shift first_row turned mix_with mix into pad_close capacity_of size_ok image_ok key_ok image_then_key cause_of blocks_for zone_ok place_ok marks_ok lawful room call_number item_number write
cases_hold =
    more refl (more refl (more refl (more refl (more refl (more refl (more refl (more refl (more refl (more refl (more refl (more refl (more refl (more refl (more refl none))))))))))))))
