-- Cases at the edges, P1 to P12, in one table: what the definitions give, and what FORMAT and NUMBERS say.
use Rattle.std.specs.Prelude.{false, List, [], ◌∷◌, ℕ, ◌-◌, get_or, take, replicate, Result, Ok, Err}
use Rattle.numbers.specs.declared.Refusal.{Refusal}
use Rattle.numbers.specs.Refusals.{number_of}
use Rattle.pi.specs.Table.{S}
use Rattle.pi.specs.Field.{only, double}
use Rattle.pi.specs.Permutation.{state_by, shift, mix}
use Rattle.sponge.specs.Blink.{pad_close}
use Rattle.writer.specs.declared.Reply.{Reply}
use Rattle.writer.specs.declared.Reply.TheVariants.{Plain, Warned}
use Rattle.writer.specs.Items.{Item, rec, fmark, blocks_for}
use Rattle.writer.specs.Writing.{Done, write}

pub record Case : Type 0 where
  pub found : List ℕ
  pub said : List ℕ

unfoldable pub one_then_zeros : List ℕ
one_then_zeros = state_by (λ k. only (1 - k) 1)

-- the state whose byte at k is k
unfoldable pub numbered : List ℕ
numbered = state_by (λ k. k)

-- a zero state that is closed after n bytes
unfoldable pub closed_state : ℕ → ℕ → List ℕ
closed_state domain n = pad_close domain n (replicate 64 0)

-- a record of n zeros
abbrev pub zeros : ℕ → Item
zeros n = rec (replicate n 0)

-- an item at block p of a recording with c = 16 and e = 4
unfoldable pub item_at : ℕ → Item → Done
item_at p i =
    write (record { id = 0; recording = 0; capacity = 16; zone = 4; position = p; closed = false; marks = 0 }) (replicate 24 0) (replicate 8192 0) i

-- 1 where the answer warns
abbrev pub warning : Result Reply Refusal → ℕ
warning (Ok Plain) = 0
warning (Ok Warned) = 1
warning (Err e) = 0

-- where an item at p ends, and whether it is warned
unfoldable pub ends_at : ℕ → Item → List ℕ
ends_at p i = (item_at p i).state.position ∷ warning (item_at p i).reply ∷ []

unfoldable pub cases : List Case
cases =
    -- P1 substitution of 00
    record { found = S 0x00 ∷ []; said = 0x18 ∷ [] } ∷
    -- P2 of 01
    record { found = S 0x01 ∷ []; said = 0x23 ∷ [] } ∷
    -- P3 of 80
    record { found = S 0x80 ∷ []; said = 0x97 ∷ [] } ∷
    -- P4 doubling of 80
    record { found = double 0x80 ∷ []; said = 0x1D ∷ [] } ∷
    -- P5 shift moves byte 9 to 17
    record { found = get_or (shift numbered) 17 0 ∷ []; said = 9 ∷ [] } ∷
    -- P6 and byte 63 to 55
    record { found = get_or (shift numbered) 55 0 ∷ []; said = 63 ∷ [] } ∷
    -- P7 mix of 01 and seven zeros
    record { found = take 8 (mix one_then_zeros); said = 0x01 ∷ 0x01 ∷ 0x04 ∷ 0x01 ∷ 0x08 ∷ 0x05 ∷ 0x02 ∷ 0x09 ∷ [] } ∷
    -- P8 closing a 24-byte key: bytes 24 and 32
    record { found = get_or (closed_state 0x10 24) 24 0 ∷ get_or (closed_state 0x10 24) 32 0 ∷ []; said = 0x01 ∷ 0x12 ∷ [] } ∷
    -- P9 closing 32 bytes of associated data: byte 32
    record { found = get_or (closed_state 0x40 32) 32 0 ∷ []; said = 0x43 ∷ [] } ∷
    -- P10 lengths: their blocks
    record { found = blocks_for 488 ∷ blocks_for 489 ∷ blocks_for 31232 ∷ []; said = 1 ∷ 2 ∷ 64 ∷ [] } ∷
    -- P11 a record that ends at 12 is not warned
    record { found = ends_at 11 (zeros 1); said = 12 ∷ 0 ∷ [] } ∷
    -- one that ends at 13 is
    record { found = ends_at 12 (zeros 1); said = 13 ∷ 1 ∷ [] } ∷
    -- a mark that ends at 12 is not warned
    record { found = ends_at 11 fmark; said = 12 ∷ 0 ∷ [] } ∷
    -- one that ends at 13 is
    record { found = ends_at 12 fmark; said = 13 ∷ 1 ∷ [] } ∷
    -- P12 two blocks at 13 are taken, at 14 refused 5
    record { found = number_of (item_at 13 (zeros 489)).reply ∷ number_of (item_at 14 (zeros 489)).reply ∷ []; said = 0 ∷ 5 ∷ [] } ∷
    []
