-- The 512 bytes of a block at its place (FORMAT, "The cartridge image"): numbers big-endian, header 8, payload 488,
-- tag 16.
use Rattle.std.specs.Prelude.{Bool, true, ◌&&◌, List, [], ◌∷◌, ◌++◌, ℕ, ◌+◌, ◌*◌, ◌/◌, ◌%◌, eqb, leb, length, get_or, take, drop, replicate}
use Rattle.laws.specs.Choose.{pick}
use Rattle.aead.specs.Sealing.{sealed, opened, fits}
use Rattle.block.specs.Content.{Content, shut, more, head, first, mark, eod, kind_of, last_of, bytes_of}

-- ---- numbers
abbrev pub be2 : ℕ → List ℕ
be2 x = x / 256 % 256 ∷ x % 256 ∷ []

abbrev pub be4 : ℕ → List ℕ
be4 x = x / 16777216 % 256 ∷ x / 65536 % 256 ∷ x / 256 % 256 ∷ x % 256 ∷ []

abbrev pub be8 : ℕ → List ℕ
be8 x = be4 (x / 4294967296) ++ be4 x

abbrev pub number2 : List ℕ → ℕ → ℕ
number2 b at = get_or b at 0 * 256 + get_or b (at + 1) 0

abbrev pub number4 : List ℕ → ℕ → ℕ
number4 b at = get_or b at 0 * 16777216 + get_or b (at + 1) 0 * 65536 + get_or b (at + 2) 0 * 256 + get_or b (at + 3) 0

-- ---- nonce: cartridge id, recording number, block number
unfoldable pub nonce_at : ℕ → ℕ → ℕ → List ℕ
nonce_at id recording p = be4 id ++ (be8 recording ++ be4 p)

-- ---- header: block number, kind, byte 5, payload bytes used
unfoldable pub header : ℕ → ℕ → ℕ → ℕ → List ℕ
header p kind last used = be4 p ++ (kind ∷ last ∷ be2 used)

-- ---- message: always 488 bytes, unused ones zero
unfoldable pub payload : List ℕ → List ℕ
payload b = take 488 (b ++ replicate 488 0)

-- ---- sealing: the header, then the payload sealed with the header as associated data
unfoldable pub block_of : List ℕ → ℕ → ℕ → ℕ → ℕ → ℕ → List ℕ → List ℕ
block_of key id recording p kind last b =
    header p kind last (length b) ++ sealed key (nonce_at id recording p) (header p kind last (length b)) (payload b)

-- the block that a content seals to at p
unfoldable pub seal_block : List ℕ → ℕ → ℕ → ℕ → Content → List ℕ
seal_block key id recording p o = block_of key id recording p (kind_of o) (last_of o) (bytes_of o)

-- ---- opening
unfoldable pub all_zero : List ℕ → Bool
all_zero [] = true
all_zero (x ∷ xs) = eqb x 0 && all_zero xs

-- all 488 bytes where the record goes on, 1 to 488 in its last block; byte 5 is 0 or 1
unfoldable pub used_ok : ℕ → ℕ → Bool
used_ok last used = pick (eqb last 0) (eqb used 488) (eqb last 1 && (leb 1 used && leb used 488))

-- what a header and a payload are, if they are lawful: unused payload is zero, and marks use none
unfoldable pub content_of : ℕ → ℕ → ℕ → List ℕ → Content
content_of kind last used m =
    pick (all_zero (drop used m))
    (pick (eqb kind 1) (pick (used_ok last used) (head (first (eqb last 1) (take used m))) shut)
    (pick (eqb kind 2) (pick (used_ok last used) (more (eqb last 1) (take used m)) shut)
    (pick (eqb last 0 && eqb used 0) (pick (eqb kind 3) (head mark) (pick (eqb kind 4) (head eod) shut)) shut)))
    shut

-- what opens at p, where the block has the bytes b: its number is p, its tag fits and it is lawful
unfoldable pub open_block : List ℕ → ℕ → ℕ → ℕ → List ℕ → Content
open_block key id recording p b =
    pick (eqb (number4 b 0) p && fits key (nonce_at id recording p) (take 8 b) (drop 8 b))
    (content_of (get_or b 4 0) (get_or b 5 0) (number2 b 6) (opened key (nonce_at id recording p) (take 8 b) (drop 8 b)))
    shut
