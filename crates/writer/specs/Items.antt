-- Records and file marks, and the blocks that each takes (FORMAT, "The cartridge image" and "Writing").
use Rattle.std.specs.Prelude.{Bool, true, false, List, [], ◌∷◌, ◌++◌, ℕ, zero, suc, ◌+◌, ◌*◌, ◌/◌, eqb, length, take, drop}
use Rattle.block.specs.Content.{Content, more, head, first, mark}

pub data Item : Type 0 where
  rec : List ℕ → Item
  fmark : Item

-- ---- the blocks of an item: ⌈length/488⌉ for a record, one for a mark
unfoldable pub blocks_for : ℕ → ℕ
blocks_for n = (n + 487) / 488

abbrev pub size : Item → ℕ
size (rec b) = blocks_for (length b)
size fmark = 1

-- k payloads, 488 bytes each but the last
unfoldable pub pieces : ℕ → List ℕ → List (List ℕ)
pieces zero b = []
pieces (suc k) b = take 488 b ∷ pieces k (drop 488 b)

abbrev pub is_nil : List (List ℕ) → Bool
is_nil [] = true
is_nil (x ∷ xs) = false

-- byte 5 is set where no payload follows
unfoldable pub following : List (List ℕ) → List Content
following [] = []
following (x ∷ xs) = more (is_nil xs) x ∷ following xs

unfoldable pub recorded : List (List ℕ) → List Content
recorded [] = []
recorded (x ∷ xs) = head (first (is_nil xs) x) ∷ following xs

abbrev pub blocks : Item → List Content
blocks (rec b) = recorded (pieces (blocks_for (length b)) b)
blocks fmark = head mark ∷ []

-- ---- items one behind another: their blocks, and how many there are
abbrev pub layout : List Item → List Content
layout [] = []
layout (i ∷ is) = blocks i ++ layout is

abbrev pub sizes : List Item → ℕ
sizes [] = 0
sizes (i ∷ is) = size i + sizes is

-- ---- the file marks among them
abbrev pub file_marks : Item → ℕ
file_marks (rec b) = 0
file_marks fmark = 1

abbrev pub file_marks_in : List Item → ℕ
file_marks_in [] = 0
file_marks_in (i ∷ is) = file_marks i + file_marks_in is

-- ---- a record's first block, or a following one
abbrev pub piece : Bool → Bool → List ℕ → Content
piece true last b = head (first last b)
piece false last b = more last b

-- what stands at i among the k blocks of a record
unfoldable pub piece_at : List ℕ → ℕ → ℕ → Content
piece_at b k i = piece (eqb i 0) (eqb (suc i) k) (take 488 (drop (488 * i) b))
