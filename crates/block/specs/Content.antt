-- What opens at a place (FORMAT, "The cartridge image"): nothing; a record's following block, with byte 5 and the
-- bytes used; or a block at which something begins: a record's first block, a file mark, end of data.
use Rattle.std.specs.Prelude.{◌≡◌, Bool, true, false, List, [], ℕ, ◌≤◌, length}
use Rattle.laws.specs.Lists.{AllBytes}

pub data Head : Type 0 where
  first : Bool → List ℕ → Head
  mark eod : Head

pub data Content : Type 0 where
  shut : Content
  more : Bool → List ℕ → Content
  head : Head → Content

-- it does not open
abbrev pub Shut : Content → Type 0
Shut shut = Unit {0}
Shut (more l b) = ⊥
Shut (head h) = ⊥

-- ---- lawful
-- 488 bytes are used where the record goes on, 1 to 488 in its last block
abbrev pub Used : Bool → List ℕ → Type 0
Used false b = AllBytes b × (length b ≡ 488)
Used true b = AllBytes b × (1 ≤ length b) × (length b ≤ 488)

-- at block p
abbrev pub Lawful : ℕ → Content → Type 0
Lawful p shut = ⊥
Lawful p (more l b) = Used l b
Lawful p (head (first l b)) = Used l b
Lawful p (head mark) = Unit {0}
Lawful p (head eod) = Unit {0}

-- ---- the fields of its header
abbrev pub flag : Bool → ℕ
flag true = 1
flag false = 0

abbrev pub kind_of : Content → ℕ
kind_of shut = 0
kind_of (head (first l b)) = 1
kind_of (more l b) = 2
kind_of (head mark) = 3
kind_of (head eod) = 4

abbrev pub last_of : Content → ℕ
last_of shut = 0
last_of (head (first l b)) = flag l
last_of (more l b) = flag l
last_of (head mark) = 0
last_of (head eod) = 0

abbrev pub bytes_of : Content → List ℕ
bytes_of shut = []
bytes_of (head (first l b)) = b
bytes_of (more l b) = b
bytes_of (head mark) = []
bytes_of (head eod) = []
