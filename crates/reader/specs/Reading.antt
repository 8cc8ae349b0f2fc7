-- What the reader's calls promise (FORMAT, "Reading"; NUMBERS).
use Rattle.std.specs.Prelude.{◌≡◌, List, [], ◌++◌, ℕ, ◌-◌, ◌*◌, eqb, leb, ltb, length, take, replicate, Ok, Err}
use Rattle.laws.specs.Choose.{pick, first_of}
use Rattle.laws.specs.Lists.{splice}
use Rattle.numbers.specs.Refusals.{number_of, cause_of}
use Rattle.block.specs.Image.{capacity_of, image_ok, image_then_key, block_at, view}
use Rattle.reader.specs.declared.Outcome.{Outcome}
use Rattle.reader.specs.declared.Outcome.TheVariants as o
use Rattle.reader.specs.declared.Got.{Got}
use Rattle.reader.specs.Walk.{Told, Record, Mark, End, Bad, Stray, Cut, Answer, read_at}

-- ---- an outcome as the code says it
abbrev pub outcome_of : Told → Outcome
outcome_of (Record b) = o.Record (length b)
outcome_of Mark = o.Mark
outcome_of End = o.End
outcome_of Bad = o.Bad
outcome_of Stray = o.Stray
outcome_of (Cut q) = o.Cut q

-- its value: a record's length, a cut's place
abbrev pub outcome_value : Outcome → ℕ
outcome_value (o.Record n) = n
outcome_value o.Mark = 0
outcome_value o.End = 0
outcome_value o.Bad = 0
outcome_value o.Stray = 0
outcome_value (o.Cut q) = q

-- the bytes handed out: a record's
abbrev pub record_of : Told → List ℕ
record_of (Record b) = b
record_of Mark = []
record_of End = []
record_of Bad = []
record_of Stray = []
record_of (Cut q) = []

-- ---- read: 1 the image, 2 the key or a buffer under 31,232, 8 the position
unfoldable pub read_number : List ℕ → List ℕ → ℕ → ℕ → ℕ
read_number key image p room = image_then_key key image (first_of (leb 31232 room) 2 (first_of (ltb p (capacity_of image)) 8 0))

unfoldable pub read_answer : List ℕ → ℕ → ℕ → List ℕ → ℕ → Answer
read_answer key id recording image p = read_at (view key id recording image) (capacity_of image) p

abbrev pub got_of : Answer → Got
got_of a = record { outcome = Ok (outcome_of a.told); next = a.next }

-- a record fills the front, the rest of the first 31,232 bytes is zero; bytes past them stay
unfoldable pub filled : Told → List ℕ
filled t = record_of t ++ replicate (31232 - length (record_of t)) 0

-- the answer, and what stands in the buffer
abbrev pub read_gives : List ℕ → ℕ → ℕ → List ℕ → ℕ → ℕ → Got
read_gives key id recording image p room =
    pick (eqb (read_number key image p room) 0) (got_of (read_answer key id recording image p))
    (record { outcome = Err (cause_of (read_number key image p room)); next = p })

abbrev pub read_leaves : List ℕ → ℕ → ℕ → List ℕ → ℕ → List ℕ → List ℕ
read_leaves key id recording image p buffer =
    pick (eqb (read_number key image p (length buffer)) 0) (splice buffer 0 (filled (read_answer key id recording image p).told)) buffer

pub record Read (key : List ℕ) (id recording : ℕ) (image : List ℕ) (p : ℕ) (buffer : List ℕ) (r : Got) (buffer' : List ℕ) : Type 0 where
  pub says : r ≡ read_gives key id recording image p (length buffer)
  pub number : number_of r.outcome ≡ read_number key image p (length buffer)
  pub leaves : buffer' ≡ read_leaves key id recording image p buffer

-- ---- the record's part: the front part of the lent buffer; a length beyond it gives the empty part
unfoldable pub part_of : List ℕ → ℕ → List ℕ
part_of buffer n = pick (leb n (length buffer)) (take n buffer) []

-- ---- the raw look: 1 the image, 8 the position
unfoldable pub look_number : List ℕ → ℕ → ℕ
look_number image p = first_of (image_ok image) 1 (first_of (ltb p (capacity_of image)) 8 0)

unfoldable pub look_part : List ℕ → ℕ → List ℕ
look_part image p = pick (eqb (look_number image p) 0) (block_at image p) []

-- where that part starts in the image
unfoldable pub look_place : List ℕ → ℕ → ℕ
look_place image p = pick (eqb (look_number image p) 0) (512 * p) 0
