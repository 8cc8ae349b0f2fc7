-- The writer (FORMAT, "Writing"; NUMBERS): a state and an image go in, a state, an answer and an image come out.
use Rattle.std.specs.Prelude.{◌≡◌, Bool, true, false, not, ◌&&◌, List, [], ◌∷◌, ℕ, zero, suc, ◌+◌, ◌-◌, eqb, leb, ltb, length, replicate, Result, Ok, Err}
use Rattle.laws.specs.Choose.{pick, first_of}
use Rattle.numbers.specs.declared.Refusal.{Refusal}
use Rattle.numbers.specs.Refusals.{number_of, cause_of}
use Rattle.block.specs.Content.{head, eod}
use Rattle.block.specs.Image.{capacity_of, image_ok, image_then_key, lay}
use Rattle.writer.specs.declared.WriterState.{WriterState}
use Rattle.writer.specs.declared.Reply.{Reply}
use Rattle.writer.specs.declared.Reply.TheVariants.{Plain, Warned}
use Rattle.writer.specs.declared.Wrote.{Wrote}
use Rattle.writer.specs.Items.{Item, rec, fmark, size, blocks, file_marks}

-- ---- what is asked of a zone and a state
-- 1 to c - 1
unfoldable pub zone_ok : ℕ → ℕ → Bool
zone_ok c e = leb 1 e && ltb e c

-- p ≤ c - 1 while open, 1 ≤ p ≤ c when closed
unfoldable pub place_ok : WriterState → Bool
place_ok s = pick s.closed (leb 1 s.position && leb s.position s.capacity) (ltb s.position s.capacity)

-- a mark takes a block, so there are no more of them than blocks before p
unfoldable pub marks_ok : WriterState → Bool
marks_ok s = leb s.marks s.position

-- for an image of c blocks
unfoldable pub lawful : WriterState → ℕ → Bool
lawful s c = eqb s.capacity c && (zone_ok s.capacity s.zone && (marks_ok s && place_ok s))

-- a record has 1 to 31,232 bytes
abbrev pub length_ok : Item → Bool
length_ok (rec b) = leb 1 (length b) && leb (length b) 31232
length_ok fmark = true

-- k blocks at p leave the last of c blocks free: p + k ≤ c - 1
unfoldable pub room : ℕ → ℕ → ℕ → Bool
room c p k = ltb (p + k) c

-- ---- numbers, in the order of NUMBERS
unfoldable pub start_number : List ℕ → ℕ → ℕ
start_number image e = first_of (image_ok image) 1 (first_of (zone_ok (capacity_of image) e) 3 0)

-- what every call on a state asks first
unfoldable pub call_number : WriterState → List ℕ → List ℕ → ℕ → ℕ
call_number s key image rest = image_then_key key image (first_of (lawful s (capacity_of image)) 8 (first_of (not s.closed) 6 rest))

unfoldable pub item_number : WriterState → List ℕ → List ℕ → Item → ℕ
item_number s key image i = call_number s key image (first_of (length_ok i) 4 (first_of (room s.capacity s.position (size i)) 5 0))

unfoldable pub close_number : WriterState → List ℕ → List ℕ → ℕ
close_number s key image = call_number s key image 0

-- ---- what a call gives: the next state, the answer and its number, and the image that it leaves
pub record Done : Type 0 where
  pub state : WriterState
  pub reply : Result Reply Refusal
  pub number : ℕ
  pub image : List ℕ

-- refused by the number n, which is not 0
abbrev pub stay : WriterState → List ℕ → ℕ → Done
stay s image n = record { state = s; reply = Err (cause_of n); number = n; image = image }

-- d where no cause refuses; else s and the image stay
abbrev pub judged : Done → WriterState → List ℕ → ℕ → Done
judged d s image zero = d
judged d s image (suc n) = stay s image (suc n)

-- at p, with n file marks before it
abbrev pub moved : WriterState → ℕ → Bool → ℕ → WriterState
moved s p shut n =
    record { id = s.id; recording = s.recording; capacity = s.capacity; zone = s.zone; position = p; closed = shut; marks = n }

-- what was written up to p is warned in the zone, above c - e
abbrev pub answer_at : WriterState → ℕ → Reply
answer_at s p = pick (ltb (s.capacity - s.zone) p) Warned Plain

-- an accepted item, record or mark, is warned by the position after it
abbrev pub warns : WriterState → Item → Reply
warns s i = answer_at s (s.position + size i)

-- the state of a refused start: lawful for no image
abbrev pub refused_state : WriterState
refused_state = record { id = 0; recording = 0; capacity = 0; zone = 0; position = 0; closed = true; marks = 0 }

abbrev pub started : ℕ → ℕ → ℕ → List ℕ → Done
started id recording e image =
    record {
      state = record { id = id; recording = recording; capacity = capacity_of image; zone = e; position = 0; closed = false; marks = 0 };
      reply = Ok Plain;
      number = 0;
      image = replicate (length image) 0;
    }

abbrev pub taken : WriterState → List ℕ → List ℕ → Item → Done
taken s key image i =
    record {
      state = moved s (s.position + size i) false (s.marks + file_marks i);
      reply = Ok (warns s i);
      number = 0;
      image = lay key s.id s.recording image s.position (blocks i);
    }

abbrev pub ended : WriterState → List ℕ → List ℕ → Done
ended s key image =
    record {
      state = moved s (s.position + 1) true s.marks;
      reply = Ok Plain;  -- a closing is never warned
      number = 0;
      image = lay key s.id s.recording image s.position (head eod ∷ []);
    }

unfoldable pub start : ℕ → ℕ → ℕ → List ℕ → Done
start id recording e image = judged (started id recording e image) refused_state image (start_number image e)

-- a record or a mark; and a closing
unfoldable pub write : WriterState → List ℕ → List ℕ → Item → Done
write s key image i = judged (taken s key image i) s image (item_number s key image i)

unfoldable pub close : WriterState → List ℕ → List ℕ → Done
close s key image = judged (ended s key image) s image (close_number s key image)

-- ---- what a call promises
abbrev pub wrote_of : Done → Wrote
wrote_of d = record { state = d.state; reply = d.reply }

pub record Did (d : Done) (r : Wrote) (image' : List ℕ) : Type 0 where
  pub says : r ≡ wrote_of d
  pub number : number_of r.reply ≡ d.number
  pub leaves : image' ≡ d.image
