-- A run as calls of the library: each is given what the last one left. And a walk as calls of `read`, each at the next
-- of the one before and with the buffer that it left, up to End or the end of the image.
use Rattle.std.specs.Prelude.{◌≡◌, List, [], ◌∷◌, ◌++◌, ℕ, ◌≤◌, ◌<◌, Result, Ok, Err}
use Rattle.numbers.specs.declared.Refusal.{Refusal}
use Rattle.block.specs.Image.{capacity_of}
use Rattle.writer.specs.declared.WriterState.{WriterState}
use Rattle.writer.specs.declared.Wrote.{Wrote}
use Rattle.writer.specs.Items.{Item, rec, fmark}
use Rattle.writer.specs.Writing.{Did}
use Rattle.reader.specs.declared.Outcome.{Outcome}
use Rattle.reader.specs.declared.Outcome.TheVariants as o
use Rattle.reader.specs.declared.Got.{Got}
use Rattle.reader.specs.Reading.{Read, part_of}
use Rattle.cartridge.specs.Chain.{Call, call, took}
use Rattle.cartridge.specs.Handed.{Handed, hand}

-- ---- writing: the answers ws of the calls xs from a state and an image, and the state and image at the end
pub data Writes (key : List ℕ) : WriterState → List ℕ → List Call → List Wrote → WriterState → List ℕ → Type 0 where
  last : {s : WriterState} {image : List ℕ} → Writes key s image [] [] s image
  next : {s s'' : WriterState} {image image' image'' : List ℕ} {x : Call} {xs : List Call} {w : Wrote} {ws : List Wrote}
      → Did (call key s image x) w image' → Writes key w.state image' xs ws s'' image'' → Writes key s image (x ∷ xs) (w ∷ ws) s'' image''

-- the items that the answers say were taken
abbrev pub taken_by : List Call → List Wrote → List Item
taken_by [] ws = []
taken_by (x ∷ xs) [] = []
taken_by (x ∷ xs) (w ∷ ws) = took w.reply x ++ taken_by xs ws

-- ---- reading: a call at p, its answer, and what it left in the buffer
pub record Step : Type 0 where
  pub at : ℕ
  pub got : Got
  pub left : List ℕ

abbrev pub step : ℕ → Got → List ℕ → Step
step p g b = record { at = p; got = g; left = b }

pub data Reads (key : List ℕ) (id recording : ℕ) (image : List ℕ) : ℕ → List ℕ → List Step → Type 0 where
  over : {p : ℕ} {b : List ℕ} → capacity_of image ≤ p → Reads key id recording image p b []
  stop : {p : ℕ} {b b' : List ℕ} {g : Got} → p < capacity_of image → Read key id recording image p b g b' → g.outcome ≡ Ok o.End
      → Reads key id recording image p b (step p g b' ∷ [])
  goes : {p : ℕ} {b b' : List ℕ} {g : Got} {xs : List Step} → p < capacity_of image → Read key id recording image p b g b'
      → (g.outcome ≡ Ok o.End → ⊥) → Reads key id recording image g.next b' xs → Reads key id recording image p b (step p g b' ∷ xs)

-- what the caller has in hand: a mark, or the record's part of the buffer
abbrev pub in_hand : ℕ → Result Outcome Refusal → List ℕ → List Handed
in_hand p (Ok (o.Record n)) b = hand p (rec (part_of b n)) ∷ []
in_hand p (Ok o.Mark) b = hand p fmark ∷ []
in_hand p (Ok o.End) b = []
in_hand p (Ok o.Bad) b = []
in_hand p (Ok o.Stray) b = []
in_hand p (Ok (o.Cut q)) b = []
in_hand p (Err e) b = []

abbrev pub all_in_hand : List Step → List Handed
all_in_hand [] = []
all_in_hand (x ∷ xs) = in_hand x.at x.got.outcome x.left ++ all_in_hand xs
