-- A chain: any list of calls, each given the state and image that the last one left; what was accepted is read off the
-- replies. A run is a start and a chain behind it.
use Rattle.std.specs.Prelude.{◌≡◌, List, [], ◌∷◌, ◌++◌, ℕ, Result, Ok, Err}
use Rattle.numbers.specs.declared.Refusal.{Refusal}
use Rattle.laws.specs.Lists.{AllBytes}
use Rattle.block.specs.Image.{View, view}
use Rattle.writer.specs.declared.WriterState.{WriterState}
use Rattle.writer.specs.declared.Reply.{Reply}
use Rattle.writer.specs.declared.Reply.TheVariants.{Plain}
use Rattle.writer.specs.Items.{Item, rec, fmark}
use Rattle.writer.specs.Writing.{Done, start, write, close}

pub data Call : Type 0 where
  item : Item → Call
  closing : Call

-- what a call does
abbrev pub call : List ℕ → WriterState → List ℕ → Call → Done
call key s image (item i) = write s key image i
call key s image closing = close s key image

-- the items that a reply says were taken
abbrev pub took : Result Reply Refusal → Call → List Item
took (Ok r) (item i) = i ∷ []
took (Ok r) closing = []
took (Err e) x = []

-- the state and the image at the end of a chain
abbrev pub chain : List ℕ → WriterState → List ℕ → List Call → Done
chain key s image [] = record { state = s; reply = Ok Plain; number = 0; image = image }
chain key s image (x ∷ xs) = chain key (call key s image x).state (call key s image x).image xs

-- and the items that were accepted on the way
abbrev pub accepted : List ℕ → WriterState → List ℕ → List Call → List Item
accepted key s image [] = []
accepted key s image (x ∷ xs) = took (call key s image x).reply x ++ accepted key (call key s image x).state (call key s image x).image xs

-- records are of bytes
abbrev pub ItemBytes : Item → Type 0
ItemBytes (rec b) = AllBytes b
ItemBytes fmark = Unit {0}

abbrev pub CallBytes : Call → Type 0
CallBytes (item i) = ItemBytes i
CallBytes closing = Unit {0}

abbrev pub AllCallBytes : List Call → Type 0
AllCallBytes [] = Unit {0}
AllCallBytes (x ∷ xs) = CallBytes x × AllCallBytes xs

-- ---- a run. What its start is given, with the key that its calls are given
pub record Setup : Type 0 where
  pub key : List ℕ
  pub id : ℕ
  pub recording : ℕ
  pub zone : ℕ
  pub fresh : List ℕ

pub record Run : Type 0 where
  pub setup : Setup
  pub calls : List Call

-- what the start gives
abbrev pub begun : Setup → Done
begun a = start a.id a.recording a.zone a.fresh

-- what all of it leaves, and the items that were accepted
abbrev pub left : Run → Done
left r = chain r.setup.key (begun r.setup).state (begun r.setup).image r.calls

abbrev pub items : Run → List Item
items r = accepted r.setup.key (begun r.setup).state (begun r.setup).image r.calls

-- what its key shows of an image
abbrev pub shown : Setup → List ℕ → View
shown a image = view a.key a.id a.recording image

-- the start was accepted, and records are of bytes
pub record Proper (r : Run) : Type 0 where
  pub starts : (begun r.setup).reply ≡ Ok Plain
  pub bytes : AllCallBytes r.calls
