-- The writer's state and answer as numbers.
use Rattle.std.specs.Prelude.{◌≡◌, List, ℕ, eqb, leb, Result, Ok, Err}
use Rattle.numbers.specs.declared.Refusal.{Refusal}
use Rattle.numbers.specs.declared.Refusal.TheVariants as refusal
use Rattle.numbers.specs.Refusals.{number_of}
use Rattle.laws.specs.Choose.{pick}
use Rattle.block.specs.Content.{flag}
use Rattle.block.specs.Image.{image_then_key}
use Rattle.writer.specs.declared.WriterState.{WriterState}
use Rattle.writer.specs.declared.Reply.{Reply}
use Rattle.writer.specs.declared.Reply.TheVariants.{Plain, Warned}
use Rattle.writer.specs.declared.Wrote.{Wrote}
use Rattle.writer.specs.Writing.{Done, wrote_of}
use Rattle.notchbadger.specs.declared.writing.NbState.{NbState}
use Rattle.notchbadger.specs.declared.writing.NbWrote.{NbWrote}

-- 0 plain, 1 warned, 2 refused
abbrev pub reply_code : Result Reply Refusal → ℕ
reply_code (Ok Plain) = 0
reply_code (Ok Warned) = 1
reply_code (Err e) = 2

-- the fields of a state, out and in; its closed flag is 0 or 1
abbrev pub flat_state : WriterState → NbState
flat_state w =
    record {
      id = w.id;
      recording = w.recording;
      capacity = w.capacity;
      zone = w.zone;
      position = w.position;
      closed = flag w.closed;
      marks = w.marks;
    }

abbrev pub state_of : NbState → WriterState
state_of s =
    record {
      id = s.id;
      recording = s.recording;
      capacity = s.capacity;
      zone = s.zone;
      position = s.position;
      closed = eqb s.closed 1;
      marks = s.marks;
    }

-- a state as it came in: the writer's where its flag is 0 or 1
abbrev pub came_in : NbState → Result WriterState Refusal
came_in s = pick (leb s.closed 1) (Ok (state_of s)) (Err refusal.Unlawful)

abbrev pub flat_wrote : Wrote → NbWrote
flat_wrote w = record { state = flat_state w.state; reply = reply_code w.reply; number = number_of w.reply }

-- any other flag is an unlawful state: 8, behind 1 and 2, and the state comes back as it was given
unfoldable pub flag_number : List ℕ → List ℕ → ℕ
flag_number key image = image_then_key key image 8

abbrev pub sent_back : NbState → ℕ → NbWrote
sent_back s n = record { state = s; reply = 2; number = n }

-- what a call on a state promises, where d is what the writer does
pub record FlatDid (s : NbState) (key image : List ℕ) (d : Done) (r : NbWrote) (image' : List ℕ) : Type 0 where
  pub says : r ≡ pick (leb s.closed 1) (flat_wrote (wrote_of d)) (sent_back s (flag_number key image))
  pub leaves : image' ≡ pick (leb s.closed 1) d.image image

pub record FlatStarted (d : Done) (r : NbWrote) (image' : List ℕ) : Type 0 where
  pub says : r ≡ flat_wrote (wrote_of d)
  pub leaves : image' ≡ d.image
