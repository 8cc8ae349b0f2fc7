-- The answers of the reader as numbers.
use Rattle.std.specs.Prelude.{◌≡◌, List, ℕ, length, Result, Ok, Err}
use Rattle.numbers.specs.declared.Refusal.{Refusal}
use Rattle.numbers.specs.Refusals.{number_of}
use Rattle.reader.specs.declared.Outcome.{Outcome}
use Rattle.reader.specs.declared.Outcome.TheVariants as o
use Rattle.reader.specs.declared.Got.{Got}
use Rattle.reader.specs.Reading.{outcome_value, read_gives, read_leaves, part_of, look_part, look_place}
use Rattle.notchbadger.specs.declared.reading.NbGot.{NbGot}
use Rattle.notchbadger.specs.declared.reading.NbPart.{NbPart}

-- 0 record, 1 mark, 2 end, 3 bad, 4 stray, 5 cut, 6 refused
abbrev pub outcome_code : Result Outcome Refusal → ℕ
outcome_code (Ok (o.Record n)) = 0
outcome_code (Ok o.Mark) = 1
outcome_code (Ok o.End) = 2
outcome_code (Ok o.Bad) = 3
outcome_code (Ok o.Stray) = 4
outcome_code (Ok (o.Cut q)) = 5
outcome_code (Err e) = 6

-- its value, 0 where the read was refused
abbrev pub outcome_data : Result Outcome Refusal → ℕ
outcome_data (Ok x) = outcome_value x
outcome_data (Err e) = 0

abbrev pub flat_got : Got → NbGot
flat_got g =
    record {
      outcome = outcome_code g.outcome;
      number = number_of g.outcome;
      «data» = outcome_data g.outcome;
      next = g.next;
    }

pub record FlatRead (key : List ℕ) (id recording : ℕ) (image : List ℕ) (p : ℕ) (buffer : List ℕ)
    (r : NbGot) (buffer' : List ℕ) : Type 0 where
  pub says : r ≡ flat_got (read_gives key id recording image p (length buffer))
  pub leaves : buffer' ≡ read_leaves key id recording image p buffer

-- a part of a lent buffer, as its place there and its length
abbrev pub record_place : List ℕ → ℕ → NbPart
record_place buffer n = record { offset = 0; length = length (part_of buffer n) }

abbrev pub looked_at : List ℕ → ℕ → NbPart
looked_at image p = record { offset = look_place image p; length = length (look_part image p) }
