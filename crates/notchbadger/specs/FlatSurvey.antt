-- The answers of spacing and of the report as numbers.
use Rattle.std.specs.Prelude.{ℕ, Result, Ok, Err}
use Rattle.numbers.specs.declared.Refusal.{Refusal}
use Rattle.numbers.specs.Refusals.{number_of}
use Rattle.survey.specs.Report.{counts_of}
use Rattle.survey.specs.declared.Reach.{Reach}
use Rattle.survey.specs.declared.Reach.TheVariants as reach
use Rattle.survey.specs.declared.Spaced.{Spaced}
use Rattle.survey.specs.declared.Tally.{Tally}
use Rattle.notchbadger.specs.declared.surveying.NbSpaced.{NbSpaced}
use Rattle.notchbadger.specs.declared.surveying.NbTally.{NbTally}

-- 0 at, 1 short, 2 refused
abbrev pub spaced_code : Result Reach Refusal → ℕ
spaced_code (Ok reach.There) = 0
spaced_code (Ok (reach.Short m)) = 1
spaced_code (Err e) = 2

-- the marks passed, where it fell short
abbrev pub spaced_marks : Result Reach Refusal → ℕ
spaced_marks (Ok reach.There) = 0
spaced_marks (Ok (reach.Short m)) = m
spaced_marks (Err e) = 0

abbrev pub flat_spaced : Spaced → NbSpaced
flat_spaced x = record { kind = spaced_code x.reach; number = number_of x.reach; position = x.position; marks = spaced_marks x.reach }

-- refused, all counts are zero
abbrev pub flat_tally : Result Tally Refusal → NbTally
flat_tally r =
    let t = counts_of r in
    record {
      number = number_of r;
      records = t.records;
      marks = t.marks;
      ends = t.ends;
      bads = t.bads;
      strays = t.strays;
      cuts = t.cuts;
    }
