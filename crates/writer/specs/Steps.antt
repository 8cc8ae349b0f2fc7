-- Cited by private contracts alone: what is handed back of a state and an answer, and what a started recording is.
use Rattle.std.specs.Prelude.{Result, Ok, Err}
use Rattle.numbers.specs.declared.Refusal.{Refusal}
use Rattle.writer.specs.declared.WriterState.{WriterState}
use Rattle.writer.specs.declared.Reply.{Reply}
use Rattle.writer.specs.declared.Reply.TheVariants.{Plain}
use Rattle.writer.specs.declared.Wrote.{Wrote}
use Rattle.writer.specs.Writing.{refused_state}

abbrev pub handed : WriterState → Result Reply Refusal → Wrote
handed s r = record { state = s; reply = r }

-- a start: the first state, or the one that is lawful for no image
abbrev pub begun : Result WriterState Refusal → Wrote
begun (Ok s) = handed s (Ok Plain)
begun (Err e) = handed refused_state (Err e)
