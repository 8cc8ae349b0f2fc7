-- `print::parse` meets its contract. The loop's invariant: what is left, behind what is spelled so far, gives the
-- whole.
-- Assumes nothing.
use Rattle.std.proofs.Common.{◌≡◌, drop, Ok}
use Rattle.print.specs.Parsing.{spelled_on, Within}
use Rattle.print.proofs.parse.Given as goal

abbrev pub invariant-loop-c : goal.invariant-loop-c
invariant-loop-c l = record {
  within : Within l.most l.spelled;
  whole : spelled_on l.most l.spelled (drop l.c-index l.text) ≡ spelled_on l.most (Ok 0) l.text;
}
