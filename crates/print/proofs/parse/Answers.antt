-- `print::parse` meets its contract. The loop's invariant: what is left, behind what is spelled so far, gives the
-- whole.
-- Assumes nothing.
use Rattle.std.proofs.Common.{◌≡◌, ◌∙◌, ℕ, ◌+◌, ◌≤◌, ◌<◌, List, length, get_or, drop, Result, add-one, drop-cons, drop_of_length-le, rules, arith}
use Rattle.print.specs.declared.NotANumber.{NotANumber}
use Rattle.print.specs.Parsing.{spelled_with, spelled_on, spelled}
use Rattle.print.proofs.parse.Goals as goal

on_next : (most : ℕ) (x y : Result ℕ NotANumber) (text : List ℕ) (i : ℕ) → i < length text → y ≡ spelled_with most x (get_or text i 0)
    → spelled_on most y (drop (i + 1) text) ≡ spelled_on most x (drop i text)
unfolding spelled_on
on_next most x y text i h e = rw (e, add-one, drop-cons text i 0 h)

on_none : (most : ℕ) (x : Result ℕ NotANumber) (text : List ℕ) (i : ℕ) → length text ≤ i → spelled_on most x (drop i text) ≡ x
unfolding spelled_on
on_none most x text i h = rw (drop_of_length-le text {i = i} h)

pub returns-then-is_empty-clause-says : goal.returns-then-is_empty-clause-says
unfolding spelled
returns-then-is_empty-clause-says c = search rules

pub loop-c-preserved : goal.loop-c-preserved
loop-c-preserved c =
    record {
      within = c.longer-spelled.ensures.within;
      whole = on_next c.args.most _ _ c.args.text.now c.loop-c.c-index (omega arith) c.longer-spelled.ensures.says ∙ c.loop-c.invariant.whole;
    }

pub returns-clause-says : goal.returns-clause-says
unfolding spelled
returns-clause-says c = let e = on_none c.args.most c.loop-c.spelled c.args.text.now c.loop-c.c-index (omega arith) in search rules
