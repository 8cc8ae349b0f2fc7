-- `reader::read_rest` meets its contract: a turn for each block, and an answer for each way to leave.
-- Assumes nothing.
use mathlib.Core.Path.{◌≡◌}
use Prim.Native.Nat.{◌-◌, ◌*◌}
use lib.ListN.{take, drop}
use Rattle.reader.specs.Walk.{gather}
use Rattle.reader.specs.Steps.{shown, rest_answer}
use Rattle.reader.proofs.read_rest.Given as goal

abbrev pub invariant-loop-q : goal.invariant-loop-q
invariant-loop-q l = record {
  back : drop 31232 l.buffer ≡ drop 31232 l.initial.buffer;
  left : gather (l.end - l.q) (shown l.cartridge) l.q (take ((l.q - l.p) * 488) l.buffer) ≡ rest_answer l.cartridge l.p l.initial.buffer;
}
