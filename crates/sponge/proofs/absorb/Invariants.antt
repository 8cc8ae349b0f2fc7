-- `sponge::absorb` meets its contract. The invariant of its loop: the groups so far are met, and the others are left.
-- Assumes nothing.
use mathlib.Core.Path.{◌≡◌}
use mathlib.Core.List.{◌++◌}
use Prim.Native.Nat.{◌+◌, ◌*◌}
use lib.ListN.{length, drop}
use Rattle.sponge.specs.Blink.{put, met}
use Rattle.sponge.proofs.absorb.Given as goal

abbrev pub invariant-loop-group : goal.invariant-loop-group
invariant-loop-group l = record {
  size : l.group-iterator.size ≡ 32;
  state : l.state ≡ met put l.domain l.initial.state l.bytes (length l.yielded);
  left : drop (length l.yielded * 32) l.bytes ≡ l.group-iterator.rest.now ++ drop l.at l.bytes;
  count : length l.yielded * 32 + length l.group-iterator.rest.now ≡ l.at;
}
