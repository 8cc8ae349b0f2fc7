-- `buffer::zero` meets its contract. The invariant of its loop: the first k bytes are zero, the rest stands.
-- Assumes nothing.
use borrow.Author.Fill.{fill_more}
use mathlib.Core.Path.{◌≡◌, ap, ◌∙◌}
use mathlib.Core.List.{List, ◌++◌, append-nil}
use Prim.Native.Nat.{ℕ}
use native.Mathlib.Omega.{arith}
use lib.ListN.{length, drop, set, replicate, length-set}
use lib.Seq.{drop-length}
use Rattle.buffer.proofs.zero.Goals as goal

pub loop-k-preserved : goal.loop-k-preserved
loop-k-preserved c = let l = c.loop-k in
    let o = c.args.out.now in (
      simp length-set (omega arith),
      ap (λ (n : ℕ). set l.out n 0) (omega arith) ∙ ap (λ (q : List ℕ). set q l.k 0) l.invariant.1 ∙ fill_more l.k 0 o (omega arith),
      simp length-set l.invariant.2,
    )

pub returns : goal.returns
returns c = let l = c.loop-k in
    let o = c.args.out.now in
    let n : l.k ≡ length o = omega arith in
    l.invariant.1 ∙ ap (λ (k : ℕ). replicate k 0 ++ drop k o) n ∙ ap (λ (q : List ℕ). replicate (length o) 0 ++ q) (drop-length o) ∙ append-nil _
