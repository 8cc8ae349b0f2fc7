-- `buffer::add` meets its contract. The invariant of its loop: the first k bytes of `from` are in.
-- Assumes nothing.
use mathlib.Core.Path.{◌≡◌, refl, ap, ◌∙◌}
use mathlib.Core.List.{List}
use mathlib.Core.Logic.{⊎_elim}
use Prim.Native.Nat.{ℕ, ◌<◌, min}
use native.Mathlib.Omega.{arith}
use lib.ListN.{length, get_or, length-set, get_or-eq_default}
use Rattle.laws.specs.Loops.{front}
use Rattle.laws.specs.Xor.{xor, xor_into}
use Rattle.laws.proofs.ListLaws.{front_none, front_seen, front_more, front_all, front_rest}
use Rattle.laws.proofs.OrderLaws.{lt_or_ge}
use Rattle.laws.proofs.XorLaws.{xor_zero}
use Rattle.buffer.proofs.add.Goals as goal
use Rattle.buffer.proofs.add.Invariants.{rule}

-- once all of `from` is in, or there is no more room, the list is the promised one
all_in : (f s t : List ℕ) (k : ℕ) → t ≡ front k (rule f s) s → k ≡ min (length s) (length f) → t ≡ xor_into f s
unfolding rule xor_into
all_in f s t k e h =
    ⊎_elim
    (λ l. front_rest (length s) k (rule f s) s t e refl (omega arith)
    (λ i m. ap (xor (get_or s i 0)) (get_or-eq_default f 0 {n = i} (omega arith)) ∙ xor_zero (get_or s i 0)))
    (λ l. front_all (length s) k (rule f s) s t e refl (omega arith))
    (lt_or_ge (length f) (length s))

pub loop-k-init : goal.loop-k-init
loop-k-init c = (omega arith, c.min-n.ensures, refl, front_none _ _)

pub loop-k-preserved : goal.loop-k-preserved
unfolding rule xor
loop-k-preserved c = let a = c.args in
    let h : c.loop-k.k < length a.to.now = omega arith in (
      omega arith,
      c.loop-k.invariant.1,
      simp length-set (omega arith),
      front_more _ _ _ _ _ c.loop-k.invariant.3 h (ap (λ (x : ℕ). xor x (get_or a.from.now c.loop-k.k 0)) (front_seen _ _ _ _ c.loop-k.invariant.3 h)),
    )

pub returns : goal.returns
returns c = let a = c.args in
    all_in a.from.now a.to.now _ c.loop-k.k c.loop-k.invariant.3 (omega arith)
