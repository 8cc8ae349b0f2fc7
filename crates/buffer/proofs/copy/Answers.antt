-- `buffer::copy` meets its contract. The invariant of its loop: the first bytes of `from` are laid over the front.
-- Assumes nothing.
use mathlib.Core.Path.{◌≡◌, refl, sym, ap, ◌∙◌}
use mathlib.Core.List.{List, ◌++◌}
use Prim.Native.Nat.{ℕ, ◌+◌, ◌<◌, min}
use native.Mathlib.Nat.{zero-add}
use native.Mathlib.Numerals.{add-one}
use native.Mathlib.Omega.{arith}
use lib.ListN.{length, get_or, set, take, drop, length-set}
use lib.Seq.{take-suc, length-take-le}
use Rattle.laws.specs.Lists.{splice}
use Rattle.laws.proofs.SpliceLaws.{splice_nil, splice_store, splice_front}
use Rattle.buffer.proofs.copy.Goals as goal

-- one more byte laid
more : (to to₀ from : List ℕ) (i : ℕ) → i < length from → i < length to₀ → to ≡ splice to₀ 0 (take i from)
    → set to i (get_or from i 0) ≡ splice to₀ 0 (take (i + 1) from)
more to to₀ from i h k e =
    rw (e, add-one i, take-suc from i 0 h) (splice_store to₀ 0 (take i from) (get_or from i 0) i (omega (arith, length-take-le i from (omega arith))) k)

-- once all of `from` is laid, or there is no more room
whole : (to₀ from : List ℕ) (n : ℕ) → n ≡ min (length to₀) (length from) → splice to₀ 0 (take n from) ≡ splice to₀ 0 (take (length to₀) from)
unfolding splice
whole to₀ from n h =
    ap (λ (m : ℕ). take n from ++ drop m to₀) (zero-add (length (take n from)) ∙ length-take-le n from (omega arith)) ∙ splice_front to₀ from (take n from) n refl h

pub loop-at-init : goal.loop-at-init
loop-at-init c = (omega arith, c.min-n.ensures, refl, sym (splice_nil _ 0))

pub loop-at-preserved : goal.loop-at-preserved
loop-at-preserved c = let a = c.args in
    (omega arith, c.loop-at.invariant.1, simp length-set (omega arith), more c.loop-at.to a.to.now a.from.now c.loop-at.at (omega arith) (omega arith) c.loop-at.invariant.3)

pub returns : goal.returns
returns c = let a = c.args in
    c.loop-at.invariant.3 ∙ whole a.to.now a.from.now c.loop-at.at (omega arith)
