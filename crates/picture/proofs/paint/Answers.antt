-- `picture::paint` meets its contract. The invariant of its loop: the blocks from p up to b are painted.
-- Assumes nothing.
use mathlib.Core.Path.{◌≡◌, sym}
use mathlib.Core.List.{List}
use Prim.Native.Nat.{ℕ, ◌+◌, ◌-◌, ◌≤◌, ◌<◌}
use native.Mathlib.Omega.{arith}
use lib.ListN.{length, set}
use Rattle.laws.specs.Lists.{listed}
use Rattle.laws.proofs.ListLaws.{length_listed, listed_snoc}
use Rattle.laws.proofs.SpliceLaws.{splice_nil, fill_step}
use Rattle.reader.specs.declared.Outcome.{Outcome}
use Rattle.picture.specs.Picture.{glyph_of}
use Rattle.picture.specs.Steps.{painted}
use Rattle.picture.proofs.paint.Goals as goal

-- no block yet, and one more
none : (o : Outcome) (p : ℕ) (out : List ℕ) → out ≡ painted o p p out
unfolding painted listed
none o p out = let e : p - p ≡ 0 = omega arith in rw e (sym (splice_nil out p))

more : (o : Outcome) (p b x : ℕ) (out out₀ : List ℕ) → p ≤ b → b < length out₀ → x ≡ glyph_of o p b → out ≡ painted o p b out₀
    → set out b x ≡ painted o p (b + 1) out₀
unfolding painted
more o p b x out out₀ h k g e =
    let i = b - p in
    let n : b + 1 - p ≡ i + 1 = omega arith in
    let m : p + i ≡ b = omega arith in
    rw (n, g)
    (fill_step (λ j. listed p j (glyph_of o p)) (glyph_of o p b) i p b out out₀ (length_listed p i (glyph_of o p))
    (rw m at (listed_snoc p i (glyph_of o p))) m k e)

pub loop-b-init : goal.loop-b-init
loop-b-init c = none _ _ _

pub loop-b-preserved : goal.loop-b-preserved
loop-b-preserved c =
    let l = c.loop-b in
    let a = c.args in
    more a.outcome a.p l.b c.glyph.result l.out a.out.now (omega arith) (omega arith) c.glyph.ensures l.invariant
