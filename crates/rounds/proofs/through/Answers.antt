-- `rounds::through` meets its contract: in by planes, all rounds, and out.
-- Assumes nothing.
use mathlib.Core.Path.{◌≡◌, ap, ◌∙◌}
use Prim.Native.Nat.{ℕ}
use Rattle.planes.specs.Planes.{flipped}
use Rattle.rounds.specs.Rounds.{alike}
use Rattle.rounds.proofs.AlikeLaws.{packed_held, unpacked_held}
use Rattle.rounds.proofs.through.Goals as goal

pub returns : goal.returns
returns g c =
    let k = g.W.Way.HELD in
    let small = g.met.W.Way.small in
    let at : (h : ℕ) → h ≡ k → flipped (alike h) ≡ flipped (alike k) = λ h e. ap (λ (n : ℕ). flipped (alike n)) e in
    let packed = packed_held k _ _ _ small c.pack.ensures.full (c.every.ensures ∙ at _ c.HELD.ensures) c.pack.ensures.packs in
    let out = unpacked_held k _ _ _ small (c.every-2.ensures ∙ at _ c.HELD-2.ensures) c.unpack.ensures in
    out ∙ c.rounds.ensures ∙ ap g.W.Way.whole packed
