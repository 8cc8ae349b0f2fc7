-- `rounds::scrambled` meets its contract.
-- Assumes nothing.
use mathlib.Core.List.{List}
use mathlib.Core.Path.{ap, ◌∙◌}
use Prim.Native.Nat.{ℕ}
use Rattle.pi.specs.Permutation.{mix}
use Rattle.planes.specs.Planes.{flipped}
use Rattle.rounds.proofs.scrambled.Goals as goal

pub returns : goal.returns
returns c =
    c.mixed.ensures ∙ ap (λ (y : List ℕ). mix (flipped y)) c.words.ensures ∙ ap mix c.substitute.ensures.1
