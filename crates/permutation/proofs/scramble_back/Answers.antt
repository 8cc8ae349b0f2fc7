-- `permutation::scramble_back` meets its contract: its steps, one after the other.
-- Assumes nothing.
use mathlib.Core.Path.{ap, ◌∙◌}
use Rattle.pi.specs.Permutation.{substitute⁻, target, shift⁻, mix⁻, scramble⁻}
use Rattle.permutation.specs.Rows.{moved}
use Rattle.permutation.proofs.Each.{substituted⁻}
use Rattle.permutation.proofs.scramble_back.Goals as goal

pub returns : goal.returns
unfolding scramble⁻ mix⁻ shift⁻ moved
returns c =
    c.substitute.ensures ∙ substituted⁻ _ c.shift.array_long
    ∙ ap substitute⁻ (c.shift.ensures ∙ ap (moved target) c.mix.ensures)
