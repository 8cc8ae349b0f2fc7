-- `permutation::scramble` meets its contract: its steps, one after the other.
-- Assumes nothing.
use mathlib.Core.Path.{ap, ◌∙◌}
use Rattle.pi.specs.Permutation.{source, shift, first_row, mix_with, mix, scramble}
use Rattle.permutation.specs.Rows.{moved}
use Rattle.permutation.proofs.Each.{substituted}
use Rattle.permutation.proofs.scramble.Goals as goal

pub returns : goal.returns
unfolding scramble mix shift moved
returns c =
    c.mix.ensures ∙ ap (mix_with first_row) (c.shift.ensures ∙ ap (moved source) (c.substitute.ensures ∙ substituted _ c.told-state))
