-- `rounds::unpack` meets its contract.
-- Assumes nothing.
use mathlib.Core.Path.{ap, ◌∙◌}
use Rattle.pi.specs.Permutation.{added}
use Rattle.planes.specs.Planes.{flipped, bytes_of}
use Rattle.rounds.proofs.unpack.Goals as goal

pub returns : goal.returns
returns c =
    c.put_words.ensures ∙ c.transposed.ensures
    ∙ ap flipped (c.sum.ensures ∙ ap (added (bytes_of _)) c.words.ensures)
