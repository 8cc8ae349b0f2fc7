-- `rounds::pack` meets its contract.
-- Assumes nothing.
use mathlib.Core.Path.{ap, subst, ◌∙◌}
use Rattle.pi.specs.Permutation.{added}
use Rattle.pi.proofs.StateLaws.{Full}
use Rattle.planes.specs.Planes.{flipped, bytes_of}
use Rattle.planes.proofs.FlipLaws.{bytes_of_full}
use Rattle.rounds.proofs.pack.Goals as goal

pub returns : goal.returns
returns c =
    let e = c.words.ensures in
    record {
      full = subst Full e (bytes_of_full _);
      packs = c.put_words.ensures ∙ c.sum.ensures ∙ ap (added (bytes_of _)) (c.transposed.ensures ∙ ap flipped e);
    }
