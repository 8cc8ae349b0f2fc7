-- `mixing::doubled` meets its contract: each word is the sum of planes, read off the code, that twice a byte wants.
-- Assumes nothing.
use mathlib.Core.Path.{◌∙◌}
use lib.Dec.{lit<}
use Rattle.laws.specs.Lists.{listed}
use Rattle.laws.specs.Xor.{xor}
use Rattle.pi.specs.Field.{only, double, times_bits, times}
use Rattle.pi.proofs.MixLaws.{only_at, mix_diagonal}
use Rattle.pi.proofs.StateLaws.{places}
use Rattle.planes.specs.Planes.{flipped, bytes_of, bit, word}
use Rattle.mixing.specs.Turns.{before, bytes_doubled}
use Rattle.mixing.proofs.Sums.{alone, plane, sum}
use Rattle.mixing.proofs.States.{wanted, mixes_by}
use Rattle.mixing.proofs.doubled.Goals as goal

pub returns : goal.returns
unfolding bytes_doubled plane sum word alone before wanted bit only_at times times_bits double only xor places listed
returns c =
    let p = c.args.p in
    mixes_by (only_at 2) p _
    (plane p _ (lit< tt))
    (plane p _ (lit< tt))
    (sum (plane p _ (lit< tt)) (plane p _ (lit< tt)))
    (sum (plane p _ (lit< tt)) (plane p _ (lit< tt)))
    (sum (plane p _ (lit< tt)) (plane p _ (lit< tt)))
    (plane p _ (lit< tt))
    (plane p _ (lit< tt))
    (plane p _ (lit< tt))
    tt tt tt tt tt tt tt tt
    ∙ mix_diagonal 2 (flipped (bytes_of p))
