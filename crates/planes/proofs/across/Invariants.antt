-- The invariant of the loop of `planes::across`: the pairs whose lower number is below i are crossed.
use Rattle.planes.proofs.Crossing.{CrossedTo}
use Rattle.planes.proofs.across.Given as goal

abbrev pub invariant-loop-i : goal.invariant-loop-i
invariant-loop-i g l = CrossedTo g.row.D l.w l.i l.words
