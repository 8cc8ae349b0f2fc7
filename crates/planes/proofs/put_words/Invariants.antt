-- The invariant of the loop of `planes::put_words`: the bytes of the first b words are there.
use Rattle.planes.proofs.RowLaws.{Put}
use Rattle.planes.proofs.put_words.Given as goal

abbrev pub invariant-loop-b : goal.invariant-loop-b
invariant-loop-b l = Put l.p l.b l.s
