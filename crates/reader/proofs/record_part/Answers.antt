-- `reader::record_part` meets its contract: the front part, or the empty part in its place.
-- Assumes nothing.
use borrow.Author.Tests.{le-leb, lt-leb}
use native.Mathlib.Omega.{arith}
use lib.ListN.{length}
use Rattle.reader.specs.Reading.{part_of}
use Rattle.reader.proofs.record_part.Goals as goal

pub returns-then-length-buffer-clause-bytes : goal.returns-then-length-buffer-clause-bytes
unfolding part_of
returns-then-length-buffer-clause-bytes c = simp (le-leb c.args.length (length c.args.buffer.now) (omega arith))

pub returns-else-length-buffer-clause-bytes : goal.returns-else-length-buffer-clause-bytes
unfolding part_of
returns-else-length-buffer-clause-bytes c = simp (lt-leb c.args.length (length c.args.buffer.now) (omega arith))
