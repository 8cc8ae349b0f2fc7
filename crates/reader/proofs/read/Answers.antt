-- `reader::read` meets its contract: refused with the buffer as it was, or read.
-- Assumes nothing.
use mathlib.Core.Path.{sym}
use lib.ListN.{length}
use Rattle.reader.proofs.ImageTests.{readable, read_refused, read_done}
use Rattle.reader.proofs.read.Goals as goal

pub returns-in-Err : goal.returns-in-Err
returns-in-Err c = read_refused c.in-Err.refusal c.in-Err.ensures

pub read_lent-requires : goal.read_lent-requires
read_lent-requires c =
    let a = c.args in
    readable a.cartridge.key.now a.cartridge.image.now a.p (length a.buffer.now) (sym c.in-Ok.ensures)

pub returns-in-Ok : goal.returns-in-Ok
returns-in-Ok c = read_done (sym c.in-Ok.ensures) c.read_lent.ensures.says c.read_lent.ensures.leaves
