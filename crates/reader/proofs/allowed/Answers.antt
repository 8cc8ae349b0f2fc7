-- `reader::allowed` meets its contract: image and key, then its own tests, one after the other.
-- Assumes nothing.
use borrow.Author.Tests.{le-leb, lt-leb, lt-ltb, le-ltb}
use mathlib.Core.Path.{sym, ◌∙◌}
use native.Mathlib.Omega.{arith}
use Rattle.std.proofs.lemmas.Result.{err_from_is_err_and}
use Rattle.block.specs.Image.{capacity_of}
use Rattle.block.proofs.ImageSize.{Asked, asks_refused, asks_rest, asked}
use Rattle.reader.specs.Reading.{read_number}
use Rattle.numbers.proofs.RefusalLaws.{cause_not_0}
use Rattle.reader.proofs.allowed.Goals as goal
use Rattle.reader.proofs.allowed.Goals.{In_ok-image_then_key}

-- nothing is wrong with image and key
fit : (c : In_ok-image_then_key) → Asked c.args.cartridge.key.now c.args.cartridge.image.now
fit c = (asked _ _ 0 (sym c.in_ok-image_then_key.ensures)).0

pub returns-in_err-image_then_key : goal.returns-in_err-image_then_key
unfolding read_number
returns-in_err-image_then_key c =
    let p = err_from_is_err_and c.from_residual.result c.from_residual.ensures.1 in
    let e = c.in_err-image_then_key.ensures in
    rw (p.1, p.2) (e ∙ sym (asks_refused _ _ _ (λ z. cause_not_0 _ (e ∙ z))))

pub returns-then-room-lt-RECORD_MAX : goal.returns-then-room-lt-RECORD_MAX
unfolding read_number
returns-then-room-lt-RECORD_MAX c =
    sym (asks_rest _ _ (fit (goal.at.returns-then-room-lt-RECORD_MAX c).In_ok-image_then_key) _ ∙ rw (lt-leb 31232 c.args.room (omega arith)))

pub returns-then-capacity-p : goal.returns-then-capacity-p
unfolding read_number
returns-then-capacity-p c =
    sym (asks_rest _ _ (fit (goal.at.returns-then-capacity-p c).In_ok-image_then_key) _
    ∙ rw (le-leb 31232 c.args.room (omega arith), le-ltb c.args.p (capacity_of c.args.cartridge.image.now) (omega (arith, c.capacity.ensures))))

pub returns : goal.returns
unfolding read_number
returns c =
    sym (asks_rest _ _ (fit (goal.at.returns c).In_ok-image_then_key) _
    ∙ rw (le-leb 31232 c.args.room (omega arith), lt-ltb c.args.p (capacity_of c.args.cartridge.image.now) (omega (arith, c.capacity.ensures))))
