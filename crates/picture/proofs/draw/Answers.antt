-- `picture::draw` meets its contract: its tests, one after the other, then the picture.
-- Assumes nothing.
use mathlib.Core.Path.{◌≡◌, sym, ◌∙◌}
use native.Mathlib.Omega.{arith}
use lib.ListN.{length}
use Rattle.std.proofs.lemmas.Result.{err_from_is_err_and}
use Rattle.numbers.proofs.RefusalLaws.{cause_not_0}
use Rattle.block.proofs.ImageSize.{Asked, asked}
use Rattle.picture.specs.Picture.{draw_number}
use Rattle.picture.proofs.PictureLaws.{number_refused, number_room, number_done, refused_stays, done_drawn}
use Rattle.picture.proofs.draw.Goals.{In_ok-image_then_key, Else-out-capacity}
use Rattle.picture.proofs.draw.Goals as goal

-- nothing is wrong with image and key
fit : (c : In_ok-image_then_key) → Asked c.args.cartridge.key.now c.args.cartridge.image.now
fit c = (asked _ _ 0 (sym c.in_ok-image_then_key.ensures)).0

-- nothing is wrong with the buffer
done : (c : Else-out-capacity) → draw_number c.args.cartridge.key.now c.args.cartridge.image.now (length c.args.out.now) ≡ 0
done c = number_done (asked _ _ 0 (sym c.in_ok-image_then_key.ensures)).0 _ (omega (arith, c.capacity.ensures))

pub returns-in_err-image_then_key : goal.returns-in_err-image_then_key
returns-in_err-image_then_key c =
    let a = c.args in
    let t = a.cartridge in
    let p = err_from_is_err_and c.from_residual.result c.from_residual.ensures.1 in
    let e = c.in_err-image_then_key.ensures in
    let n = number_refused t.key.now t.image.now (length a.out.now) (λ z. cause_not_0 _ (e ∙ z)) in
    record {
      says = rw (p.1, p.2) (e ∙ sym n);
      leaves = refused_stays t.key.now t.id t.recording t.image.now a.out.now (λ z. cause_not_0 _ (e ∙ sym n ∙ z));
    }

pub returns-then-out-capacity : goal.returns-then-out-capacity
returns-then-out-capacity c =
    let a = c.args in
    let t = a.cartridge in
    let n = number_room (fit (goal.at.returns-then-out-capacity c).In_ok-image_then_key) (length a.out.now) (λ z. omega (arith, c.capacity.ensures)) in
    record { says = sym n; leaves = refused_stays t.key.now t.id t.recording t.image.now a.out.now (λ z. omega arith) }

pub draw_all-requires : goal.draw_all-requires
draw_all-requires c = done (goal.at.draw_all-requires c).Else-out-capacity

pub returns : goal.returns
returns c =
    let t = c.args.cartridge in
    let e = done (goal.at.returns c).Else-out-capacity in
    record { says = sym e; leaves = done_drawn t.key.now t.id t.recording t.image.now c.args.out.now _ e c.draw_all.ensures }
