-- `reader::open_at` meets its contract: the block's part of the image is lent on, and the 488 bytes come back.
-- Assumes nothing.
use mathlib.Core.Path.{◌≡◌, refl, sym, ◌∙◌}
use Prim.Native.Nat.{◌+◌, ◌-◌}
use native.Mathlib.Omega.{arith}
use lib.ListN.{length, take, drop, length-drop}
use lib.Seq.{length-take-le}
use Rattle.std.specs.Prelude.{Ok}
use Rattle.block.specs.Calls.{seen_of}
use Rattle.reader.specs.Steps.{shown}
use Rattle.reader.proofs.BufferLaws.{opened_says, opened_leaves}
use Rattle.reader.proofs.open_at.Goals as goal
use Rattle.reader.proofs.open_at.Goals.{After-open_block-opened}

-- the part that is lent on
part : (c : After-open_block-opened) → let a = c.args in length (take (a.at + 488 - a.at) (drop a.at a.buffer.now)) ≡ 488
part c = let a = c.args in length-take-le (a.at + 488 - a.at) (drop a.at a.buffer.now) (omega (arith, length-drop a.at a.buffer.now)) ∙ omega arith

-- nothing refuses it
opened : (c : After-open_block-opened) → c.open_block-opened.result ≡ Ok (seen_of (shown c.args.cartridge c.args.q))
opened c =
    let t = c.args.cartridge in
    opened_says t.key.now t.id t.recording t.image.now c.args.q c.requires.0 c.requires.1 refl (part c) c.open_block-opened.ensures

pub unwrap-requires : goal.unwrap-requires
unwrap-requires c = rw (opened (goal.at.unwrap-requires c).After-open_block-opened) refl

pub returns : goal.returns
returns c =
    let a = c.args in
    let t = a.cartridge in
    let k = (goal.at.returns c).After-open_block-opened in
    let e = sym c.unwrap.ensures ∙ opened k in record {
      says = cc;
      leaves = opened_leaves t.key.now t.id t.recording t.image.now a.q c.requires.0 c.requires.1 refl (part k) c.open_block-opened.ensures a.buffer.now a.at (a.at + 488 - a.at) (omega arith);
    }
