-- `survey::lent::Lent::seen_at` meets its contract: the block at q, opened into the scratch block.
-- Assumes nothing.
use mathlib.Core.Path.{◌≡◌, refl, sym, ◌∙◌}
use native.Mathlib.Omega.{arith}
use Rattle.std.specs.Prelude.{Ok}
use Rattle.block.specs.Calls.{seen_of}
use Rattle.reader.specs.Steps.{shown}
use Rattle.reader.proofs.BufferLaws.{opened_says}
use Rattle.survey.proofs.lent.Lent.seen_at.Goals as goal
use Rattle.survey.proofs.lent.Lent.seen_at.Goals.{After-open_block-opened}

-- nothing refuses it
opened : (c : After-open_block-opened) → c.open_block-opened.result ≡ Ok (seen_of (shown c.args.self.now.cartridge c.args.q))
opened c =
    let t = c.args.self.now.cartridge in
    opened_says t.key.now t.id t.recording t.image.now c.args.q c.args.self.now.key24 (omega arith) refl c.told-scratch c.open_block-opened.ensures

pub unwrap-requires : goal.unwrap-requires
unwrap-requires c = rw (opened (goal.at.unwrap-requires c).After-open_block-opened) refl

pub returns : goal.returns
returns c = let e = sym c.unwrap.ensures ∙ opened (goal.at.returns c).After-open_block-opened in cc
