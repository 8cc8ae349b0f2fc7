-- `aead::open_from` meets its contract: dec of all but the tag, then the tag compared.
-- Assumes nothing.
use mathlib.Core.Path.{ap, ◌∙◌}
use Prim.Native.Nat.{ℕ}
use native.Mathlib.Omega.{arith}
use lib.ListN.{replicate}
use Rattle.sponge.proofs.CallLaws.{ran_accepted}
use Rattle.aead.proofs.Runs.{dec_opened, dec_fits}
use Rattle.aead.proofs.open_from.Goals as goal

pub unwrap-requires : goal.unwrap-requires
unwrap-requires c = ran_accepted _ c.dec.ensures (omega arith) (omega arith) (omega arith)

pub returns-then-not-fit : goal.returns-then-not-fit
returns-then-not-fit c =
    let p = c.split_at.ensures in (
      dec_fits c.args.sealed.now c.dec.ensures (omega arith) (omega arith) (omega arith) p.front _ _ p.back c.same-fit.ensures,
      rw c.if-not-fit.true (c.zero.ensures ∙ ap (λ (n : ℕ). replicate n 0) c.dec.auto.out),
    )

pub returns-else-not-fit : goal.returns-else-not-fit
returns-else-not-fit c =
    let p = c.split_at.ensures in (
      dec_fits c.args.sealed.now c.dec.ensures (omega arith) (omega arith) (omega arith) p.front _ _ p.back c.same-fit.ensures,
      rw c.if-not-fit.false (dec_opened c.args.sealed.now c.dec.ensures (omega arith) (omega arith) (omega arith) p.front),
    )
