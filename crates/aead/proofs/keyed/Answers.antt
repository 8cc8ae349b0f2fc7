-- `aead::keyed` meets its contract: three puts, one after the other.
-- Assumes nothing.
use mathlib.Core.Path.{ap, ◌∙◌}
use mathlib.Core.List.{List}
use Prim.Native.Nat.{ℕ}
use native.Mathlib.Omega.{arith}
use Rattle.sponge.specs.Blink.{after, put}
use Rattle.sponge.proofs.CallLaws.{put_accepted, put_leaves}
use Rattle.aead.specs.Sealing.{keyed}
use Rattle.aead.proofs.keyed.Goals as goal

pub unwrap-requires : goal.unwrap-requires
unwrap-requires c = put_accepted _ c.put.ensures (omega arith) (omega arith)

pub unwrap-requires-2 : goal.unwrap-requires-2
unwrap-requires-2 c = put_accepted _ c.put-2.ensures (omega arith) (omega arith)

pub unwrap-requires-3 : goal.unwrap-requires-3
unwrap-requires-3 c = put_accepted _ c.put-3.ensures (omega arith) (omega arith)

pub returns : goal.returns
unfolding keyed
returns c =
    let e₁ = put_leaves c.put.ensures (omega arith) (omega arith) in
    let e₂ = put_leaves c.put-2.ensures (omega arith) (omega arith) in
    put_leaves c.put-3.ensures (omega arith) (omega arith)
    ∙ ap (λ (v : List ℕ). after put 0x40 v c.args.associated.now) (e₂ ∙ ap (λ (v : List ℕ). after put 0x20 v c.args.nonce.now) e₁)
