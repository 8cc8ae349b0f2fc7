-- `aead::seal_from` meets its contract: enc into the front of `out`, the tag behind it.
-- Assumes nothing.
use native.Mathlib.Omega.{arith}
use lib.Seq.{length-take-le}
use Rattle.sponge.proofs.CallLaws.{ran_accepted, copied}
use Rattle.aead.proofs.Runs.{enc_sealed}
use Rattle.aead.proofs.seal_from.Goals as goal

pub unwrap-requires : goal.unwrap-requires
unwrap-requires c = ran_accepted _ c.enc.ensures (omega arith) (omega arith) (omega arith)

pub returns : goal.returns
returns c = enc_sealed c.enc.ensures (omega arith) (omega arith) (omega arith) (copied _ _ _ (omega (arith, length-take-le 16 c.enc.new.state (omega arith))) c.copy.ensures)
