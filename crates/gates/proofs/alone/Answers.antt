-- `gates::alone` meets its contract: what goes in and what comes out, as its callers' circuit makes it.
-- Assumes nothing.
use mathlib.Core.Path.{ap}
use Prim.Native.Nat.{ℕ}
use Rattle.laws.specs.Xor.{xor}
use Rattle.gates.proofs.alone.Goals as goal

pub returns : goal.returns
unfolding xor
returns g c =
    (c.spread.result, c.circuit.result, c.spread.ensures, c.circuit.ensures, ap (λ (z : ℕ). xor z c.args.c) c.gathered.ensures)
