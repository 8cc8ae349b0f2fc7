-- `permutation::double` meets its contract: bit 7, as a factor, is 0 or 1.
-- Assumes nothing.
use mathlib.Core.Path.{◌≡◌, refl, ap}
use Prim.Native.Nat.{ℕ, ◌*◌, ◌/◌, ◌%◌, ◌<◌}
use native.Mathlib.Omega.{arith}
use Rattle.laws.specs.Xor.{xor}
use Rattle.laws.proofs.OrderLaws.{below2}
use Rattle.pi.specs.Field.{double, only}
use Rattle.permutation.proofs.double.Goals as goal

factor : (b : ℕ) → b < 2 → b * 0x1D ≡ only (b % 2) 0x1D
unfolding only
factor = below2 (λ (b : ℕ). b * 0x1D ≡ only (b % 2) 0x1D) refl refl

pub returns : goal.returns
unfolding double xor
returns c =
    let x = c.args.x in
    ap (xor (x * 2 % 256)) (factor (x / 128) (omega arith))
