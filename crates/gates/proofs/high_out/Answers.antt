-- `gates::high_out` meets its contract: the gates, whatever they are, pass the test of all sixteen half bytes.
-- Assumes nothing.
use Rattle.laws.specs.Xor.{xor}
use Rattle.pi.specs.Table.{E}
use Rattle.planes.proofs.BitLaws.{bit_xor_lem, bit_and_lem, bit_or_lem}
use Rattle.gates.specs.Gates.{half}
use Rattle.gates.proofs.Bits.{bit_ones, sixteen}
use Rattle.gates.proofs.high_out.Goals as goal

pub returns : goal.returns
unfolding half xor E
returns c = λ n h. sixteen c.args.x n (λ p q r s e₀ e₁ e₂ e₃ t. simp (bit_xor_lem, bit_and_lem, bit_or_lem, bit_ones n h, e₀, e₁, e₂, e₃) t) tt
