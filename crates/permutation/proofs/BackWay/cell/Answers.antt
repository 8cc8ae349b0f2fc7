-- `Back::cell` of `permutation` meets its contract: as `Forth::cell`, by seven doublings.
-- Assumes nothing.
use mathlib.Core.Path.{◌∙◌}
use Rattle.laws.specs.Xor.{xor}
use Rattle.pi.specs.Permutation.{first_row⁻}
use Rattle.permutation.proofs.Mixing.{seven, column_by_bits}
use Rattle.permutation.proofs.BackWay.cell.Goals as goal

pub returns : goal.returns
unfolding xor
returns c =
    let x = c.args in
    rw (
      c.double-7.ensures,
      c.double-6.ensures,
      c.double-5.ensures,
      c.double-4.ensures,
      c.double-3.ensures,
      c.double-2.ensures,
      c.double.ensures,
    )
    (seven x.a x.b x.c x.d x.e x.f x.g x.h ∙ column_by_bits first_row⁻ _ 7)
