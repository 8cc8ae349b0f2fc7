-- `Forth::cell` of `permutation` meets its contract: doubling adds up, so three doublings serve all eight bytes.
-- Assumes nothing.
use mathlib.Core.Path.{◌∙◌}
use Rattle.laws.specs.Xor.{xor}
use Rattle.pi.specs.Permutation.{first_row}
use Rattle.permutation.proofs.Mixing.{three, column_by_bits}
use Rattle.permutation.proofs.ForthWay.cell.Goals as goal

pub returns : goal.returns
unfolding xor
returns c =
    let x = c.args in
    rw (c.double-3.ensures, c.double-2.ensures, c.double.ensures) (three x.a x.b x.c x.d x.e x.f x.g x.h ∙ column_by_bits first_row _ 7)
