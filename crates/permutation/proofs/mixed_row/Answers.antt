-- `permutation::mixed_row` meets its contract: each column is the last one of the row turned.
-- Assumes nothing.
use mathlib.Core.Path.{sym, ap}
use Prim.Native.Nat.{ℕ}
use native.Mathlib.Nat.{add-zero}
use lib.ListN.{get_or}
use Rattle.permutation.specs.Rows.{row_at}
use Rattle.permutation.proofs.Mixing.{row_is}
use Rattle.permutation.proofs.mixed_row.Goals as goal

pub returns : goal.returns
unfolding row_at
returns g c =
    row_is g.W.Way.first (row_at c.args.from.now c.args.i) _ _ _ _ _ _ _ _ _
    (ap (λ (n : ℕ). get_or c.args.from.now n 0) (sym (add-zero c.args.i)))
    c.cell.ensures c.cell-2.ensures
    c.cell-3.ensures c.cell-4.ensures
    c.cell-5.ensures c.cell-6.ensures
    c.cell-7.ensures c.cell-8.ensures
