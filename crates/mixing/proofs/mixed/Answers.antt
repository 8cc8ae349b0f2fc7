-- `mixing::mixed` meets its contract: the planes of each step hold the mix by a row, and the last row is the mix's.
-- Assumes nothing.
use mathlib.Core.Path.{refl}
use lib.Dec.{lit<}
use Rattle.laws.specs.Xor.{xor}
use Rattle.pi.specs.Field.{only, double, times_bits, times}
use Rattle.pi.specs.Permutation.{first_row, mix}
use Rattle.pi.proofs.MixLaws.{only_at}
use Rattle.mixing.proofs.Rows.{whole, sum, turn, twice, mixes}
use Rattle.mixing.proofs.mixed.Goals as goal

pub returns : goal.returns
unfolding mix first_row only_at times times_bits double only xor
returns c =
    let p = whole c.args.p in
    let d = sum p (turn p _ c.turned.ensures (lit< tt)) c.sum-d.ensures in
    let e = sum d (twice (turn d _ c.turned-2.ensures (lit< tt)) c.doubled.ensures) c.sum-e.ensures in
    let a = turn p _ c.turned-a.ensures (lit< tt) in
    let f = sum a (twice e c.doubled-2.ensures) c.sum-f.ensures in
    let b = sum p a c.sum-b.ensures in
    let c' = sum b (turn b _ c.turned-3.ensures (lit< tt)) c.sum-c.ensures in
    let g = sum c' (twice (turn f _ c.turned-4.ensures (lit< tt)) c.doubled-3.ensures) c.sum-g.ensures in
    mixes (sum p (turn g _ c.turned-5.ensures (lit< tt)) c.sum.ensures) first_row refl tt
