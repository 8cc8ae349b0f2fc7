-- `mixing::mixed_back` meets its contract: each word of the two halves is a sum of planes and their turns, the sums of
-- the halves' rows, and with the odd half turned by one column the row is the inverse's.
-- Assumes nothing.
use mathlib.Core.Path.{refl}
use mathlib.Core.List.{List, [], ◌∷◌}
use Prim.Native.Nat.{ℕ}
use lib.Dec.{lit<}
use Rattle.laws.specs.Lists.{listed}
use Rattle.laws.specs.Xor.{xor}
use Rattle.pi.specs.Field.{only, double, times_bits, times}
use Rattle.pi.specs.Permutation.{first_row⁻, mix⁻}
use Rattle.pi.proofs.StateLaws.{places}
use Rattle.planes.specs.Planes.{bit, word}
use Rattle.mixing.specs.Turns.{before}
use Rattle.mixing.proofs.Sums.{alone, plane, sum, turned}
use Rattle.mixing.proofs.States.{wanted, mixes_by}
use Rattle.mixing.proofs.Rows as rows
use Rattle.mixing.proofs.mixed_back.Goals as goal

-- the inverse row's even places, and its odd ones one place back
even_row : List ℕ
even_row = 0x04 ∷ 0 ∷ 0x0E ∷ 0 ∷ 0xC2 ∷ 0 ∷ 0xCB ∷ 0 ∷ []

odd_row : List ℕ
odd_row = 0xAF ∷ 0 ∷ 0xA4 ∷ 0 ∷ 0xC2 ∷ 0 ∷ 0x3E ∷ 0 ∷ []

pub returns : goal.returns
unfolding even_row odd_row plane sum turned word alone before wanted bit mix⁻ first_row⁻ times times_bits double only xor places listed
returns c =
    let p = c.args.p in
    let p0 = plane p 0 (lit< tt) in
    let p1 = plane p 1 (lit< tt) in
    let p2 = plane p 2 (lit< tt) in
    let p3 = plane p 3 (lit< tt) in
    let p4 = plane p 4 (lit< tt) in
    let p5 = plane p 5 (lit< tt) in
    let p6 = plane p 6 (lit< tt) in
    let p7 = plane p 7 (lit< tt) in
    let a0-2 = turned p (c.turned.ensures.words 0 (lit< tt)) tt p0 in
    let a0-4 = turned p (c.turned-2.ensures.words 0 (lit< tt)) tt p0 in
    let a0-6 = turned p (c.turned-3.ensures.words 0 (lit< tt)) tt p0 in
    let a1-2 = turned p (c.turned.ensures.words 1 (lit< tt)) tt p1 in
    let a1-4 = turned p (c.turned-2.ensures.words 1 (lit< tt)) tt p1 in
    let a1-6 = turned p (c.turned-3.ensures.words 1 (lit< tt)) tt p1 in
    let a2-2 = turned p (c.turned.ensures.words 2 (lit< tt)) tt p2 in
    let a2-4 = turned p (c.turned-2.ensures.words 2 (lit< tt)) tt p2 in
    let a2-6 = turned p (c.turned-3.ensures.words 2 (lit< tt)) tt p2 in
    let a3-2 = turned p (c.turned.ensures.words 3 (lit< tt)) tt p3 in
    let a3-4 = turned p (c.turned-2.ensures.words 3 (lit< tt)) tt p3 in
    let a3-6 = turned p (c.turned-3.ensures.words 3 (lit< tt)) tt p3 in
    let a4-2 = turned p (c.turned.ensures.words 4 (lit< tt)) tt p4 in
    let a4-4 = turned p (c.turned-2.ensures.words 4 (lit< tt)) tt p4 in
    let a4-6 = turned p (c.turned-3.ensures.words 4 (lit< tt)) tt p4 in
    let a5-2 = turned p (c.turned.ensures.words 5 (lit< tt)) tt p5 in
    let a5-4 = turned p (c.turned-2.ensures.words 5 (lit< tt)) tt p5 in
    let a5-6 = turned p (c.turned-3.ensures.words 5 (lit< tt)) tt p5 in
    let a6-2 = turned p (c.turned.ensures.words 6 (lit< tt)) tt p6 in
    let a6-4 = turned p (c.turned-2.ensures.words 6 (lit< tt)) tt p6 in
    let a6-6 = turned p (c.turned-3.ensures.words 6 (lit< tt)) tt p6 in
    let a7-2 = turned p (c.turned.ensures.words 7 (lit< tt)) tt p7 in
    let a7-4 = turned p (c.turned-2.ensures.words 7 (lit< tt)) tt p7 in
    let a7-6 = turned p (c.turned-3.ensures.words 7 (lit< tt)) tt p7 in
    let t0 = sum a3-4 a7-6 in
    let t1 = sum a0-6 a1-6 in
    let t2 = sum a5-2 a1-4 in
    let t3 = sum a2-2 a4-4 in
    let t4 = sum a1-2 t0 in
    let t5 = sum a2-4 t1 in
    let t6 = sum a0-4 a6-4 in
    let t7 = sum p0 a3-6 in
    let t8 = sum a2-6 t5 in
    let t9 = sum a7-2 a5-4 in
    let t10 = sum a7-4 t2 in
    let t11 = sum a6-2 a6-6 in
    let t12 = sum a2-4 a4-6 in
    let t13 = sum a4-2 t6 in
    let t14 = sum p6 t3 in
    let t15 = sum a0-2 t7 in
    let t16 = sum p7 a3-2 in
    let t17 = sum p1 a5-6 in
    let t18 = sum t8 t10 in
    let t19 = sum a5-4 t12 in
    let t20 = sum a4-4 t4 in
    let t21 = sum a6-6 t16 in
    let t22 = sum a6-2 t6 in
    let t23 = sum a0-6 t0 in
    let t24 = sum a5-6 t14 in
    let t25 = sum p4 t13 in
    let t26 = sum p7 a4-6 in
    let t27 = sum t23 t25 in
    let t28 = sum t1 t11 in
    let t29 = sum a7-6 t3 in
    let t30 = sum t15 t20 in
    let t31 = sum a6-4 t18 in
    let t32 = sum a2-6 a4-6 in
    let t33 = sum p5 t9 in
    let t34 = sum p3 t19 in
    let t35 = sum a7-2 t24 in
    let t36 = sum p6 a6-2 in
    let t37 = sum a3-6 t4 in
    let t38 = sum p2 t35 in
    let t39 = sum t14 t31 in
    let t40 = sum t11 t29 in
    let t41 = sum t7 t21 in
    let t42 = sum a5-2 t9 in
    let even =
    mixes_by even_row p _
    (sum (sum (sum t9 t18) t36) a7-6)
    (sum (sum (sum (sum (sum (sum t8 t22) p7) a0-2) a7-2) a3-4) a3-6)
    (sum (sum (sum t19 t30) t36) a5-2)
    (sum (sum (sum (sum t4 t17) t26) t39) a0-2)
    (sum (sum (sum t2 t21) t37) t38)
    (sum (sum (sum t16 t34) t40) a4-2)
    (sum (sum (sum t27 t42) a3-2) a5-6)
    (sum (sum (sum (sum t10 t13) t28) p5) a4-4)
    tt tt tt tt tt tt tt tt in
    let odd =
    mixes_by odd_row p _
    (sum (sum (sum (sum t10 t17) t34) t41) a1-2)
    (sum (sum (sum (sum (sum (sum t11 t12) t17) t27) p0) p2) a2-2)
    (sum (sum (sum (sum t5 t26) t30) t33) p2)
    (sum (sum t39 t41) a3-4)
    (sum (sum (sum (sum (sum (sum t2 t20) t28) p3) a4-2) a2-6) a5-6)
    (sum (sum (sum (sum t8 t15) t40) t42) p4)
    (sum (sum (sum (sum (sum (sum t22 t32) t33) t37) p1) a3-2) a1-6)
    (sum (sum (sum (sum (sum t13 t15) t32) t38) a1-4) a7-4)
    tt tt tt tt tt tt tt tt in
    let turned = rows.turn (rows.by_row odd_row tt odd) _ c.turned-4.ensures (lit< tt) in
    rows.mixes (rows.sum (rows.by_row even_row tt even) turned c.sum.ensures) first_row⁻ refl tt
