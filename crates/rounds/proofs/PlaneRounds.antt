-- A round on planes of a state plus 62 is the round on the state, plus 62; on the way back with 5D.
-- Assumes nothing.
use mathlib.Core.Path.{◌≡◌, refl, sym, ap, ap₂, ◌∙◌}
use mathlib.Core.List.{List}
use Prim.Native.Nat.{ℕ, ◌<◌}
use lib.Dec.{lit<}
use lib.ListN.{get_or}
use Rattle.laws.specs.Xor.{xor, xor_all}
use Rattle.laws.proofs.OrderLaws.{below8}
use Rattle.laws.proofs.XorLaws.{xor_assoc, xor_left}
use Rattle.pi.specs.Field.{only, double, times_bits, times}
use Rattle.pi.specs.Permutation.{state_by, substitute, shift, first_row⁻, turned, mix, scramble, added, constant, round, substitute⁻, shift⁻, mix⁻, scramble⁻, round⁻}
use Rattle.pi.proofs.Build.{state_at, state_same}
use Rattle.pi.proofs.StateLaws.{Full}
use Rattle.pi.proofs.ShiftLaws.{shift⁻_full}
use Rattle.pi.proofs.MixLaws.{mix⁻_full}
use Rattle.pi.proofs.RoundLaws.{added_full, constant_full, round_full, round⁻_full}
use Rattle.planes.specs.Planes.{flipped, plus, bytes_of}
use Rattle.planes.specs.declared.Planes.{Planes}
use Rattle.planes.proofs.FlipLaws.{flip_flip, flipped_added, plus_plus, shift_plus, shift⁻_plus, mix_with_plus, mix_plus}
use Rattle.rounds.specs.Rounds.{constant_planes, alike, held}
use Rattle.rounds.proofs.AlikeLaws.{alike_full, plus_added, held_full, on_held, held_of}
use Rattle.rounds.proofs.ConstantLaws.{constant_planes_lem}

-- the planes of a constant, as a state
held_constant : (r : ℕ) (k : Planes) → r < 12 → k ≡ constant_planes r → flipped (bytes_of k) ≡ constant r
held_constant r k h e = ap (λ (p : Planes). flipped (bytes_of p)) e ∙ ap flipped (constant_planes_lem r h) ∙ flip_flip (constant r) (constant_full r)

-- ---- forth
pub keyed : (r : ℕ) (k p u : Planes) (t y : List ℕ) → r < 12 → k ≡ constant_planes r → flipped (bytes_of p) ≡ y → bytes_of u ≡ added (bytes_of k) (bytes_of p)
    → t ≡ bytes_of u → flipped t ≡ added (constant r) y
keyed r k p u t y h e f g d =
    ap flipped (d ∙ g) ∙ flipped_added (bytes_of p) (bytes_of k) ∙ ap₂ added (held_constant r k h e) f

pub round_on : (key x s t : List ℕ) → Full x → flipped s ≡ plus 0x62 x
    → flipped t ≡ added key (mix (shift (plus 0xD5 (substitute (plus 0x62 (flipped s)))))) → flipped t ≡ plus 0x62 (round key x)
unfolding round scramble
round_on key x s t w e g =
    g
    ∙ ap (λ (y : List ℕ). added key (mix (shift (plus 0xD5 (substitute y))))) (ap (plus 0x62) e ∙ plus_plus 0x62 x w)
    ∙ ap (λ (y : List ℕ). added key (mix y)) (shift_plus 0xD5 (substitute x))
    ∙ ap (added key) (mix_plus (shift (substitute x)))
    ∙ plus_added 0x62 key (mix (shift (substitute x)))

-- ---- and back
pub unmixed : (k u p : Planes) (s w : List ℕ) → w ≡ s → bytes_of u ≡ added (bytes_of k) w → flipped (bytes_of p) ≡ mix⁻ (flipped (bytes_of u))
    → flipped (bytes_of p) ≡ mix⁻ (added (flipped (bytes_of k)) (flipped s))
unmixed k u p s w e f g = g ∙ ap mix⁻ (ap flipped (f ∙ ap (added (bytes_of k)) e) ∙ flipped_added s (bytes_of k))

-- a round back, by what each step gives
pub keyed_back : (r : ℕ) (c e k p : Planes) (s q t : List ℕ) → r < 12 → c ≡ constant_planes r → bytes_of e ≡ flipped (alike 0x37) → bytes_of k ≡ added (bytes_of e) (bytes_of c)
    → flipped (bytes_of p) ≡ mix⁻ (added (flipped (bytes_of k)) (flipped s)) → q ≡ bytes_of p → flipped t ≡ plus 0x5D (substitute⁻ (plus 0x26 (shift⁻ (flipped q))))
    → flipped t ≡ plus 0x5D (substitute⁻ (plus 0x26 (shift⁻ (mix⁻ (added (added (alike 0x37) (constant r)) (flipped s))))))
keyed_back r c e k p s q t h f g d m n o =
    let key : flipped (bytes_of k) ≡ added (alike 0x37) (constant r) =
    ap flipped d ∙ flipped_added (bytes_of c) (bytes_of e)
    ∙ ap₂ added (ap flipped g ∙ flip_flip (alike 0x37) (alike_full 0x37 (lit< tt))) (held_constant r c h f) in
    o
    ∙ ap (λ (y : List ℕ). plus 0x5D (substitute⁻ (plus 0x26 (shift⁻ y))))
    (ap flipped n ∙ m ∙ ap (λ (y : List ℕ). mix⁻ (added y (flipped s))) key)

six_a : xor 0x5D 0x37 ≡ 0x6A
unfolding xor
six_a = refl

plus_two : (key y : List ℕ) → added (added (alike 0x37) key) (plus 0x5D y) ≡ plus 0x6A (added key y)
unfolding added alike plus
plus_two key y =
    state_same _ _ (λ k h.
    ap₂ xor (state_at (λ k. xor (get_or y k 0) 0x5D) k h) (state_at (λ k. xor (get_or key k 0) (get_or (state_by (λ k. 0x37)) k 0)) k h ∙ ap (xor (get_or key k 0)) (state_at (λ k. 0x37) k h))
    ∙ four (get_or y k 0) 0x5D (get_or key k 0) 0x37 ∙ ap₂ xor (sym (state_at (λ k. xor (get_or y k 0) (get_or key k 0)) k h)) six_a)
  where
    four : (a b c d : ℕ) → xor (xor a b) (xor c d) ≡ xor (xor a c) (xor b d)
    four a b c d = xor_assoc a b (xor c d) ∙ ap (xor a) (xor_left b c d) ∙ sym (xor_assoc a c (xor b d))

mix⁻_plus : (s : List ℕ) → mix⁻ (plus 0x6A s) ≡ plus 0x26 (mix⁻ s)
unfolding mix⁻ first_row⁻ turned xor_all times times_bits double only xor
mix⁻_plus s =
    mix_with_plus first_row⁻ 0x6A 0x26 s
    (below8 (λ (j : ℕ). xor_all 8 (λ i. times (turned first_row⁻ i j) 0x6A) ≡ 0x26) refl refl refl refl refl refl refl refl)

pub back_on : (key y s t : List ℕ) → Full key → Full y → flipped s ≡ plus 0x5D y
    → flipped t ≡ plus 0x5D (substitute⁻ (plus 0x26 (shift⁻ (mix⁻ (added (added (alike 0x37) key) (flipped s)))))) → flipped t ≡ plus 0x5D (round⁻ key y)
unfolding round⁻ scramble⁻
back_on key y s t u w e g =
    let z = added key y in
    g
    ∙ ap (λ (x : List ℕ). plus 0x5D (substitute⁻ (plus 0x26 (shift⁻ (mix⁻ x))))) (ap (added (added (alike 0x37) key)) e ∙ plus_two key y)
    ∙ ap (λ (x : List ℕ). plus 0x5D (substitute⁻ (plus 0x26 (shift⁻ x)))) (mix⁻_plus z)
    ∙ ap (λ (x : List ℕ). plus 0x5D (substitute⁻ (plus 0x26 x))) (shift⁻_plus 0x26 (mix⁻ z))
    ∙ ap (λ (x : List ℕ). plus 0x5D (substitute⁻ x)) (plus_plus 0x26 (shift⁻ (mix⁻ z)) (shift⁻_full (mix⁻ z) (mix⁻_full z (added_full key y u w))))

-- ---- of the state that planes hold
pub round_held : (r : ℕ) (s t : List ℕ)
    → flipped t ≡ added (constant r) (mix (shift (plus 0xD5 (substitute (plus 0x62 (flipped s)))))) → held 0x62 t ≡ round (constant r) (held 0x62 s)
round_held r s t e =
    held_of 0x62 t _ (round_full (constant r) (held 0x62 s) (constant_full r))
    (round_on (constant r) (held 0x62 s) s t (held_full 0x62 s (lit< tt)) (on_held 0x62 s) e)

pub back_held : (r : ℕ) (s t : List ℕ)
    → flipped t ≡ plus 0x5D (substitute⁻ (plus 0x26 (shift⁻ (mix⁻ (added (added (alike 0x37) (constant r)) (flipped s)))))) → held 0x5D t ≡ round⁻ (constant r) (held 0x5D s)
back_held r s t e =
    held_of 0x5D t _ (round⁻_full (constant r) (held 0x5D s))
    (back_on (constant r) (held 0x5D s) s t (constant_full r) (held_full 0x5D s (lit< tt)) (on_held 0x5D s) e)
