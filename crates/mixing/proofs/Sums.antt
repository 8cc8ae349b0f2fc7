-- Words that are sums of planes and of their turns by whole columns: each bit of such a word is the sum, over the 64
-- pairs of a plane b and a turn by d columns, numbered 8d + b, of those that a mask has.
-- Assumes nothing.
use mathlib.Core.Path.{◌≡◌, sym, ap, ap₂, ◌∙◌}
use mathlib.Core.Bool.{Bool}
use mathlib.Core.Logic.{⊎_elim}
use Prim.Native.Nat.{ℕ, zero, suc, ◌+◌, ◌-◌, ◌*◌, ◌/◌, ◌%◌, ◌<◌, ◌≤◌}
use native.Mathlib.Nat.{mod-lt, suc-add, le_of_suc-le-suc, not-suc-le-zero}
use native.Mathlib.Omega.{arith}
use lib.Dec.{T, lit<, eqb, eqb→eq}
use lib.Bits.{bit_xor}
use Rattle.laws.specs.Xor.{xor, xor_all}
use Rattle.laws.proofs.ListLaws.{length_listed}
use Rattle.laws.proofs.OrderLaws.{lt_or_ge}
use Rattle.laws.proofs.TableLaws.{every, at}
use Rattle.laws.proofs.XorLaws.{xor_assoc, xor_swap, xor_zero, zero_xor, all_same, all_zero_lem, all_sum}
use Rattle.pi.specs.Field.{only}
use Rattle.pi.proofs.Field.{only_xor}
use Rattle.pi.proofs.StateLaws.{places}
use Rattle.planes.specs.Planes.{bit, word}
use Rattle.planes.specs.declared.Planes.{Planes}
use Rattle.mixing.specs.Turns.{before, Turned}
use Rattle.mixing.proofs.Bits.{bit_either}
use Rattle.mixing.proofs.Bytes.{xor_low}

-- ---- sums in two parts, by eights, and turned
pub all_parts : (j k : ℕ) (f : ℕ → ℕ) → xor_all (j + k) f ≡ xor (xor_all j f) (xor_all k (λ i. f (j + i)))
unfolding xor_all
all_parts zero k f =
    let e : 0 + k ≡ k = omega arith in
    ap (λ (n : ℕ). xor_all n f) e ∙ all_same k _ _ (λ i h. let g : i ≡ 0 + i = omega arith in ap f g) ∙ sym (zero_xor _)
all_parts (suc j) k f =
    ap (λ (n : ℕ). xor_all n f) (suc-add j k)
    ∙ ap (xor (f 0)) (all_parts j k (λ i. f (suc i)))
    ∙ sym (xor_assoc (f 0) (xor_all j (λ i. f (suc i))) (xor_all k (λ i. f (suc (j + i)))))
    ∙ ap (xor (xor (f 0) (xor_all j (λ i. f (suc i))))) (all_same k _ _ (λ i h. ap f (sym (suc-add j i))))

pub all_eights : (n : ℕ) (f : ℕ → ℕ) → xor_all (n * 8) f ≡ xor_all n (λ d. xor_all 8 (λ i. f (8 * d + i)))
unfolding xor_all
all_eights zero f = let e : 0 * 8 ≡ 0 = omega arith in ap (λ (m : ℕ). xor_all m f) e
all_eights (suc n) f =
    let e : suc n * 8 ≡ 8 + n * 8 = omega arith in
    ap (λ (m : ℕ). xor_all m f) e
    ∙ all_parts 8 (n * 8) f
    ∙ ap₂ xor (all_same 8 _ _ (λ i h. let g : i ≡ 8 * 0 + i = omega arith in ap f g))
    (all_eights n (λ i. f (8 + i)) ∙ all_same n _ _ (λ d h. all_same 8 _ _ (λ i l. let g : 8 + (8 * d + i) ≡ 8 * suc d + i = omega arith in ap f g)))

pub all_turned : (k : ℕ) (f : ℕ → ℕ) → k ≤ 64 → xor_all 64 f ≡ xor_all 64 (λ i. f (before k i))
unfolding before
all_turned k f h =
    let e : 64 ≡ (64 - k) + k = omega arith in
    let g : 64 ≡ k + (64 - k) = omega arith in
    ap (λ (n : ℕ). xor_all n f) e
    ∙ all_parts (64 - k) k f
    ∙ xor_swap (xor_all (64 - k) f) (xor_all k (λ i. f ((64 - k) + i)))
    ∙ ap₂ xor
    (all_same k _ _ (λ i l. let o : (64 - k) + i ≡ (i + (64 - k)) % 64 = omega arith in ap f o))
    (all_same (64 - k) _ _ (λ i l. let o : i ≡ (k + i + (64 - k)) % 64 = omega arith in ap f o))
    ∙ sym (all_parts k (64 - k) (λ i. f ((i + (64 - k)) % 64)))
    ∙ sym (ap (λ (n : ℕ). xor_all n (λ i. f ((i + (64 - k)) % 64))) g)

-- ---- the mask with b alone
unfoldable pub alone : ℕ → ℕ → ℕ
alone zero zero = 1
alone zero (suc i) = 0
alone (suc b) zero = 0
alone (suc b) (suc i) = alone b i

pub alone_low : (b i : ℕ) → alone b i < 2
unfolding alone
alone_low zero zero = lit< tt
alone_low zero (suc i) = lit< tt
alone_low (suc b) zero = lit< tt
alone_low (suc b) (suc i) = alone_low b i

all_alone : (n b : ℕ) (f : ℕ → ℕ) → b < n → xor_all n (λ i. only (alone b i) (f i)) ≡ f b
unfolding xor_all alone only
all_alone zero b f h = absurd (not-suc-le-zero h)
all_alone (suc n) zero f h = ap (xor (f 0)) (all_zero_lem n) ∙ xor_zero (f 0)
all_alone (suc n) (suc b) f h = zero_xor _ ∙ all_alone n b (λ i. f (suc i)) (le_of_suc-le-suc h)

-- ---- words
-- what bit n of plane i mod 8, turned by i / 8 columns, is
unfoldable pub turned_bit : Planes → ℕ → ℕ → ℕ
turned_bit p n i = bit (before (8 * (i / 8)) n) (word p (i % 8))

-- the sum of what the mask m has
unfoldable pub sum_at : Planes → (ℕ → ℕ) → ℕ → ℕ
sum_at p m n = xor_all 64 (λ i. only (m i) (turned_bit p n i))

-- x is the sum of what a mask has
pub record Summed (p : Planes) (x : ℕ) : Type 0 where
  pub mask : ℕ → ℕ
  pub low : (i : ℕ) → mask i < 2
  pub here : (n : ℕ) → n < 64 → bit n x ≡ sum_at p mask n

-- ---- a plane
pub plane_here : (p : Planes) (b n : ℕ) → b < 8 → n < 64 → bit n (word p b) ≡ sum_at p (alone b) n
unfolding sum_at turned_bit before
plane_here p b n h l =
    let e : n ≡ (n + (64 - 8 * (b / 8))) % 64 = omega arith in
    let g : b ≡ b % 8 = omega arith in
    ap₂ (λ (m c : ℕ). bit m (word p c)) e g ∙ sym (all_alone 64 b (turned_bit p n) (omega arith))

unfoldable pub plane : (p : Planes) (b : ℕ) → b < 8 → Summed p (word p b)
plane p b h = record { mask = alone b; low = alone_low b; here = λ n l. plane_here p b n h l }

-- ---- a sum
module _ {p : Planes} {x y : ℕ} (a : Summed p x) (b : Summed p y) where
  abbrev pub both : ℕ → ℕ
  both i = bit_xor (a.mask i) (b.mask i)

  pub both_low : (i : ℕ) → both i < 2
  unfolding xor
  both_low i = xor_low (a.mask i) (b.mask i) (a.low i) (b.low i)

  pub sum_here : (n : ℕ) → n < 64 → bit n (bit_xor x y) ≡ sum_at p both n
  unfolding sum_at
  sum_here n h =
      bit_either n x y ∙ ap₂ xor (a.here n h) (b.here n h)
      ∙ sym (all_sum 64 (λ i. only (a.mask i) (turned_bit p n i)) (λ i. only (b.mask i) (turned_bit p n i)))
      ∙ all_same 64 _ _ (λ i l. sym (only_xor (a.mask i) (b.mask i) (turned_bit p n i) (a.low i) (b.low i)))

  unfoldable pub sum : Summed p (bit_xor x y)
  sum = record { mask = both; low = both_low; here = sum_here }

-- ---- a turn by k bits, 8 times a number below 8
columns : (d i : ℕ) → d < 8 → i < 64 → (i + (64 - 8 * d)) % 64 / 8 ≡ (i / 8 + (8 - d)) % 8
columns d i hd hi = omega arith

cut : (x c : ℕ) → (x % 64 + c) % 64 ≡ (x + c) % 64
cut x c = omega arith

around : (x : ℕ) → (x + 64) % 64 ≡ x % 64
around x = omega arith

back : (d n q : ℕ) → d < 8 → q < 8 → ((n + (64 - 8 * d)) % 64 + (64 - 8 * ((q + (8 - d)) % 8))) % 64 ≡ (n + (64 - 8 * q)) % 64
back d n q hd hq =
    cut (n + (64 - 8 * d)) (64 - 8 * ((q + (8 - d)) % 8))
    ∙ ⊎_elim
    (λ (l : q < d).
    let e : (n + (64 - 8 * d)) + (64 - 8 * ((q + (8 - d)) % 8)) ≡ n + (64 - 8 * q) = omega arith in
    ap (λ (m : ℕ). m % 64) e)
    (λ (g : d ≤ q).
    let e : (n + (64 - 8 * d)) + (64 - 8 * ((q + (8 - d)) % 8)) ≡ (n + (64 - 8 * q)) + 64 = omega arith in
    ap (λ (m : ℕ). m % 64) e ∙ around (n + (64 - 8 * q)))
    (lt_or_ge q d)

turned_place : (p : Planes) (d n i : ℕ) → d < 8 → n < 64 → i < 64 → turned_bit p (before (8 * d) n) (before (8 * d) i) ≡ turned_bit p n i
unfolding turned_bit before
turned_place p d n i hd hn hi =
    let g : (i + (64 - 8 * d)) % 64 % 8 ≡ i % 8 = omega arith in
    let l : i / 8 < 8 = omega arith in
    ap₂ (λ (m c : ℕ). bit m (word p c))
    (ap (λ (q : ℕ). ((n + (64 - 8 * d)) % 64 + (64 - 8 * q)) % 64) (columns d i hd hi) ∙ back d n (i / 8) hd l) g

pub turned_here : (p : Planes) (k x r : ℕ) → Turned k x r → T (eqb (8 * (k / 8 % 8)) k) → (a : Summed p x) (n : ℕ) → n < 64
    → bit n r ≡ sum_at p (λ i. a.mask (before k i)) n
unfolding sum_at before
turned_here p k x r t w a n h =
    let e : 8 * (k / 8 % 8) ≡ k = eqb→eq (8 * (k / 8 % 8)) k w in
    let l : k / 8 % 8 < 8 = mod-lt (k / 8) (lit< tt) in
    t.bits n h ∙ a.here (before k n) (mod-lt (n + (64 - k)) (lit< tt))
    ∙ all_turned k (λ i. only (a.mask i) (turned_bit p (before k n) i)) (omega arith)
    ∙ all_same 64 _ _ (λ i g.
    ap (only (a.mask (before k i))) (ap (λ (m : ℕ). turned_bit p (before m n) (before m i)) (sym e) ∙ turned_place p (k / 8 % 8) n i l h g))

unfoldable pub turned : (p : Planes) {k x r : ℕ} → Turned k x r → T (eqb (8 * (k / 8 % 8)) k) → Summed p x → Summed p r
turned p {k} {x} {r} t w a = record { mask = λ i. a.mask (before k i); low = λ i. a.low (before k i); here = turned_here p k x r t w a }

-- ---- one mask for another: they are compared at each of the 64
abbrev pub agree : (ℕ → ℕ) → (ℕ → ℕ) → ℕ → ℕ → Bool
agree m o i x = eqb (m i) (o i)

pub masked : {p : Planes} {x : ℕ} (o : ℕ → ℕ) (a : Summed p x) → T (every (agree a.mask o) 0 places)
    → (n : ℕ) → n < 64 → bit n x ≡ sum_at p o n
unfolding places sum_at
masked {p} {x} o a t n h =
    a.here n h
    ∙ all_same 64 _ _ (λ i l.
    ap (λ (q : ℕ). only q (turned_bit p n i))
    (eqb→eq (a.mask i) (o i) (at (agree a.mask o) places t i (omega (arith, length_listed 0 64 (λ k. k))))))
