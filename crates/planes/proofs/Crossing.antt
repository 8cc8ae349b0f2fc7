-- The transposition: two words crossed, a digit of all eight, the three digits together.
-- Assumes nothing.
use mathlib.Core.Path.{◌≡◌, refl, sym, ap, ap₂, subst, ◌∙◌}
use mathlib.Core.Bool.{Bool}
use mathlib.Core.List.{List}
use mathlib.Core.Logic.{⊎_elim}
use Prim.Native.Nat.{ℕ, ◌+◌, ◌-◌, ◌*◌, ◌/◌, ◌%◌, ◌^◌, ◌<◌, ◌≤◌}
use native.Mathlib.Nat.{mod-lt}
use native.Mathlib.Omega.{arith}
use lib.Dec.{T, lit<, eqb, ltb, eqb→eq, ltb→lt}
use lib.Bits.{bit_and, bit_xor, xor_zero_r}
use lib.ListN.{length, get_or, set, length-set}
use lib.Seq.{get_or-set_same, get_or-set_other}
use Rattle.laws.proofs.OrderLaws.{lt_or_ge, below2}
use Rattle.planes.specs.Planes.{bit, flipped, word, bytes_of}
use Rattle.planes.specs.Packing.{two, put, CrossedWord, Across, Crosswise, Crossed}
use Rattle.planes.specs.declared.Planes.{Planes}
use Rattle.planes.proofs.Tests.{upto, tested, tested₂}
use Rattle.planes.proofs.BitLaws.{bit_low, bit_xor_lem, bit_and_lem, bit_shr, shl_up, shl_under}
use Rattle.planes.proofs.FlipLaws.{same_bits, flipped_full, flipped_bit, bytes_of_full, bytes_of_bit}

-- ---- two words
module _ (x y e : ℕ) (hx : x < 2) (hy : y < 2) (he : e < 2) where
  low_two : bit_xor x (bit_and (bit_xor x y) (1 - (1 - e))) ≡ two e x y
  unfolding two
  low_two =
      below2 (λ (e : ℕ). bit_xor x (bit_and (bit_xor x y) (1 - (1 - e))) ≡ two e x y)
      (below2 (λ (x : ℕ). bit_xor x (bit_and (bit_xor x y) 0) ≡ x)
      (below2 (λ (y : ℕ). bit_xor 0 (bit_and (bit_xor 0 y) 0) ≡ 0) refl refl y hy) (below2 (λ (y : ℕ). bit_xor 1 (bit_and (bit_xor 1 y) 0) ≡ 1) refl refl y hy) x hx)
      (below2 (λ (x : ℕ). bit_xor x (bit_and (bit_xor x y) 1) ≡ y)
      (below2 (λ (y : ℕ). bit_xor 0 (bit_and (bit_xor 0 y) 1) ≡ y) refl refl y hy) (below2 (λ (y : ℕ). bit_xor 1 (bit_and (bit_xor 1 y) 1) ≡ y) refl refl y hy) x hx)
      e he

  high_two : bit_xor y (bit_and (bit_xor x y) (1 - e)) ≡ two e x y
  unfolding two
  high_two =
      below2 (λ (e : ℕ). bit_xor y (bit_and (bit_xor x y) (1 - e)) ≡ two e x y)
      (below2 (λ (x : ℕ). bit_xor y (bit_and (bit_xor x y) 1) ≡ x)
      (below2 (λ (y : ℕ). bit_xor y (bit_and (bit_xor 0 y) 1) ≡ 0) refl refl y hy) (below2 (λ (y : ℕ). bit_xor y (bit_and (bit_xor 1 y) 1) ≡ 1) refl refl y hy) x hx)
      (below2 (λ (x : ℕ). bit_xor y (bit_and (bit_xor x y) 0) ≡ y)
      (below2 (λ (y : ℕ). bit_xor y (bit_and (bit_xor 0 y) 0) ≡ y) refl refl y hy) (below2 (λ (y : ℕ). bit_xor y (bit_and (bit_xor 1 y) 0) ≡ y) refl refl y hy) x hx)
      e he

module _ (d m a b : ℕ) (c : Crossed d m) where
  moved_bit : (n : ℕ) → n < 64 → bit n (bit_and (bit_xor (a / 2 ^ d) b) m) ≡ bit_and (bit_xor (bit (n + d) a) (bit n b)) (1 - n / d % 2)
  moved_bit n h =
      bit_and_lem n (bit_xor (a / 2 ^ d) b) m
      ∙ ap₂ bit_and (bit_xor_lem n (a / 2 ^ d) b ∙ ap (λ (x : ℕ). bit_xor x (bit n b)) (bit_shr n d a)) (c.mask n h)

  cross_high : (n : ℕ) → n < 64 → bit n (bit_xor b (bit_and (bit_xor (a / 2 ^ d) b) m)) ≡ two (n / d % 2) (bit (n + d) a) (bit n b)
  cross_high n h =
      bit_xor_lem n b (bit_and (bit_xor (a / 2 ^ d) b) m) ∙ ap (bit_xor (bit n b)) (moved_bit n h)
      ∙ high_two (bit (n + d) a) (bit n b) (n / d % 2) (bit_low (n + d) a) (bit_low n b) (mod-lt (n / d) (lit< tt))

  cross_low : (n : ℕ) → n < 64 → bit n (bit_xor a (bit_and (bit_xor (a / 2 ^ d) b) m * 2 ^ d % 2 ^ 64)) ≡ two (n / d % 2) (bit n a) (bit (n - d) b)
  unfolding two
  cross_low n h =
      bit_xor_lem n a (bit_and (bit_xor (a / 2 ^ d) b) m * 2 ^ d % 2 ^ 64)
      ∙ ⊎_elim
      (λ l. ap (bit_xor (bit n a)) (shl_under n d (bit_and (bit_xor (a / 2 ^ d) b) m) h l) ∙ xor_zero_r (bit n a) ∙ sym (ap (λ (e : ℕ). two e (bit n a) (bit (n - d) b)) (c.lower n l)))
      (λ g. let s : n - d + d ≡ n = omega arith in
      let u : (n - d) / d % 2 ≡ 1 - n / d % 2 = c.upper (n - d) (omega arith) ∙ ap (λ (k : ℕ). 1 - k / d % 2) s in
      ap (bit_xor (bit n a)) (shl_up n d (bit_and (bit_xor (a / 2 ^ d) b) m) h g ∙ moved_bit (n - d) (omega arith) ∙ ap₂ (λ (k e : ℕ). bit_and (bit_xor (bit k a) (bit (n - d) b)) (1 - e)) s u)
      ∙ low_two (bit n a) (bit (n - d) b) (n / d % 2) (bit_low n a) (bit_low (n - d) b) (mod-lt (n / d) (lit< tt)))
      (lt_or_ge n d)

  pub cross_is : Crosswise d a b (bit_xor a (bit_and (bit_xor (a / 2 ^ d) b) m * 2 ^ d % 2 ^ 64)) (bit_xor b (bit_and (bit_xor (a / 2 ^ d) b) m))
  cross_is = record { low = cross_low; high = cross_high }

-- ---- a mask, by tests of its 64 places
abbrev pub inside_right : ℕ → ℕ → Bool
inside_right d i = ltb (two (i / d % 2) (i + d) 0) 8

abbrev pub mask_right : ℕ → ℕ → ℕ → Bool
mask_right d m n = eqb (bit n m) (1 - n / d % 2)

abbrev pub lower_right : ℕ → ℕ → Bool
lower_right d n = eqb (n / d % 2) 0

abbrev pub upper_right : ℕ → ℕ → Bool
upper_right d n = eqb (n / d % 2) (1 - (n + d) / d % 2)

pub crossed : (d m : ℕ) → 0 < d → d < 64 → T (upto (inside_right d) 8) → T (upto (mask_right d m) 64) → T (upto (lower_right d) d) → T (upto (upper_right d) 64) → Crossed d m
unfolding two
crossed d m p h s t u v =
    record {
      positive = p;
      small = h;
      inside = λ i g e. subst (λ (k : ℕ). two k (i + d) 0 < 8) e (ltb→lt _ _ (tested (inside_right d) 8 s i g));
      mask = λ n g. eqb→eq _ _ (tested (mask_right d m) 64 t n g);
      lower = λ n g. eqb→eq _ _ (tested (lower_right d) d u n g);
      upper = λ n g. eqb→eq _ _ (tested (upper_right d) 64 v n g);
    }

-- ---- one digit
either : (w : Planes) (i j n m e : ℕ) → e < 2 → two e (bit n (word w i)) (bit m (word w j)) ≡ bit (two e n m) (word w (two e i j))
unfolding two
either w i j n m e h = below2 (λ (e : ℕ). two e (bit n (word w i)) (bit m (word w j)) ≡ bit (two e n m) (word w (two e i j))) refl refl e h

differ : (x : ℕ) → x ≡ 1 → x ≡ 0 → ⊥
differ x e f = omega arith

-- the words j and j + d of a list are crossed
abbrev pub PairCrossed : ℕ → Planes → List ℕ → ℕ → Type 0
PairCrossed d w l j = CrossedWord d w j (get_or l j 0) × CrossedWord d w (j + d) (get_or l (j + d) 0)

-- those below i are
abbrev pub CrossedTo : ℕ → Planes → ℕ → List ℕ → Type 0
CrossedTo d w i l = (length l ≡ 8) × ((j : ℕ) → j < i → j / d % 2 ≡ 0 → PairCrossed d w l j)

module _ (d m : ℕ) (w : Planes) (c : Crossed d m) where
  digit : (i : ℕ) → i < 64 → i / d % 2 ≡ 0 → (i + d) / d % 2 ≡ 1
  digit i h e = let f : 0 ≡ 1 - (i + d) / d % 2 = sym e ∙ c.upper i h in one ((i + d) / d % 2) (mod-lt ((i + d) / d) (lit< tt)) f
    where
      one : (x : ℕ) → x < 2 → 0 ≡ 1 - x → x ≡ 1
      one x h e = omega arith

  low_word : (i x y : ℕ) → i / d % 2 ≡ 0 → Crosswise d (word w i) (word w (i + d)) x y → CrossedWord d w i x
  unfolding put two
  low_word i x y e a n h =
      a.low n h ∙ either w i (i + d) n (n - d) (n / d % 2) (mod-lt (n / d) (lit< tt))
      ∙ sym (ap (λ (k : ℕ). bit (two k (two (n / d % 2) n (n - d)) (two (n / d % 2) (n + d) n)) (word w (two (n / d % 2) (two k i (i - d)) (two k (i + d) i)))) e)

  high_word : (i x y : ℕ) → i < 64 → i / d % 2 ≡ 0 → Crosswise d (word w i) (word w (i + d)) x y → CrossedWord d w (i + d) y
  unfolding put two
  high_word i x y l e a n h =
      let f : i + d - d ≡ i = omega arith in
      a.high n h ∙ either w i (i + d) (n + d) n (n / d % 2) (mod-lt (n / d) (lit< tt))
      ∙ sym (ap₂ (λ (k j : ℕ). bit (two k (two (n / d % 2) n (n - d)) (two (n / d % 2) (n + d) n)) (word w (two (n / d % 2) (two k (i + d) j) (two k (i + d + d) (i + d))))) (digit i l e) f)

  -- the loop has crossed the pairs below i, and one more
  crossed_all_below : (i x y : ℕ) (l : List ℕ) → length l ≡ 8 → i < 8 → i / d % 2 ≡ 0 → Crosswise d (word w i) (word w (i + d)) x y
      → ((j : ℕ) → j < i → j / d % 2 ≡ 0 → PairCrossed d w l j)
      → (j : ℕ) → j < i + 1 → j / d % 2 ≡ 0 → PairCrossed d w (set (set l i x) (i + d) y) j
  crossed_all_below i x y l len h e a p j g f = ⊎_elim before here (lt_or_ge j i)
    where
      r : List ℕ
      r = set (set l i x) (i + d) y

      other : (k : ℕ) → (k ≡ i → ⊥) → (k ≡ i + d → ⊥) → get_or r k 0 ≡ get_or l k 0
      other k u v = get_or-set_other (set l i x) (i + d) k y 0 v ∙ get_or-set_other l i k x 0 u

      before : j < i → PairCrossed d w r j
      before q =
          let z : j + d ≡ i → ⊥ = λ s. differ ((j + d) / d % 2) (digit j (omega arith) f) (ap (λ (k : ℕ). k / d % 2) s ∙ e) in (
            λ n hn. ap (bit n) (other j (λ s. omega arith) (λ s. omega arith)) ∙ (p j q f).0 n hn,
            λ n hn. ap (bit n) (other (j + d) z (λ s. omega arith)) ∙ (p j q f).1 n hn,
          )

      here : i ≤ j → PairCrossed d w r j
      here q =
          let s : i ≡ j = omega arith in
          let u : get_or r i 0 ≡ x =
          get_or-set_other (set l i x) (i + d) i y 0 (λ s. omega (arith, c.positive)) ∙ get_or-set_same l i x 0 (omega arith) in
          let v : get_or r (i + d) 0 ≡ y = get_or-set_same (set l i x) (i + d) y 0 (omega (arith, c.inside i h e, length-set l i x)) in
          subst (PairCrossed d w r) s (λ n hn. ap (bit n) u ∙ low_word i x y e a n hn, λ n hn. ap (bit n) v ∙ high_word i x y (omega arith) e a n hn)

  pub crossed_more : (i x y : ℕ) (l r : List ℕ) → r ≡ set (set l i x) (i + d) y → i < 8 → i / d % 2 ≡ 0 → Crosswise d (word w i) (word w (i + d)) x y
      → CrossedTo d w i l → CrossedTo d w (i + 1) r
  crossed_more i x y l r s h e a p =
      rw s (length-set (set l i x) (i + d) y ∙ length-set l i x ∙ p.0, crossed_all_below i x y l p.0 h e a p.1)

  -- or none
  pub crossed_past : (i : ℕ) (l r : List ℕ) → r ≡ l → (i / d % 2 ≡ 0 → ⊥) → CrossedTo d w i l → CrossedTo d w (i + 1) r
  crossed_past i l r s n p = rw s (
    p.0,
    λ j g f.
        ⊎_elim (λ q. p.1 j q f)
        (λ q. let s : i ≡ j = omega arith in absurd (n (ap (λ (k : ℕ). k / d % 2) s ∙ f)))
        (lt_or_ge j i),
  )

  pub crossed_all : (i : ℕ) (l : List ℕ) → 8 ≤ i
      → ((j : ℕ) → j < i → j / d % 2 ≡ 0 → PairCrossed d w l j)
      → (j : ℕ) → j < 8 → CrossedWord d w j (get_or l j 0)
  crossed_all i l h p j g =
      below2 (λ (e : ℕ). j / d % 2 ≡ e → CrossedWord d w j (get_or l j 0))
      (λ f. (p j (omega arith) f).0)
      (λ f.
      ⊎_elim
      (λ q. absurd (differ (j / d % 2) f (c.lower j q)))
      (λ q.
      let s : j - d + d ≡ j = omega arith in
      let z : (j - d) / d % 2 ≡ 0 = c.upper (j - d) (omega arith) ∙ ap (λ (k : ℕ). 1 - k / d % 2) s ∙ ap (λ (k : ℕ). 1 - k) f in
      subst (λ (k : ℕ). CrossedWord d w k (get_or l k 0)) s (p (j - d) (omega arith) z).1)
      (lt_or_ge j d))
      (j / d % 2) (mod-lt (j / d) (lit< tt)) refl

-- ---- the three digits together
in8 : ℕ → ℕ → ℕ → Bool
in8 d i n = ltb (put d i n) 8

in64 : ℕ → ℕ → ℕ → Bool
in64 d i n = ltb (put d n i) 64

module _ (i n : ℕ) (hi : i < 8) (hn : n < 64) where
  word_in_4 : put 4 i n < 8
  unfolding in8 put two
  word_in_4 = ltb→lt _ _ (tested₂ (in8 4) 8 64 tt i n hi hn)

  bit_in_4 : put 4 n i < 64
  unfolding in64 put two
  bit_in_4 = ltb→lt _ _ (tested₂ (in64 4) 8 64 tt i n hi hn)

  word_in_2 : put 2 i n < 8
  unfolding in8 put two
  word_in_2 = ltb→lt _ _ (tested₂ (in8 2) 8 64 tt i n hi hn)

  bit_in_2 : put 2 n i < 64
  unfolding in64 put two
  bit_in_2 = ltb→lt _ _ (tested₂ (in64 2) 8 64 tt i n hi hn)

word_right : ℕ → ℕ → Bool
word_right i n = eqb (put 1 (put 2 (put 4 i n) (put 4 n i)) (put 2 (put 4 n i) (put 4 i n))) (n % 8)

place_right : ℕ → ℕ → Bool
place_right i n = eqb (put 1 (put 2 (put 4 n i) (put 4 i n)) (put 2 (put 4 i n) (put 4 n i))) (i + 8 * (n / 8))

word_is : (i n : ℕ) → i < 8 → n < 64 → put 1 (put 2 (put 4 i n) (put 4 n i)) (put 2 (put 4 n i) (put 4 i n)) ≡ n % 8
unfolding word_right put two
word_is i n hi hn = eqb→eq _ _ (tested₂ word_right 8 64 tt i n hi hn)

place_is : (i n : ℕ) → i < 8 → n < 64 → put 1 (put 2 (put 4 n i) (put 4 i n)) (put 2 (put 4 i n) (put 4 n i)) ≡ i + 8 * (n / 8)
unfolding place_right put two
place_is i n hi hn = eqb→eq _ _ (tested₂ place_right 8 64 tt i n hi hn)

module _ (w x y z : Planes) (e₁ : Across 1 w x) (e₂ : Across 2 x y) (e₄ : Across 4 y z) where
  bits_are : (i n : ℕ) → i < 8 → n < 64 → bit n (word z i) ≡ bit (i + 8 * (n / 8)) (word w (n % 8))
  bits_are i n hi hn =
      e₄ i hi n hn ∙ e₂ (put 4 i n) (word_in_4 i n hi hn) (put 4 n i) (bit_in_4 i n hi hn)
      ∙ e₁ (put 2 (put 4 i n) (put 4 n i)) (word_in_2 (put 4 i n) (put 4 n i) (word_in_4 i n hi hn) (bit_in_4 i n hi hn)) (put 2 (put 4 n i) (put 4 i n)) (bit_in_2 (put 4 i n) (put 4 n i) (word_in_4 i n hi hn) (bit_in_4 i n hi hn))
      ∙ ap₂ (λ (m j : ℕ). bit m (word w j)) (place_is i n hi hn) (word_is i n hi hn)

  pub transposed_is : bytes_of z ≡ flipped (bytes_of w)
  transposed_is =
      same_bits (bytes_of z) (flipped (bytes_of w)) (bytes_of_full z) (flipped_full (bytes_of w)) (λ b i j hb hi hj.
      let f₁ : (b + 8 * j) / 8 ≡ j = omega arith in
      let f₂ : (b + 8 * j) % 8 ≡ b = omega arith in
      bytes_of_bit z b i j hb hi hj ∙ bits_are i (b + 8 * j) hi (omega arith)
      ∙ ap₂ (λ (m n : ℕ). bit (i + 8 * m) (word w n)) f₁ f₂
      ∙ sym (flipped_bit (bytes_of w) b i j hb hi hj ∙ bytes_of_bit w i b j hi hb hj))
