-- A list laid over another from an index on: lists laid behind one another, parts that come back, one turn of a loop that fills.
-- Assumes nothing.
use mathlib.Core.Path.{◌≡◌, sym, ap, ◌∙◌}
use mathlib.Core.List.{List, [], ◌∷◌, ◌++◌, append_assoc, append-nil}
use mathlib.Core.Logic.{⊎_elim}
use Prim.Native.Nat.{ℕ, suc, ◌+◌, ◌-◌, ◌≤◌, ◌<◌, min}
use native.Mathlib.Nat.{add-zero, zero-add, add_assoc}
use native.Mathlib.Omega.{arith}
use lib.ListN.{length, take, drop, length-append, length-take, length-drop, take-append-drop, drop_of_length-le}
use lib.ListN.{set, get_or, get_or-append}
use native.Mathlib.Numerals.{add-one}
use lib.Seq.{get_or-append-add, get_or-drop, set_at, drop-cons, take_at, drop_at, drop-drop, take_all}
use Rattle.laws.specs.Lists.{listed, splice}
use Rattle.laws.specs.Loops.{front}
use Rattle.laws.proofs.ListLaws.{length_listed, listed_join}
use Rattle.laws.proofs.OrderLaws.{lt_or_ge}

pub splice_nil : (l : List ℕ) (at : ℕ) → splice l at [] ≡ l
unfolding splice
splice_nil l at = rw add-zero (take-append-drop at l)

pub length_splice : (l : List ℕ) (at : ℕ) (b : List ℕ) → at + length b ≤ length l → length (splice l at b) ≡ length l
unfolding splice
length_splice l at b h = simp (length-append, length-take, length-drop) (omega arith)

-- one list laid behind another
module _ (l : List ℕ) (at : ℕ) (b c : List ℕ) (h : at + length b + length c ≤ length l) where
  head_length : length (take at l ++ b) ≡ at + length b
  head_length = simp (length-append, length-take) (omega arith)

  tail_drop : drop (at + length b + length c) ((take at l ++ b) ++ drop (at + length b) l) ≡ drop (at + length b + length c) l
  tail_drop =
      sym (drop-drop (length c) (at + length b) _)
      ∙ ap (λ (t : List ℕ). drop (length c) t) (drop_at (take at l ++ b) _ _ head_length)
      ∙ drop-drop (length c) (at + length b) l

  pub splice_behind : splice (splice l at b) (at + length b) c ≡ splice l at (b ++ c)
  unfolding splice
  splice_behind =
      rw (← append_assoc (take at l) b (drop (at + length b) l), take_at (take at l ++ b) (drop (at + length b) l) (at + length b) head_length, tail_drop)
      (simp (length-append, append_assoc, add_assoc))

-- a store behind what is laid
module _ (l : List ℕ) (at : ℕ) (b : List ℕ) (x : ℕ) (h : at + length b < length l) where
  length_front : length (take at l ++ b) ≡ at + length b
  length_front = simp (length-append, length-take) (omega arith)

  pub splice_snoc : set (splice l at b) (at + length b) x ≡ splice l at (b ++ (x ∷ []))
  unfolding splice
  splice_snoc =
      rw (
        ← append_assoc (take at l) b (drop (at + length b) l),
        drop-cons l (at + length b) 0 h,
        set_at (take at l ++ b) (get_or l (at + length b) 0) (drop (suc (at + length b)) l) x (at + length b) length_front,
      )
      (rw (length-append b (x ∷ []), ← add_assoc at (length b) 1, add-one (at + length b)) (simp append_assoc))

-- the same, at an index that is given apart
pub splice_store : (l : List ℕ) (at : ℕ) (b : List ℕ) (x j : ℕ) → at + length b ≡ j → j < length l
    → set (splice l at b) j x ≡ splice l at (b ++ (x ∷ []))
splice_store l at b x j e h =
    let k : at + length b < length l = omega arith in
    ap (λ (i : ℕ). set (splice l at b) i x) (sym e) ∙ splice_snoc l at b x k

-- one list laid behind another, at an index that is given apart
pub splice_next : (l : List ℕ) (at : ℕ) (b : List ℕ) (j : ℕ) (c : List ℕ) → at + length b ≡ j → j + length c ≤ length l
    → splice (splice l at b) j c ≡ splice l at (b ++ c)
splice_next l at b j c e h =
    let k : at + length b + length c ≤ length l = omega arith in
    ap (λ (i : ℕ). splice (splice l at b) i c) (sym e) ∙ splice_behind l at b c k

-- what is laid at the front is taken off again
pub take_splice : (l : List ℕ) (n : ℕ) (b : List ℕ) → length b ≡ n → take n (splice l 0 b) ≡ b
unfolding splice
take_splice l n b e = take_at b (drop (0 + length b) l) n e

-- one turn of a loop that lays `f n`, a list of n elements, from at on: f is any list that grows by one element a turn
pub fill_step : (f : ℕ → List ℕ) (x i at j : ℕ) (p p₀ : List ℕ) → length (f i) ≡ i → f (suc i) ≡ f i ++ (x ∷ []) → at + i ≡ j → j < length p₀
    → p ≡ splice p₀ at (f i) → set p j x ≡ splice p₀ at (f (i + 1))
fill_step f x i at j p p₀ n g k h e = rw (e, add-one, g) (splice_store p₀ at (f i) x j (omega arith) h)

-- a list laid over the whole
pub splice_whole : (l b : List ℕ) → length b ≡ length l → splice l 0 b ≡ b
unfolding splice
splice_whole l b e =
    let k : length l ≤ 0 + length b = omega arith in
    rw (drop_of_length-le l k, append-nil)

-- a part from at on that comes back as b, of the part's own length
pub splice_mid : (l : List ℕ) (at k : ℕ) (b : List ℕ) → length b ≡ k → take at l ++ (b ++ drop k (drop at l)) ≡ splice l at b
unfolding splice
splice_mid l at k b e = rw (drop-drop, ← e)

-- n elements by the rule, laid behind the first i
pub front_lay : (n i : ℕ) (f g : ℕ → ℕ) (s t : List ℕ) → t ≡ front i f s → ((j : ℕ) → j < n → g j ≡ f (i + j))
    → splice t i (listed 0 n g) ≡ front (i + n) f s
unfolding splice front
front_lay n i f g s t e same =
    rw (e, take_at (listed 0 i f) (drop i s) i (length_listed 0 i f), length_listed 0 n g)
    (rw (← drop-drop n i (listed 0 i f ++ drop i s), drop_at (listed 0 i f) (drop i s) i (length_listed 0 i f), drop-drop n i s, listed_join i n f g same)
    (sym (append_assoc (listed 0 i f) (listed 0 n g) (drop (i + n) s))))

-- what stands at k of a list with b laid over its front
pub splice_before : (l b : List ℕ) (k : ℕ) → k < length b → get_or (splice l 0 b) k 0 ≡ get_or b k 0
unfolding splice
splice_before l b k h = get_or-append b (drop (0 + length b) l) 0 k h

pub splice_after : (l b : List ℕ) (k : ℕ) → length b ≤ k → get_or (splice l 0 b) k 0 ≡ get_or l k 0
unfolding splice
splice_after l b k h =
    let e₁ : k ≡ length b + (k - length b) = omega arith in
    let e₂ : 0 + length b + (k - length b) ≡ k = omega arith in
    ap (λ (m : ℕ). get_or (b ++ drop (0 + length b) l) m 0) e₁
    ∙ get_or-append-add b (drop (0 + length b) l) (k - length b) 0
    ∙ get_or-drop (0 + length b) l (k - length b) 0
    ∙ ap (λ (m : ℕ). get_or l m 0) e₂

-- as much of b as there is room for, laid over the front
pub splice_front : (l b x : List ℕ) (n : ℕ) → x ≡ take n b → n ≡ min (length l) (length b) → x ++ drop n l ≡ splice l 0 (take (length l) b)
unfolding splice
splice_front l b x n e h =
    let t : take n b ≡ take (length l) b =
    ⊎_elim
    (λ p. let g : length b ≤ length l = omega arith in
    take_all n b (omega arith) ∙ sym (take_all (length l) b g))
    (λ p. let g : n ≡ length l = omega arith in ap (λ (m : ℕ). take m b) g)
    (lt_or_ge (length b) (length l)) in
    rw (e, zero-add, length-take (length l) b, t, h)
