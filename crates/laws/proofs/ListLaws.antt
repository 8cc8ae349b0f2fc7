-- Lists that are built by their rule: what stands at each place, when two are equal, and a loop that writes one from the front.
-- Assumes nothing.
use mathlib.Core.Path.{◌≡◌, refl, sym, ap, ap₂, ◌∙◌}
use mathlib.Core.List.{List, [], ◌∷◌, ◌++◌, append_assoc, append-nil}
use mathlib.Core.Logic.{⊎_elim}
use Prim.Native.Nat.{ℕ, zero, suc, ◌+◌, ◌-◌, ◌≤◌, ◌<◌}
use native.Mathlib.Nat.{add-zero, zero-add, add-suc, suc-add, le_of_suc-le-suc, not-suc-le-zero}
use native.Mathlib.Numerals.{add-one}
use native.Mathlib.Omega.{arith}
use lib.ListN.{length, get_or, set, take, drop, replicate, length-append, length-drop, drop_of_length-le, get_or-append}
use lib.Seq.{drop-cons, drop-append-add, set_at, get_or_at, append_snoc, ext_get_or, get_or-append-add, get_or-drop, get_or-take, length-take-le}
use Rattle.laws.specs.Lists.{listed}
use Rattle.laws.specs.Loops.{front}
use Rattle.laws.proofs.OrderLaws.{lt_or_ge}

pub length_listed : (i n : ℕ) (f : ℕ → ℕ) → length (listed i n f) ≡ n
unfolding listed
length_listed i zero f = refl
length_listed i (suc n) f = ap suc (length_listed (suc i) n f)

pub listed_at : (i n : ℕ) (f : ℕ → ℕ) (k : ℕ) → k < n → get_or (listed i n f) k 0 ≡ f (i + k)
unfolding listed
listed_at i zero f k h = absurd (not-suc-le-zero h)
listed_at i (suc n) f zero h = ap f (sym (add-zero i))
listed_at i (suc n) f (suc k) h = listed_at (suc i) n f k (le_of_suc-le-suc h) ∙ ap f (suc-add i k ∙ sym (add-suc i k))

pub listed_snoc : (i n : ℕ) (f : ℕ → ℕ) → listed i (suc n) f ≡ listed i n f ++ (f (i + n) ∷ [])
unfolding listed
listed_snoc i zero f = ap (λ (k : ℕ). f k ∷ []) (sym (add-zero i))
listed_snoc i (suc n) f = ap (λ (l : List ℕ). f i ∷ l) (listed_snoc (suc i) n f ∙ ap (λ (k : ℕ). listed (suc i) n f ++ (f k ∷ [])) (suc-add i n ∙ sym (add-suc i n)))

-- n elements behind i, by a rule of their own that agrees
pub listed_join : (i n : ℕ) (f g : ℕ → ℕ) → ((j : ℕ) → j < n → g j ≡ f (i + j)) → listed 0 (i + n) f ≡ listed 0 i f ++ listed 0 n g
unfolding listed
listed_join i zero f g same = ap (λ (k : ℕ). listed 0 k f) (add-zero i) ∙ sym (append-nil (listed 0 i f))
listed_join i (suc n) f g same =
    ap (λ (k : ℕ). listed 0 k f) (add-suc i n) ∙ listed_snoc 0 (i + n) f
    ∙ ap₂ (λ (l : List ℕ) (x : ℕ). l ++ (x ∷ [])) (listed_join i n f g (λ j h. same j (omega arith)))
    (ap f (zero-add (i + n)) ∙ sym (same n (omega arith)) ∙ ap g (sym (zero-add n)))
    ∙ append_assoc (listed 0 i f) (listed 0 n g) (g (0 + n) ∷ [])
    ∙ ap (λ (l : List ℕ). listed 0 i f ++ l) (sym (listed_snoc 0 n g))

-- the place counted from 0
pub listed_seen : (n : ℕ) (f : ℕ → ℕ) (k : ℕ) → k < n → get_or (listed 0 n f) k 0 ≡ f k
listed_seen n f k h = listed_at 0 n f k h ∙ ap f (zero-add k)

-- two are equal where their rules agree, and a list of n is the one of its own elements
pub listed_is : (n : ℕ) (f : ℕ → ℕ) (s : List ℕ) → length s ≡ n → ((k : ℕ) → k < n → f k ≡ get_or s k 0) → listed 0 n f ≡ s
listed_is n f s h e =
    ext_get_or 0 (listed 0 n f) s (length_listed 0 n f ∙ sym h) (λ k b. let b' : k < n = omega (arith, length_listed 0 n f) in listed_seen n f k b' ∙ e k b')

pub listed_same : (n : ℕ) (f g : ℕ → ℕ) → ((k : ℕ) → k < n → f k ≡ g k) → listed 0 n f ≡ listed 0 n g
listed_same n f g e = listed_is n f (listed 0 n g) (length_listed 0 n g) (λ k b. e k b ∙ sym (listed_seen n g k b))

-- the first n of a longer one, and of any list
pub listed_own : (n : ℕ) (s : List ℕ) → n ≤ length s → listed 0 n (λ k. get_or s k 0) ≡ take n s
listed_own n s h = listed_is n (λ k. get_or s k 0) (take n s) (length-take-le n s h) (λ k b. sym (get_or-take n s k 0 b))

pub listed_take : (n m : ℕ) (f : ℕ → ℕ) → n ≤ m → listed 0 n f ≡ take n (listed 0 m f)
listed_take n m f h =
    let l : n ≤ length (listed 0 m f) = omega (arith, length_listed 0 m f) in
    listed_same n f (λ k. get_or (listed 0 m f) k 0) (λ k b. sym (listed_seen m f k (omega arith))) ∙ listed_own n (listed 0 m f) l

-- ---- a loop that rewrites a list from the front: i places are written, the rest of s stands
pub front_none : (f : ℕ → ℕ) (s : List ℕ) → s ≡ front 0 f s
unfolding front listed
front_none f s = refl

pub length_front : (i : ℕ) (f : ℕ → ℕ) (s : List ℕ) → i ≤ length s → length (front i f s) ≡ length s
unfolding front
length_front i f s h = simp (length-append, length-drop, length_listed) (omega arith)

-- what stands at i is still s's
pub front_seen : (i : ℕ) (f : ℕ → ℕ) (s t : List ℕ) → t ≡ front i f s → i < length s → get_or t i 0 ≡ get_or s i 0
unfolding front
front_seen i f s t e h = rw e (rw (drop-cons s i 0 h) (get_or_at (listed 0 i f) (get_or s i 0) (drop (suc i) s) 0 i (length_listed 0 i f)))

pub front_more : (i : ℕ) (f : ℕ → ℕ) (s t : List ℕ) (v : ℕ) → t ≡ front i f s → i < length s → v ≡ f i → set t i v ≡ front (i + 1) f s
unfolding front
front_more i f s t v e h w =
    rw (e, drop-cons s i 0 h, w, add-one i)
    (set_at (listed 0 i f) (get_or s i 0) (drop (suc i) s) (f i) i (length_listed 0 i f)
    ∙ sym (append_snoc (listed 0 i f) (f i) (drop (suc i) s))
    ∙ ap (λ (l : List ℕ). l ++ drop (suc i) s) (ap (λ (k : ℕ). listed 0 i f ++ (f k ∷ [])) (sym (zero-add i)) ∙ sym (listed_snoc 0 i f)))

pub front_all : (n i : ℕ) (f : ℕ → ℕ) (s t : List ℕ) → t ≡ front i f s → length s ≡ n → i ≡ n → t ≡ listed 0 n f
unfolding front
front_all n i f s t e h k = rw (e, k, drop_of_length-le s {i = n} (omega arith)) (append-nil (listed 0 n f))

-- what stands before i is by the rule, and from i on as in s
pub front_before : (i : ℕ) (f : ℕ → ℕ) (s : List ℕ) (k : ℕ) → k < i → get_or (front i f s) k 0 ≡ f k
unfolding front
front_before i f s k p =
    get_or-append (listed 0 i f) (drop i s) 0 k (omega (arith, length_listed 0 i f)) ∙ listed_seen i f k p

pub front_after : (i : ℕ) (f : ℕ → ℕ) (s : List ℕ) (k : ℕ) → i ≤ k → get_or (front i f s) k 0 ≡ get_or s k 0
unfolding front
front_after i f s k p =
    let e₁ : k ≡ length (listed 0 i f) + (k - i) = omega (arith, length_listed 0 i f) in
    let e₂ : i + (k - i) ≡ k = omega arith in
    ap (λ (m : ℕ). get_or (front i f s) m 0) e₁ ∙ get_or-append-add (listed 0 i f) (drop i s) (k - i) 0 ∙ get_or-drop i s (k - i) 0 ∙ ap (λ (m : ℕ). get_or s m 0) e₂

-- a loop that stops early, where the rule leaves what follows as it is
pub front_rest : (n i : ℕ) (f : ℕ → ℕ) (s t : List ℕ) → t ≡ front i f s → length s ≡ n → i ≤ n → ((k : ℕ) → i ≤ k → f k ≡ get_or s k 0) → t ≡ listed 0 n f
front_rest n i f s t e h b same =
    e
    ∙ sym (listed_is n f (front i f s) (length_front i f s (omega arith) ∙ h)
    (λ k l. ⊎_elim (λ p. sym (front_before i f s k p)) (λ p. same k p ∙ sym (front_after i f s k p)) (lt_or_ge k i)))

-- ---- parts of zeros, and a part of a part
pub take_zeros : (n k : ℕ) → take {A = ℕ} n (replicate (n + k) 0) ≡ replicate n 0
take_zeros zero k = refl
take_zeros (suc n) k = rw (suc-add, take_zeros n k)

pub drop_zeros : (n k : ℕ) → drop {A = ℕ} n (replicate (n + k) 0) ≡ replicate k 0
drop_zeros zero k = rw zero-add
drop_zeros (suc n) k = rw suc-add (drop_zeros n k)

pub drop_take : (n k : ℕ) (l : List ℕ) → drop n (take (n + k) l) ≡ take k (drop n l)
drop_take zero k l = rw zero-add
drop_take (suc n) k [] = rw suc-add (sym (nil k))
  where
    nil : (j : ℕ) → take {A = ℕ} j [] ≡ []
    nil zero = refl
    nil (suc j) = refl
drop_take (suc n) k (x ∷ l) = rw suc-add (drop_take n k l)

-- what stands behind two lists, from r on
pub drop_behind : (a b d : List ℕ) (n r : ℕ) → length a + (length b + r) ≡ n → drop n (a ++ (b ++ d)) ≡ drop r d
drop_behind a b d n r e = rw (← e) (drop-append-add a (b ++ d) (length b + r) ∙ drop-append-add b d r)
