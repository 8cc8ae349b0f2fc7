-- Eight bytes in a word, eight words in 64 bytes, and what a loop over eight words has done.
-- Assumes nothing.
use mathlib.Core.Path.{◌≡◌, refl, sym, ap, ap₂, subst, ◌∙◌}
use mathlib.Core.List.{List, [], ◌∷◌}
use mathlib.Core.Logic.{⊎_elim}
use Prim.Native.Nat.{ℕ, zero, suc, ◌+◌, ◌*◌, ◌/◌, ◌%◌, ◌^◌, ◌<◌, ◌≤◌}
use native.Mathlib.Nat.{mod-lt, div-one, add-zero}
use native.Mathlib.Omega.{arith}
use lib.Dec.{T, ltb, lit<}
use lib.Bits.{bit_xor, xor_shr, xor_mod}
use lib.ListN.{length, get_or, set, length-set}
use lib.Seq.{get_or-set_same, get_or-set_other}
use Rattle.std.specs.Int.{w64, to_le_bytes, from_le_bytes}
use Rattle.std.proofs.lemmas.Bool.{cases_eq}
use Rattle.std.proofs.lemmas.Nat.{le_bytes_8}
use Rattle.laws.specs.Xor.{xor}
use Rattle.laws.proofs.OrderLaws.{lt_or_ge, below8}
use Rattle.pi.specs.Permutation.{added}
use Rattle.pi.proofs.Build.{state_at, state_is, state_same}
use Rattle.planes.specs.Planes.{word, bytes_of}
use Rattle.planes.specs.Packing.{Holds}
use Rattle.planes.specs.declared.Planes.{Planes}

-- ---- word i is the one at place i
pub word_at : (p : Planes) (i : ℕ) → word p i ≡ get_or p.words i 0
unfolding word
word_at p i = ap (λ (j : ℕ). get_or p.words j 0) (omega arith)

-- ---- a loop over eight words: the first n of l are as P says
abbrev pub First : (ℕ → ℕ → Type 0) → ℕ → List ℕ → Type 0
First P n l = (length l ≡ 8) × ((i : ℕ) → i < n → P i (get_or l i 0))

pub first_more : (P : ℕ → ℕ → Type 0) (n v : ℕ) (l : List ℕ) → n < 8 → First P n l → P n v → First P (n + 1) (set l n v)
first_more P n v l h p q = (
  length-set l n v ∙ p.0,
  λ i k.
      ⊎_elim
      (λ s. subst (P i) (sym (get_or-set_other l n i v 0 (λ e. omega arith))) (p.1 i s))
      (λ s.
      let e : n ≡ i = omega arith in
      subst (λ (j : ℕ). P j (get_or (set l n v) j 0)) e (subst (P n) (sym (get_or-set_same l n v 0 (omega (arith, p.0)))) q))
      (lt_or_ge i n),
)

-- and word k set again
pub first_set : (P : ℕ → ℕ → Type 0) (k n v : ℕ) (l : List ℕ) → T (ltb k 8) → First P n l → P k v → First P n (set l k v)
first_set P k n v l h p q = (
  length-set l k v ∙ p.0,
  λ i g.
      ⊎_elim
      (λ (e : i ≡ k). subst (λ (j : ℕ). P j (get_or (set l k v) j 0)) (sym e) (subst (P k) (sym (get_or-set_same l k v 0 (omega (arith, p.0, lit< h)))) q))
      (λ (e : i ≡ k → ⊥). subst (P i) (sym (get_or-set_other l k i v 0 e)) (p.1 i g))
      (cases_eq i k),
)

pub first_all : (P : ℕ → ℕ → Type 0) (n : ℕ) (l : List ℕ) → 8 ≤ n → First P n l → (i : ℕ) → i < 8 → P i (get_or l i 0)
first_all P n l h p i k = p.1 i (omega arith)

-- ---- a word's bytes
pub byte_of_word : (w j : ℕ) → j < 8 → get_or (to_le_bytes w64 w) j 0 ≡ w / 2 ^ (8 * j) % 256
byte_of_word w = below8 (λ (j : ℕ). get_or (to_le_bytes w64 w) j 0 ≡ w / 2 ^ (8 * j) % 256) (ap (λ (y : ℕ). y % 256) (sym (div-one w))) refl refl refl refl refl refl refl

eight_below : (b : ℕ → ℕ) → ((j : ℕ) → b j < 256) → (i : ℕ) → get_or (b 0 ∷ b 1 ∷ b 2 ∷ b 3 ∷ b 4 ∷ b 5 ∷ b 6 ∷ b 7 ∷ []) i 0 < 256
eight_below b h zero = h 0
eight_below b h (suc zero) = h 1
eight_below b h (suc (suc zero)) = h 2
eight_below b h (suc (suc (suc zero))) = h 3
eight_below b h (suc (suc (suc (suc zero)))) = h 4
eight_below b h (suc (suc (suc (suc (suc zero))))) = h 5
eight_below b h (suc (suc (suc (suc (suc (suc zero)))))) = h 6
eight_below b h (suc (suc (suc (suc (suc (suc (suc zero))))))) = h 7
eight_below b h (suc (suc (suc (suc (suc (suc (suc (suc i)))))))) = lit< tt

pub row_is : (s : List ℕ) (at w : ℕ) → ((k : ℕ) → get_or s k 0 < 256)
    → w ≡ from_le_bytes w64 (get_or s at 0 ∷ get_or s (at + 1) 0 ∷ get_or s (at + 2) 0 ∷ get_or s (at + 3) 0 ∷ get_or s (at + 4) 0 ∷ get_or s (at + 5) 0 ∷ get_or s (at + 6) 0 ∷ get_or s (at + 7) 0 ∷ [])
    → Holds s at w
row_is s at w h e j l =
    let b : ℕ → ℕ = λ j. get_or s (at + j) 0 in
    let bs : ℕ → List ℕ = λ x. x ∷ b 1 ∷ b 2 ∷ b 3 ∷ b 4 ∷ b 5 ∷ b 6 ∷ b 7 ∷ [] in
    let f : w ≡ from_le_bytes w64 (bs (b 0)) = e ∙ ap (λ (n : ℕ). from_le_bytes w64 (bs (get_or s n 0))) (sym (add-zero at)) in
    sym (byte_of_word w j l) ∙ ap (λ (l : List ℕ). get_or l j 0) (le_bytes_8 (bs (b 0)) w refl (eight_below b (λ j. h (at + j))) f)
    ∙ below8 (λ (j : ℕ). get_or (bs (b 0)) j 0 ≡ get_or s (at + j) 0) refl refl refl refl refl refl refl refl j l

-- ---- eight words from 64 bytes, and 64 bytes from eight words
pub words_is : (s : List ℕ) (r : Planes) → length s ≡ 64 → ((i : ℕ) → i < 8 → Holds s (8 * i) (word r i)) → bytes_of r ≡ s
unfolding bytes_of
words_is s r l e =
    state_is _ s l (λ k h.
    let f : 8 * (k / 8) + k % 8 ≡ k = omega arith in
    e (k / 8) (omega arith) (k % 8) (mod-lt k (lit< tt)) ∙ ap (λ (n : ℕ). get_or s n 0) f)

-- the first n bytes are there, and those of the first n words
abbrev pub There : Planes → ℕ → List ℕ → Type 0
There p n s = (length s ≡ 64) × ((k : ℕ) → k < n → word p (k / 8) / 2 ^ (8 * (k % 8)) % 256 ≡ get_or s k 0)

abbrev pub Put : Planes → ℕ → List ℕ → Type 0
Put p n s = There p (8 * n) s

pub put_all : (p : Planes) (n : ℕ) (s : List ℕ) → 8 ≤ n → Put p n s → s ≡ bytes_of p
unfolding bytes_of
put_all p n s h q = sym (state_is _ s q.0 (λ k l. q.1 k (omega arith)))

-- ---- word by word
-- where the words at two places are taken, and each is place b
pub sum_at : (p q : Planes) {x b i j : ℕ} → x ≡ bit_xor (get_or p.words i 0) (get_or q.words j 0) → i ≡ b → j ≡ b → x ≡ bit_xor (word p b) (word q b)
sum_at p q {b = b} e f g = e ∙ ap₂ (λ (m n : ℕ). bit_xor (get_or p.words m 0) (get_or q.words n 0)) f g ∙ ap₂ bit_xor (sym (word_at p b)) (sym (word_at q b))

pub sum_is : (p q r : Planes) → ((i : ℕ) → i < 8 → word r i ≡ bit_xor (word p i) (word q i)) → bytes_of r ≡ added (bytes_of q) (bytes_of p)
unfolding bytes_of added xor
sum_is p q r e =
    state_same _ _ (λ k h.
    ap (λ (w : ℕ). w / 2 ^ (8 * (k % 8)) % 256) (e (k / 8) (omega arith))
    ∙ ap (λ (w : ℕ). w % 256) (xor_shr (word p (k / 8)) (word q (k / 8)) (8 * (k % 8)))
    ∙ xor_mod (word p (k / 8) / 2 ^ (8 * (k % 8))) (word q (k / 8) / 2 ^ (8 * (k % 8))) 8
    ∙ ap₂ bit_xor (sym (state_at (λ k. word p (k / 8) / 2 ^ (8 * (k % 8)) % 256) k h)) (sym (state_at (λ k. word q (k / 8) / 2 ^ (8 * (k % 8)) % 256) k h)))
