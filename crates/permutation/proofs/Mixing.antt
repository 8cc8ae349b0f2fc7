-- A mixed row, as the code computes it: bit by bit of the coefficients, and each column as the last one of the row turned.
-- Assumes nothing.
use mathlib.Core.Path.{◌≡◌, refl, sym, ap, ap₂, ◌∙◌}
use mathlib.Core.List.{List, [], ◌∷◌}
use Prim.Native.Nat.{ℕ, zero, suc, ◌+◌, ◌*◌, ◌/◌, ◌%◌}
use native.Mathlib.Omega.{arith}
use lib.ListN.{length}
use Rattle.laws.specs.Lists.{listed, splice}
use Rattle.laws.specs.Loops.{front}
use Rattle.laws.specs.Xor.{xor, xor_all}
use Rattle.laws.proofs.XorLaws.{ac, xor_assoc, xor_zero, zero_xor, all_same, all_zero_lem, all_sum}
use Rattle.laws.proofs.SpliceLaws.{front_lay}
use Rattle.pi.specs.Field.{only, double, times_bits, times}
use Rattle.pi.specs.Permutation.{turned, first_row, first_row⁻, mix_with}
use Rattle.permutation.specs.Rows.{row_at, eight, column}
use Rattle.pi.proofs.Build.{state_all}
use Rattle.pi.proofs.Field.{double_xor}
use Rattle.pi.proofs.Products.{double_zero, double_bits}

-- ---- a sum of products, from the lowest bit of the factors: what has it, and the double of what the other bits give
double_all : (n : ℕ) (f : ℕ → ℕ) → double (xor_all n f) ≡ xor_all n (λ i. double (f i))
unfolding xor_all
double_all zero f = double_zero
double_all (suc n) f = double_xor (f 0) (xor_all n (λ i. f (suc i))) ∙ ap (xor (double (f 0))) (double_all n (λ i. f (suc i)))

pub low_bit : (m n : ℕ) (c x : ℕ → ℕ)
    → xor_all n (λ i. times_bits (suc m) (c i) (x i)) ≡ xor (xor_all n (λ i. only (c i % 2) (x i))) (double (xor_all n (λ i. times_bits m (c i / 2) (x i))))
unfolding times_bits
low_bit m n c x =
    all_sum n (λ i. only (c i % 2) (x i)) (λ i. times_bits m (c i / 2) (double (x i)))
    ∙ ap (xor (xor_all n (λ i. only (c i % 2) (x i))))
    (all_same n _ _ (λ i h. sym (double_bits m (c i / 2) (x i))) ∙ sym (double_all n (λ i. times_bits m (c i / 2) (x i))))

-- so by one doubling a bit, whatever the number of products
unfoldable pub horner : ℕ → ℕ → (ℕ → ℕ) → (ℕ → ℕ) → ℕ
horner zero n c x = 0
horner (suc m) n c x = xor (xor_all n (λ i. only (c i % 2) (x i))) (double (horner m n (λ i. c i / 2) x))

pub by_bits : (m n : ℕ) (c x : ℕ → ℕ) → horner m n c x ≡ xor_all n (λ i. times_bits m (c i) (x i))
unfolding horner times_bits
by_bits zero n c x = sym (all_zero_lem n)
by_bits (suc m) n c x =
    ap (λ (y : ℕ). xor (xor_all n (λ i. only (c i % 2) (x i))) (double y)) (by_bits m n (λ i. c i / 2) x) ∙ sym (low_bit m n c x)

pub column_by_bits : (m : List ℕ) (x : ℕ → ℕ) (j : ℕ) → horner 8 8 (λ i. turned m i j) x ≡ column m x j
unfolding column times
column_by_bits m x j = by_bits 8 8 (λ i. turned m i j) x

-- ---- the last column, by three doublings, and back, by seven
pub three : (a b c d e f g h : ℕ)
    → xor (xor (xor (xor (xor a c) e) g) h) (double (xor b (double (xor (xor c f) (double (xor a d))))))
    ≡ horner 8 8 (λ i. turned first_row i 7) (eight a b c d e f g h)
unfolding horner turned first_row eight only xor_all
three a b c d e f g h = simp (double_zero, xor_zero, zero_xor, xor_assoc)

pub seven : (a b c d e f g h : ℕ)
    → xor (xor b g) (double (xor (xor (xor (xor (xor (xor a b) c) d) f) g)
    (double (xor (xor (xor (xor (xor a e) f) g) h) (double (xor (xor (xor (xor a b) f) g) (double (xor a
    (double (xor (xor (xor a e) g) (double (xor (xor (xor b c) d) (double (xor (xor (xor (xor b c) d) e) g))))))))))))))
    ≡ horner 8 8 (λ i. turned first_row⁻ i 7) (eight a b c d e f g h)
unfolding horner turned first_row⁻ eight only xor_all
seven a b c d e f g h = simp (double_zero, xor_zero, zero_xor, xor_assoc)

-- ---- the sum of eight, begun at another place
turned_once : (a b c d e f g h : ℕ)
    → xor a (xor b (xor c (xor d (xor e (xor f (xor g h)))))) ≡ xor b (xor c (xor d (xor e (xor f (xor g (xor h a))))))
turned_once a b c d e f g h = simp ac

turn : (f : ℕ → ℕ) → xor_all 8 f ≡ xor_all 8 (λ i. f ((i + 1) % 8))
unfolding xor_all
turn f = rw (xor_zero (f 7), xor_zero (f 0)) (turned_once (f 0) (f 1) (f 2) (f 3) (f 4) (f 5) (f 6) (f 7))

unfoldable pub spin : ℕ → (ℕ → ℕ) → ℕ → ℕ
spin zero f i = f i
spin (suc k) f i = spin k f ((i + 1) % 8)

pub spun : (k : ℕ) (f : ℕ → ℕ) → xor_all 8 f ≡ xor_all 8 (spin k f)
unfolding spin
spun zero f = refl
spun (suc k) f = spun k f ∙ turn (spin k f)

-- each column of a row is the last one of the row turned; z is its first byte
module _ (m : List ℕ) (x : ℕ → ℕ) where
  term : ℕ → ℕ → ℕ
  term j i = times (turned m i j) (x i)

  pub row_is : (z a b c d e f g h : ℕ) → z ≡ x 0
      → a ≡ column m (eight (x 1) (x 2) (x 3) (x 4) (x 5) (x 6) (x 7) z) 7 → b ≡ column m (eight (x 2) (x 3) (x 4) (x 5) (x 6) (x 7) z (x 1)) 7
      → c ≡ column m (eight (x 3) (x 4) (x 5) (x 6) (x 7) z (x 1) (x 2)) 7 → d ≡ column m (eight (x 4) (x 5) (x 6) (x 7) z (x 1) (x 2) (x 3)) 7
      → e ≡ column m (eight (x 5) (x 6) (x 7) z (x 1) (x 2) (x 3) (x 4)) 7 → f ≡ column m (eight (x 6) (x 7) z (x 1) (x 2) (x 3) (x 4) (x 5)) 7
      → g ≡ column m (eight (x 7) z (x 1) (x 2) (x 3) (x 4) (x 5) (x 6)) 7 → h ≡ column m (eight z (x 1) (x 2) (x 3) (x 4) (x 5) (x 6) (x 7)) 7
      → a ∷ b ∷ c ∷ d ∷ e ∷ f ∷ g ∷ h ∷ [] ≡ listed 0 8 (column m x)
  unfolding term column turned eight spin xor_all listed
  row_is z a b c d e f g h e₀ p₀ p₁ p₂ p₃ p₄ p₅ p₆ p₇ =
      let q₀ : a ≡ column m x 0 = (rw e₀ at p₀) ∙ sym (spun 1 (term 0)) in
      let q₁ : b ≡ column m x 1 = (rw e₀ at p₁) ∙ sym (spun 2 (term 1)) in
      let q₂ : c ≡ column m x 2 = (rw e₀ at p₂) ∙ sym (spun 3 (term 2)) in
      let q₃ : d ≡ column m x 3 = (rw e₀ at p₃) ∙ sym (spun 4 (term 3)) in
      let q₄ : e ≡ column m x 4 = (rw e₀ at p₄) ∙ sym (spun 5 (term 4)) in
      let q₅ : f ≡ column m x 5 = (rw e₀ at p₅) ∙ sym (spun 6 (term 5)) in
      let q₆ : g ≡ column m x 6 = (rw e₀ at p₆) ∙ sym (spun 7 (term 6)) in
      let q₇ : h ≡ column m x 7 = rw e₀ at p₇ in
      cc

-- ---- a loop that mixes a row a turn
unfoldable pub mixed_byte : List ℕ → List ℕ → ℕ → ℕ
mixed_byte m s k = column m (row_at s (k / 8 * 8)) (k % 8)

pub rows_more : (m s : List ℕ) (i : ℕ) (t t₀ x : List ℕ) → t ≡ front (i * 8) (mixed_byte m s) t₀ → x ≡ listed 0 8 (column m (row_at s (i * 8)))
    → splice t (i * 8) x ≡ front ((i + 1) * 8) (mixed_byte m s) t₀
unfolding mixed_byte
rows_more m s i t t₀ x e g =
    let k : i * 8 + 8 ≡ (i + 1) * 8 = omega arith in
    ap (splice t (i * 8)) g
    ∙ front_lay 8 (i * 8) (mixed_byte m s) (column m (row_at s (i * 8))) t₀ t e (λ j h.
    let e₁ : i * 8 ≡ (i * 8 + j) / 8 * 8 = omega arith in
    let e₂ : j ≡ (i * 8 + j) % 8 = omega arith in
    ap₂ (λ (b l : ℕ). column m (row_at s b) l) e₁ e₂)
    ∙ ap (λ (n : ℕ). front n (mixed_byte m s) t₀) k

pub rows_all : (m s : List ℕ) (i : ℕ) (t t₀ : List ℕ) → t ≡ front (i * 8) (mixed_byte m s) t₀ → length t₀ ≡ 64 → i ≡ 8 → t ≡ mix_with m s
unfolding mixed_byte column row_at mix_with
rows_all m s i t t₀ e h k = state_all (i * 8) (mixed_byte m s) t₀ t e h (omega arith)
