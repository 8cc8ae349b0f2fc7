-- Mixing: two matrices in a row are their product, the circulants at hand, and either way undoes the other.
-- Assumes nothing.
use mathlib.Core.Path.{◌≡◌, sym, ap, ap₂, ◌∙◌}
use mathlib.Core.Bool.{Bool}
use mathlib.Core.List.{List, [], ◌∷◌}
use Prim.Native.Nat.{ℕ, ◌+◌, ◌*◌, ◌/◌, ◌%◌, ◌<◌}
use native.Mathlib.Nat.{mod-lt}
use native.Mathlib.Omega.{arith}
use lib.Dec.{T, lit<, eqb, eqb→eq}
use lib.ListN.{get_or}
use Rattle.laws.specs.Lists.{listed}
use Rattle.laws.specs.Xor.{xor, xor_all}
use Rattle.laws.proofs.ListLaws.{length_listed}
use Rattle.laws.proofs.OrderLaws.{below8}
use Rattle.laws.proofs.TableLaws.{every, at}
use Rattle.laws.proofs.XorLaws.{xor_zero, zero_xor, all_same, all_swap, all_byte}
use Rattle.pi.specs.Field.{only, double, times_bits, times}
use Rattle.pi.specs.Permutation.{state_by, first_row, first_row⁻, turned, mix_with, mix, mix⁻}
use Rattle.pi.proofs.Build.{state_at, state_is, state_same}
use Rattle.pi.proofs.Products.{times_assoc, times_byte, zero_times, one_times}
use Rattle.pi.proofs.Sums.{times_all, all_times}
use Rattle.pi.proofs.StateLaws.{Full, places, state_full, list_bytes}

-- ---- mixing by c, then by d, is mixing by e where e's matrix is the product of theirs: 64 sums of eight products
unfoldable pub composed : List ℕ → List ℕ → List ℕ → ℕ → ℕ → Bool
composed c d e k x = eqb (xor_all 8 (λ l. times (turned d l (k % 8)) (turned c (k / 8) l))) (turned e (k / 8) (k % 8))

mixed_full : (c s : List ℕ) → Full s → Full (mix_with c s)
unfolding mix_with
mixed_full c s w = state_full _ (λ k. all_byte 8 _ (λ i. times_byte (turned c i (k % 8)) _ (w.bytes (k / 8 * 8 + i))))

module _ (c d e s : List ℕ) (hc : (k : ℕ) → get_or c k 0 < 256) (w : Full s) (test : T (every (composed c d e) 0 places)) where
  product : (i j : ℕ) → i < 8 → j < 8 → xor_all 8 (λ l. times (turned d l j) (turned c i l)) ≡ turned e i j
  unfolding composed places
  product i j hi hj =
      let e₁ : (i * 8 + j) / 8 ≡ i = omega arith in
      let e₂ : (i * 8 + j) % 8 ≡ j = omega arith in
      let f : ℕ → ℕ → ℕ = λ p q. xor_all 8 (λ l. times (turned d l q) (turned c p l)) in
      sym (ap₂ f e₁ e₂)
      ∙ eqb→eq (f ((i * 8 + j) / 8) ((i * 8 + j) % 8)) (turned e ((i * 8 + j) / 8) ((i * 8 + j) % 8))
      (at (composed c d e) places test (i * 8 + j) (omega (arith, length_listed 0 64 (λ k. k))))
      ∙ ap₂ (turned e) e₁ e₂

  at_row : (b l : ℕ) → b * 8 + l < 64 → l < 8 → get_or (mix_with c s) (b * 8 + l) 0 ≡ xor_all 8 (λ i. times (turned c i l) (get_or s (b * 8 + i) 0))
  unfolding mix_with
  at_row b l h hl =
      let e₁ : (b * 8 + l) / 8 ≡ b = omega arith in
      let e₂ : (b * 8 + l) % 8 ≡ l = omega arith in
      state_at _ (b * 8 + l) h ∙ ap₂ (λ (p q : ℕ). xor_all 8 (λ i. times (turned c i q) (get_or s (p * 8 + i) 0))) e₁ e₂

  row : (b j : ℕ) → b < 8 → j < 8
      → xor_all 8 (λ l. times (turned d l j) (get_or (mix_with c s) (b * 8 + l) 0)) ≡ xor_all 8 (λ i. times (turned e i j) (get_or s (b * 8 + i) 0))
  unfolding turned
  row b j hb hj =
      all_same 8 _ _ (λ l h.
      ap (times (turned d l j)) (at_row b l (omega arith) h)
      ∙ times_all (turned d l j) 8 (λ i. times (turned c i l) (get_or s (b * 8 + i) 0))
      ∙ all_same 8 _ _ (λ i g. times_assoc (turned d l j) (turned c i l) (get_or s (b * 8 + i) 0) (hc _) (w.bytes (b * 8 + i))))
      ∙ all_swap 8 8 (λ l i. times (times (turned d l j) (turned c i l)) (get_or s (b * 8 + i) 0))
      ∙ all_same 8 _ _ (λ i g.
      sym (all_times (get_or s (b * 8 + i) 0) 8 (λ l. times (turned d l j) (turned c i l)))
      ∙ ap (λ (n : ℕ). times n (get_or s (b * 8 + i) 0)) (product i j g hj))

  pub mix_mix : mix_with d (mix_with c s) ≡ mix_with e s
  unfolding mix_with
  mix_mix = state_same _ _ (λ k h. row (k / 8) (k % 8) (omega arith) (omega arith))

-- ---- the circulants at hand
-- c in the diagonal, nothing elsewhere
unfoldable pub only_at : ℕ → List ℕ
only_at c = c ∷ 0 ∷ 0 ∷ 0 ∷ 0 ∷ 0 ∷ 0 ∷ 0 ∷ []

diagonal : (c : ℕ) (x : ℕ → ℕ) (j : ℕ) → j < 8 → xor_all 8 (λ i. times (turned (only_at c) i j) (x i)) ≡ times c (x j)
unfolding xor_all turned only_at
diagonal c x =
    below8 (λ (j : ℕ). xor_all 8 (λ i. times (turned (only_at c) i j) (x i)) ≡ times c (x j))
    (simp (zero_times, zero_xor, xor_zero)) (simp (zero_times, zero_xor, xor_zero)) (simp (zero_times, zero_xor, xor_zero)) (simp (zero_times, zero_xor, xor_zero))
    (simp (zero_times, zero_xor, xor_zero)) (simp (zero_times, zero_xor, xor_zero)) (simp (zero_times, zero_xor, xor_zero)) (simp (zero_times, zero_xor, xor_zero))

-- mixing by the diagonal multiplies each byte
pub mix_diagonal : (c : ℕ) (s : List ℕ) → mix_with (only_at c) s ≡ state_by (λ k. times c (get_or s k 0))
unfolding mix_with
mix_diagonal c s =
    state_same _ _ (λ k h.
    let e : k / 8 * 8 + k % 8 ≡ k = omega arith in
    diagonal c (λ i. get_or s (k / 8 * 8 + i) 0) (k % 8) (mod-lt k (lit< tt)) ∙ ap (λ (n : ℕ). times c (get_or s n 0)) e)

mix_one : (s : List ℕ) → Full s → mix_with (only_at 1) s ≡ s
mix_one s w = mix_diagonal 1 s ∙ state_is _ s w.long (λ k h. one_times (get_or s k 0))

pub mix⁻_mix : (s : List ℕ) → Full s → mix⁻ (mix s) ≡ s
unfolding mix mix⁻ first_row first_row⁻ only_at composed places listed turned xor_all times times_bits double only xor
mix⁻_mix s w = mix_mix first_row first_row⁻ (only_at 1) s (list_bytes first_row tt) w tt ∙ mix_one s w

pub mix_mix⁻ : (s : List ℕ) → Full s → mix (mix⁻ s) ≡ s
unfolding mix mix⁻ first_row first_row⁻ only_at composed places listed turned xor_all times times_bits double only xor
mix_mix⁻ s w = mix_mix first_row⁻ first_row (only_at 1) s (list_bytes first_row⁻ tt) w tt ∙ mix_one s w

-- ---- mixing gives bytes
pub mix_full : (s : List ℕ) → Full s → Full (mix s)
unfolding mix
mix_full s w = mixed_full first_row s w

pub mix⁻_full : (s : List ℕ) → Full s → Full (mix⁻ s)
unfolding mix⁻
mix⁻_full s w = mixed_full first_row⁻ s w
