-- A call and the call that undoes it leave the state as it was, whatever it is: permute and permute_back, round and round_back, each
-- first or last.
-- Assumes nothing.
use mathlib.Core.Path.{◌≡◌, refl, ◌∙◌}
use mathlib.Core.Bool.{Bool, true, false, ◌&&◌}
use mathlib.Core.List.{List}
use Prim.Native.Nat.{ℕ}
use borrow.Author.Tests.{eqb-true, eq-eqb}
use lib.ListN.{length}
use Rattle.laws.specs.Choose.{pick}
use Rattle.laws.specs.Lists.{AllBytes}
use Rattle.laws.proofs.ChooseLaws.{both_left, both_right}
use Rattle.pi.specs.Permutation.{π, π⁻, round, round⁻, rounds, rounds⁻, added, is_state, Permuted, Rounded}
use Rattle.pi.proofs.Build.{length_state_by}
use Rattle.pi.proofs.StateLaws.{Full}
use Rattle.pi.proofs.RoundLaws.{round⁻_full, round⁻_round, round_round⁻, π⁻_π, π_π⁻}

-- one call by f, then one by g, which undoes f where both are taken
undone : (ok : List ℕ → Bool) (f g : List ℕ → List ℕ) {s t u : List ℕ}
    → (ok s ≡ true → (ok (f s) ≡ true) × (g (f s) ≡ s)) → t ≡ pick (ok s) (f s) s → u ≡ pick (ok t) (g t) t → u ≡ s
undone ok f g {s} {t} {u} h p q = go (ok s) refl
  where
    go : (b : Bool) → ok s ≡ b → u ≡ s
    go true e = let e₁ : t ≡ f s = p ∙ rw e in q ∙ rw (e₁, (h e).0) (h e).1
    go false e = let e₁ : t ≡ s = p ∙ rw e in q ∙ rw (e₁, e)

-- ---- the tests, and the lengths
full : {s : List ℕ} → AllBytes s → is_state s ≡ true → Full s
unfolding is_state
full {s} b e = record { long = eqb-true (length s) 64 e; bytes = b }

is_state_lem : (s : List ℕ) → length s ≡ 64 → is_state s ≡ true
unfolding is_state
is_state_lem s h = eq-eqb (length s) 64 h

round_state : (key s : List ℕ) → is_state (round key s) ≡ true
unfolding round added
round_state key s = is_state_lem (round key s) (length_state_by _)

round⁻_state : (key s : List ℕ) → is_state (round⁻ key s) ≡ true
round⁻_state key s = is_state_lem (round⁻ key s) (round⁻_full key s).long

π_state : (s : List ℕ) → is_state (π s) ≡ true
unfolding π rounds
π_state s = round_state _ _

π⁻_state : (s : List ℕ) → is_state (π⁻ s) ≡ true
unfolding π⁻ rounds⁻
π⁻_state s = round⁻_state _ _

-- ---- the permutation
module _ {s t u : List ℕ} {r r' : ℕ} (bytes : AllBytes s) where
  pub permute_undone : Permuted π s r t → Permuted π⁻ t r' u → u ≡ s
  permute_undone p q = undone is_state π π⁻ (λ e. (π_state s, π⁻_π s (full bytes e))) p.state q.state

  pub permute_back_undone : Permuted π⁻ s r t → Permuted π t r' u → u ≡ s
  permute_back_undone p q = undone is_state π⁻ π (λ e. (π⁻_state s, π_π⁻ s (full bytes e))) p.state q.state

-- ---- a round with a key of the caller's
module _ {key s t u : List ℕ} {r r' : ℕ} (bytes : AllBytes s) where
  pub round_undone : Rounded round key s r t → Rounded round⁻ key t r' u → u ≡ s
  round_undone p q =
      undone (λ x. is_state x && is_state key) (round key) (round⁻ key)
      (λ e. (rw (round_state key s) (both_right (is_state s) _ e), round⁻_round key s (full bytes (both_left (is_state s) _ e))))
      p.state q.state

  pub round_back_undone : AllBytes key → Rounded round⁻ key s r t → Rounded round key t r' u → u ≡ s
  round_back_undone bytes-key p q =
      undone (λ x. is_state x && is_state key) (round⁻ key) (round key)
      (λ e.
      let k = both_right (is_state s) (is_state key) e in
      (rw (round⁻_state key s) k, round_round⁻ key s (full bytes-key k) (full bytes (both_left (is_state s) _ e))))
      p.state q.state
