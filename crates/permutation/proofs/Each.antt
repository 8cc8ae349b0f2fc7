-- A list each byte of which goes by a rule: done so far, done, and of a state.
-- Assumes nothing.
use mathlib.Core.Path.{◌≡◌, refl, ap, ◌∙◌}
use mathlib.Core.List.{List}
use Prim.Native.Nat.{ℕ}
use lib.ListN.{length, get_or}
use Rattle.laws.specs.Lists.{listed}
use Rattle.laws.specs.Loops.{front}
use Rattle.laws.proofs.ListLaws.{front_all}
use Rattle.pi.specs.Table.{S, S⁻}
use Rattle.pi.specs.Permutation.{state_by, added, substitute, substitute⁻, scramble⁻, round⁻}
use Rattle.pi.proofs.Build.{state_all}
use Rattle.permutation.specs.Rows.{each, moved}

unfoldable pub rule : (ℕ → ℕ) → List ℕ → ℕ → ℕ
rule f s k = f (get_or s k 0)

unfoldable pub move_rule : (ℕ → ℕ) → List ℕ → ℕ → ℕ
move_rule from s k = get_or s (from k) 0

pub moved_all : (from : ℕ → ℕ) (s t t₀ : List ℕ) (k : ℕ) → t ≡ front k (move_rule from s) t₀ → length t₀ ≡ 64 → k ≡ 64 → t ≡ moved from s
unfolding moved move_rule
moved_all from s t t₀ k e h l = state_all k (move_rule from s) t₀ t e h l

pub rule_at : (f : ℕ → ℕ) (s : List ℕ) (k : ℕ) → f (get_or s k 0) ≡ rule f s k
unfolding rule
rule_at f s k = refl

pub each_all : (f : ℕ → ℕ) (s t : List ℕ) (k : ℕ) → t ≡ front k (rule f s) s → k ≡ length s → t ≡ each f s
unfolding each rule
each_all f s t k e h = front_all (length s) k (rule f s) s t e refl h

each_64 : (f : ℕ → ℕ) (s : List ℕ) → length s ≡ 64 → each f s ≡ state_by (λ k. f (get_or s k 0))
unfolding each state_by
each_64 f s h = ap (λ (n : ℕ). listed 0 n (λ k. f (get_or s k 0))) h

pub substituted : (s : List ℕ) → length s ≡ 64 → each S s ≡ substitute s
unfolding substitute
substituted s h = each_64 S s h

pub substituted⁻ : (s : List ℕ) → length s ≡ 64 → each S⁻ s ≡ substitute⁻ s
unfolding substitute⁻
substituted⁻ s h = each_64 S⁻ s h

-- the steps of a round undone
pub undone : (key s t u : List ℕ) → t ≡ added key s → u ≡ scramble⁻ t → u ≡ round⁻ key s
unfolding round⁻
undone key s t u e f = f ∙ ap scramble⁻ e
