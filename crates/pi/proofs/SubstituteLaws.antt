-- Substitution gives bytes, and either way undoes the other.
-- Assumes nothing.
use mathlib.Core.Path.{◌≡◌, ap, ◌∙◌}
use mathlib.Core.List.{List}
use Prim.Native.Nat.{ℕ, ◌<◌}
use lib.ListN.{get_or}
use Rattle.pi.specs.Table.{S, S⁻, table, back_table}
use Rattle.pi.specs.Permutation.{substitute, substitute⁻}
use Rattle.pi.proofs.Build.{state_at, state_is}
use Rattle.pi.proofs.Tables.{S⁻_S, S_S⁻}
use Rattle.pi.proofs.StateLaws.{Full, state_full, list_bytes}

pub any_S : (x : ℕ) → S x < 256
unfolding S table
any_S x = list_bytes table tt x

pub any_S⁻ : (x : ℕ) → S⁻ x < 256
unfolding S⁻ back_table
any_S⁻ x = list_bytes back_table tt x

pub substitute_full : (s : List ℕ) → Full (substitute s)
unfolding substitute
substitute_full s = state_full _ (λ k. any_S (get_or s k 0))

pub substitute⁻_full : (s : List ℕ) → Full (substitute⁻ s)
unfolding substitute⁻
substitute⁻_full s = state_full _ (λ k. any_S⁻ (get_or s k 0))

pub substitute⁻_substitute : (s : List ℕ) → Full s → substitute⁻ (substitute s) ≡ s
unfolding substitute substitute⁻
substitute⁻_substitute s w = state_is _ s w.long (λ k h. ap S⁻ (state_at (λ k. S (get_or s k 0)) k h) ∙ S⁻_S (get_or s k 0) (w.bytes k))

pub substitute_substitute⁻ : (s : List ℕ) → Full s → substitute (substitute⁻ s) ≡ s
unfolding substitute substitute⁻
substitute_substitute⁻ s w = state_is _ s w.long (λ k h. ap S (state_at (λ k. S⁻ (get_or s k 0)) k h) ∙ S_S⁻ (get_or s k 0) (w.bytes k))
