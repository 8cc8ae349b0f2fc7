-- Shift: where a byte goes, and either way undoes the other.
-- Assumes nothing.
use mathlib.Core.Path.{◌≡◌, ap, ◌∙◌}
use mathlib.Core.Bool.{Bool}
use mathlib.Core.List.{List}
use Prim.Native.Nat.{ℕ, ◌<◌}
use native.Mathlib.Omega.{arith}
use lib.Dec.{eqb, eqb→eq}
use lib.ListN.{get_or}
use Rattle.laws.specs.Lists.{listed}
use Rattle.laws.proofs.TableLaws.{at}
use Rattle.pi.specs.Permutation.{source, target, shift, shift⁻}
use Rattle.pi.proofs.Build.{state_at, state_is}
use Rattle.pi.proofs.StateLaws.{Full, places, state_full}

pub shift_full : (s : List ℕ) → Full s → Full (shift s)
unfolding shift
shift_full s w = state_full _ (λ k. w.bytes (source k))

pub shift⁻_full : (s : List ℕ) → Full s → Full (shift⁻ s)
unfolding shift⁻
shift⁻_full s w = state_full _ (λ k. w.bytes (target k))

target_below : (k : ℕ) → target k < 64
unfolding target
target_below k = omega arith

source_below : (k : ℕ) → source k < 64
unfolding source
source_below k = omega arith

there : ℕ → ℕ → Bool
there k x = eqb (source (target k)) k

source_target : (k : ℕ) → k < 64 → source (target k) ≡ k
unfolding there source target places listed
source_target k h = eqb→eq (source (target k)) k (at there places tt k h)

back : ℕ → ℕ → Bool
back k x = eqb (target (source k)) k

target_source : (k : ℕ) → k < 64 → target (source k) ≡ k
unfolding back source target places listed
target_source k h = eqb→eq (target (source k)) k (at back places tt k h)

-- the paper's direction: the byte at k moves to its target
pub shift_moves : (s : List ℕ) (k : ℕ) → k < 64 → get_or (shift s) (target k) 0 ≡ get_or s k 0
unfolding shift
shift_moves s k h = state_at (λ k. get_or s (source k) 0) (target k) (target_below k) ∙ ap (λ (n : ℕ). get_or s n 0) (source_target k h)

pub shift⁻_shift : (s : List ℕ) → Full s → shift⁻ (shift s) ≡ s
unfolding shift shift⁻
shift⁻_shift s w = state_is _ s w.long (λ k h. state_at (λ k. get_or s (source k) 0) (target k) (target_below k) ∙ ap (λ (n : ℕ). get_or s n 0) (source_target k h))

pub shift_shift⁻ : (s : List ℕ) → Full s → shift (shift⁻ s) ≡ s
unfolding shift shift⁻
shift_shift⁻ s w = state_is _ s w.long (λ k h. state_at (λ k. get_or s (target k) 0) (source k) (source_below k) ∙ ap (λ (n : ℕ). get_or s n 0) (target_source k h))
