-- Lists of 64 bytes.
-- Assumes nothing.
use mathlib.Core.Path.{◌≡◌, sym, subst}
use mathlib.Core.List.{List}
use mathlib.Core.Logic.{⊎_elim}
use Prim.Native.Nat.{ℕ, ◌<◌}
use native.Mathlib.Omega.{arith}
use lib.Dec.{T, lit<, ltb, ltb→lt}
use lib.ListN.{length, get_or, get_or-eq_default}
use Rattle.laws.specs.Lists.{listed, AllBytes}
use Rattle.laws.proofs.OrderLaws.{lt_or_ge}
use Rattle.laws.proofs.TableLaws.{every, at}
use Rattle.pi.specs.Permutation.{state_by}
use Rattle.pi.proofs.Build.{length_state_by, state_at}

-- a list of 64 bytes
pub record Full (s : List ℕ) : Type 0 where
  pub long : length s ≡ 64
  pub bytes : AllBytes s

-- 0, 1, .. 63, for the tests at each place
unfoldable pub places : List ℕ
places = listed 0 64 (λ k. k)

-- the bytes of a state by its rule, and of any list that passes the test
pub state_full : (f : ℕ → ℕ) → ((k : ℕ) → f k < 256) → Full (state_by f)
state_full f h =
    record {
      long = length_state_by f;
      bytes =
          λ k. ⊎_elim (λ l. subst (λ (n : ℕ). n < 256) (sym (state_at f k l)) (h k))
          (λ l. subst (λ (n : ℕ). n < 256) (sym (get_or-eq_default (state_by f) 0 {n = k} (omega (arith, length_state_by f)))) (lit< tt)) (lt_or_ge k 64);
    }

pub list_bytes : (m : List ℕ) → T (every (λ k x. ltb x 256) 0 m) → (k : ℕ) → get_or m k 0 < 256
list_bytes m t k =
    ⊎_elim (λ l. ltb→lt (get_or m k 0) 256 (at (λ k x. ltb x 256) m t k l))
    (λ l. subst (λ (n : ℕ). n < 256) (sym (get_or-eq_default m 0 {n = k} l)) (lit< tt)) (lt_or_ge k (length m))
