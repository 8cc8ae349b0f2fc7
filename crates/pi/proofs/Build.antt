-- A state of 64 bytes by its rule: the laws of such lists, at 64.
-- Assumes nothing.
use mathlib.Core.Path.{◌≡◌, refl}
use mathlib.Core.List.{List}
use Prim.Native.Nat.{ℕ, ◌<◌}
use lib.ListN.{length, get_or}
use Rattle.laws.specs.Loops.{front}
use Rattle.laws.specs.Xor.{xor_into}
use Rattle.laws.proofs.ListLaws.{length_listed, listed_seen, listed_is, listed_same, front_all}
use Rattle.pi.specs.Permutation.{state_by, added}

pub length_state_by : (f : ℕ → ℕ) → length (state_by f) ≡ 64
unfolding state_by
length_state_by f = length_listed 0 64 f

pub state_at : (f : ℕ → ℕ) (k : ℕ) → k < 64 → get_or (state_by f) k 0 ≡ f k
unfolding state_by
state_at f k h = listed_seen 64 f k h

pub state_is : (f : ℕ → ℕ) (s : List ℕ) → length s ≡ 64 → ((k : ℕ) → k < 64 → f k ≡ get_or s k 0) → state_by f ≡ s
unfolding state_by
state_is f s h e = listed_is 64 f s h e

pub state_same : (f g : ℕ → ℕ) → ((k : ℕ) → k < 64 → f k ≡ g k) → state_by f ≡ state_by g
unfolding state_by
state_same f g e = listed_same 64 f g e

pub state_all : (i : ℕ) (f : ℕ → ℕ) (s t : List ℕ) → t ≡ front i f s → length s ≡ 64 → i ≡ 64 → t ≡ state_by f
unfolding state_by
state_all i f s t e h k = front_all 64 i f s t e h k

-- what `buffer::add` leaves of a state
pub added_is : (key s : List ℕ) → length s ≡ 64 → xor_into key s ≡ added key s
unfolding xor_into added state_by
added_is key s h = rw h refl
