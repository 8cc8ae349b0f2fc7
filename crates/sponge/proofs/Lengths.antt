-- How many bytes: of the state, of a group, of what an operation gives; how often π runs.
-- Assumes nothing.
use mathlib.Core.Path.{◌≡◌, ap, ◌∙◌}
use mathlib.Core.Bool.{Bool, true, false}
use mathlib.Core.List.{List}
use Prim.Native.Nat.{ℕ, zero, suc, min, max, ◌+◌, ◌-◌, ◌*◌, ◌/◌, ◌≤◌, ◌<◌}
use native.Mathlib.Omega.{arith}
use lib.Dec.{T}
use lib.ListN.{length, length-append, length-take, length-drop}
use lib.Seq.{length-take-le}
use Rattle.laws.proofs.SpliceLaws.{length_splice}
use Rattle.pi.specs.Permutation.{π, rounds, round}
use Rattle.sponge.specs.Blink.{Op, put, get, enc, dec, kept, given, group, runs, met, gave, after, out}
use Rattle.sponge.proofs.Groups.{length_added, length_masked}

-- all but put give bytes
abbrev pub gives : Op → Bool
gives put = false
gives get = true
gives enc = true
gives dec = true

pub length_π : (s : List ℕ) → length (π s) ≡ 64
unfolding π rounds round
length_π s = length_added _ _

-- ---- one group
pub length_kept : (op : Op) (v g : List ℕ) → length v ≡ 64 → length g ≤ 64 → length (kept op v g) ≡ 64
unfolding kept
length_kept put v g h b = length_added g v
length_kept get v g h b = h
length_kept enc v g h b = length_added g v
length_kept dec v g h b = length_splice v 0 g (omega arith) ∙ h

pub length_given : (op : Op) → T (gives op) → (v g : List ℕ) → length v ≡ 64 → length g ≤ 64 → length (given op v g) ≡ length g
unfolding given
length_given put t v g h b = absurd t
length_given get t v g h b = length-take-le (length g) v (omega arith)
length_given enc t v g h b = length_masked g v b
length_given dec t v g h b = length_masked g v b

pub length_group : (s : List ℕ) (k : ℕ) → length (group s k) ≡ min 32 (length s - k * 32)
unfolding group
length_group s k = simp (length-take, length-drop)

-- ---- the groups of s
pub runs_count : (s : List ℕ) → runs s ≡ max ((length s + 31) / 32) 1
unfolding runs
runs_count s = omega arith

pub runs_same : (s t : List ℕ) → length s ≡ length t → runs s ≡ runs t
unfolding runs
runs_same s t e = ap (λ (n : ℕ). suc ((n - 1) / 32)) e

pub runs_hold : (s : List ℕ) → length s ≤ runs s * 32
unfolding runs
runs_hold s = omega arith

-- the groups before the last are full
pub runs_full : (s : List ℕ) (k : ℕ) → k < runs s → k * 32 ≤ length s
unfolding runs
runs_full s k h = omega arith

pub length_met : (op : Op) (domain : ℕ) (v s : List ℕ) (k : ℕ) → length v ≡ 64 → length (met op domain v s k) ≡ 64
unfolding met
length_met op domain v s zero h = h
length_met op domain v s (suc k) h = length_π _

pub length_after : (op : Op) (domain : ℕ) (v s : List ℕ) → length (after op domain v s) ≡ 64
unfolding after runs met
length_after op domain v s = length_π _

pub length_gave : (op : Op) → T (gives op) → (domain : ℕ) (v s : List ℕ) (k : ℕ) → length v ≡ 64 → length (gave op domain v s k) ≡ min (k * 32) (length s)
unfolding gave
length_gave op t domain v s zero h = omega arith
length_gave op t domain v s (suc k) h =
    let l = length_given op t (met op domain v s k) (group s k) (length_met op domain v s k h) (omega (arith, length_group s k)) in
    length-append (gave op domain v s k) (given op (met op domain v s k) (group s k))
    ∙ omega (arith, length_gave op t domain v s k h, l, length_group s k)

pub length_out : (op : Op) → T (gives op) → (domain : ℕ) (v s : List ℕ) → length v ≡ 64 → length (out op domain v s) ≡ length s
unfolding out
length_out op t domain v s h = length_gave op t domain v s (runs s) h ∙ omega (arith, runs_hold s)
