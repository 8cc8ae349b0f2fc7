-- For callers: which lengths are right, and what a call leaves where they are.
-- Assumes nothing.
use mathlib.Core.Path.{◌≡◌, refl, sym, ap, ◌∙◌}
use mathlib.Core.Bool.{Bool, true, false, ◌&&◌}
use mathlib.Core.List.{List}
use Prim.Native.Nat.{ℕ, ◌≤◌}
use native.Mathlib.Omega.{arith}
use borrow.Author.Tests.{eq-eqb, le-leb, eqb-true, leb-true}
use lib.Dec.{eqb, leb}
use lib.ListN.{length, take}
use lib.Seq.{take_all}
use Rattle.std.specs.Prelude.{IsOk, Result, Ok, Err}
use Rattle.numbers.specs.Refusals.{number_of}
use Rattle.numbers.specs.declared.Refusal.{Refusal}
use Rattle.numbers.specs.declared.Refusal.TheVariants as refusal
use Rattle.laws.specs.Choose.{first_of}
use Rattle.laws.specs.Lists.{splice}
use Rattle.laws.proofs.SpliceLaws.{splice_whole}
use Rattle.pi.specs.Permutation.{is_state}
use Rattle.sponge.specs.Blink.{Op, put, after, out, number, Put, Ran}

-- what holds of the lengths where a call is not refused
pub record Allowed (v s o : List ℕ) : Type 0 where
  pub full : length v ≡ 64
  pub same : length o ≡ length s
  pub few : length s ≤ 65536

all_true : (a b c : Bool) → first_of (a && b) 2 (first_of c 9 0) ≡ 0 → (a ≡ true) × (b ≡ true) × (c ≡ true)
all_true true true true e = (refl, refl, refl)
all_true true true false e = absurd (omega arith)
all_true true false c e = absurd (omega arith)
all_true false b c e = absurd (omega arith)

pub allowed : (v s o : List ℕ) → number v s o ≡ 0 → Allowed v s o
unfolding number is_state
allowed v s o e =
    let t = all_true (eqb (length v) 64) (eqb (length o) (length s)) (leb (length s) 65536) e in
    record {
      full = eqb-true (length v) 64 t.0;
      same = eqb-true (length o) (length s) t.1;
      few = leb-true (length s) 65536 t.2;
    }

pub number_zero : (v s o : List ℕ) → length v ≡ 64 → length o ≡ length s → length s ≤ 65536 → number v s o ≡ 0
unfolding number is_state
number_zero v s o h k l = rw (eq-eqb (length v) 64 h, eq-eqb (length o) (length s) k, le-leb (length s) 65536 l)

-- the bytes that are copied into a buffer of their length are all that it holds
pub copied : (o s t : List ℕ) → length o ≡ length s → t ≡ splice o 0 (take (length o) s) → t ≡ s
copied o s t e f = f ∙ ap (splice o 0) (take_all (length o) s (omega arith)) ∙ splice_whole o s (sym e)

-- what has the number 0 was not refused
pub accepted : (r : Result (Unit {0}) Refusal) → number_of r ≡ 0 → IsOk r
accepted (Ok x) e = refl
accepted (Err refusal.WrongImage) e = absurd (omega arith)
accepted (Err refusal.WrongLength) e = absurd (omega arith)
accepted (Err refusal.WrongZone) e = absurd (omega arith)
accepted (Err refusal.WrongRecord) e = absurd (omega arith)
accepted (Err refusal.NoRoom) e = absurd (omega arith)
accepted (Err refusal.Closed) e = absurd (omega arith)
accepted (Err refusal.WrongTag) e = absurd (omega arith)
accepted (Err refusal.Unlawful) e = absurd (omega arith)
accepted (Err refusal.AboveLimit) e = absurd (omega arith)

pub put_accepted : {domain : ℕ} {s v v' : List ℕ} (r : Result (Unit {0}) Refusal) → Put domain s v (number_of r) v' → length v ≡ 64 → length s ≤ 65536 → IsOk r
put_accepted {s = s} {v = v} r p h l = accepted r (p.code ∙ number_zero v s s h refl l)

pub ran_accepted : {op : Op} {domain : ℕ} {s v o v' o' : List ℕ} (r : Result (Unit {0}) Refusal) → Ran op domain s v o (number_of r) v' o'
    → length v ≡ 64 → length o ≡ length s → length s ≤ 65536 → IsOk r
ran_accepted {s = s} {v = v} {o = o} r p h k l = accepted r (p.code ∙ number_zero v s o h k l)

pub put_leaves : {domain r : ℕ} {s v v' : List ℕ} → Put domain s v r v' → length v ≡ 64 → length s ≤ 65536 → v' ≡ after put domain v s
put_leaves {s = s} {v = v} p h l = p.state ∙ rw (number_zero v s s h refl l)

module _ {op : Op} {domain r : ℕ} {s v o v' o' : List ℕ} (p : Ran op domain s v o r v' o') (h : length v ≡ 64) (k : length o ≡ length s) (l : length s ≤ 65536) where
  pub ran_state : v' ≡ after op domain v s
  ran_state = p.state ∙ rw (number_zero v s o h k l)

  pub ran_bytes : o' ≡ out op domain v s
  ran_bytes = p.bytes ∙ rw (number_zero v s o h k l)
