-- The walk counted: an answer by what is told of each of its blocks, between records and inside one.
-- Assumes nothing.
use borrow.Author.Tests.{eqb-true, eqb-false}
use mathlib.Core.Path.{◌≡◌, refl, sym, ap, ◌∙◌}
use mathlib.Core.Bool.{Bool, true, false}
use mathlib.Core.List.{List, [], ◌∷◌, ◌++◌}
use Prim.Native.Nat.{ℕ, zero, suc, ◌+◌, ◌-◌, ◌≤◌, ◌<◌, min}
use native.Mathlib.Nat.{add-zero}
use native.Mathlib.Numerals.{add-one}
use native.Mathlib.Omega.{arith}
use lib.Dec.{eqb}
use lib.ListN.{length, get_or, length-set}
use lib.Seq.{get_or-set_same, get_or-set_other}
use Rattle.std.specs.Prelude.{Option, Some, None}
use Rattle.laws.specs.Choose.{pick}
use Rattle.block.specs.Content.{Content, shut, more, head, first, mark, eod}
use Rattle.block.specs.Image.{View}
use Rattle.block.specs.Calls.{seen_of}
use Rattle.reader.specs.Walk as walk
use Rattle.reader.specs.Walk.{Answer, gather, between, read_at, is_end, Visit, visit, walk_from}
use Rattle.block.specs.declared.Seen.{Seen}
use Rattle.survey.specs.declared.Step.{Step}
use Rattle.survey.specs.declared.Told.{Told}
use Rattle.survey.specs.declared.Told.TheVariants as told
use Rattle.survey.specs.Report.{place_of, counted, tallied}
use Rattle.survey.specs.Steps.{place, told_between, told_inside, passed_inside, step_to, step_by, count_on, count_answer}
use Rattle.reader.proofs.WalkLaws.{walk_from_over, walk_from_step}

-- ---- a count goes up by one, the others stay
pub counted_at : (t : List ℕ) (j k : ℕ) → k < length t → get_or (counted j t) k 0 ≡ pick (eqb k j) 1 0 + get_or t k 0
counted_at t j k h = go (eqb k j) refl
  where
    go : (b : Bool) → eqb k j ≡ b → get_or (counted j t) k 0 ≡ pick b 1 0 + get_or t k 0
    go true e = let i = eqb-true k j e in rw i (get_or-set_same t j (get_or t j 0 + 1) 0 (omega arith) ∙ omega arith)
    go false e = get_or-set_other t j k (get_or t j 0 + 1) 0 (eqb-false k j e) ∙ omega arith

pub tallied_length : (w : List Visit) (t : List ℕ) → length (tallied w t) ≡ length t
unfolding tallied
tallied_length [] t = refl
tallied_length (x ∷ w) t = tallied_length w (counted (place_of x.says) t) ∙ length-set t (place_of x.says) _

-- ---- the walk, one read at a time
pub count_over : (f : ℕ) (v : View) (c p : ℕ) (t : List ℕ) → c ≤ p → t ≡ count_on f v c p t
unfolding count_on tallied
count_over f v c p t h = ap (λ (r : List Visit). tallied r t) (sym (walk_from_over f v c p h))

count_visit : (b : Bool) (p : ℕ) (x : walk.Told) (r : List Visit) (t : List ℕ)
    → pick b (counted (place_of x) t) (tallied r (counted (place_of x) t)) ≡ tallied (visit p x ∷ pick b [] r) t
unfolding tallied
count_visit true p x r t = refl
count_visit false p x r t = refl

pub count_step : (f : ℕ) (v : View) (c p : ℕ) (t : List ℕ) → p < c → c - p ≤ f → count_answer (read_at v c p) t (count_on (f - 1) v c) ≡ count_on f v c p t
unfolding count_on count_answer
count_step f v c p t h k =
    count_visit (is_end (read_at v c p).told) p (read_at v c p).told (walk_from (f - 1) v c (read_at v c p).next) t
    ∙ ap (λ (r : List Visit). tallied r t) (sym (walk_from_step f v c p h k))

-- ---- what is told of block p between records, case by case; `go` counts what follows an answer
module _ (v : View) (c p : ℕ) (t : List ℕ) (go : ℕ → List ℕ → List ℕ) where
  abbrev pub Outside : Option Told → Answer → Type 0
  Outside None a =
      (end : ℕ) → end ≡ min c (p + 64) → (r : List ℕ) → ((b : List ℕ) → r ≡ count_answer (gather (end - (p + 1)) v (p + 1) b) t go)
      → r ≡ count_answer a t go
  Outside (Some told.Record) a = go (p + 1) (counted 0 t) ≡ count_answer a t go
  Outside (Some told.Mark) a = go (p + 1) (counted 1 t) ≡ count_answer a t go
  Outside (Some told.End) a = counted 2 t ≡ count_answer a t go
  Outside (Some told.Bad) a = go (p + 1) (counted 3 t) ≡ count_answer a t go
  Outside (Some told.Stray) a = go (p + 1) (counted 4 t) ≡ count_answer a t go
  Outside (Some told.Cut) a = go (p + 1) (counted 5 t) ≡ count_answer a t go

  outside : (x : Content) → Outside (told_between (seen_of x)) (between x v c p)
  unfolding count_answer
  outside shut = ap (λ (n : ℕ). go n (counted 3 t)) (add-one p)
  outside (more l b) = ap (λ (n : ℕ). go n (counted 4 t)) (add-one p)
  outside (head (first true b)) = ap (λ (n : ℕ). go n (counted 0 t)) (add-one p)
  outside (head (first false b)) =
      let k : min c (p + 64) - (p + 1) ≡ min (c - suc p) 63 = omega arith in
      λ n i r w. w b ∙ rw (i, k, add-one p)
  outside (head mark) = ap (λ (n : ℕ). go n (counted 1 t)) (add-one p)
  outside (head eod) = refl

  pub outside_at : {told : Option Told} → told ≡ told_between (seen_of (v p)) → Outside told (read_at v c p)
  unfolding read_at
  outside_at e = rw e (outside (v p))

  -- any but the end
  pub outside_over : (x : Told) → (x ≡ told.End → ⊥) → (a : Answer) → Outside (Some x) a → go (p + 1) (counted (place x) t) ≡ count_answer a t go
  outside_over told.Record n a o = o
  outside_over told.Mark n a o = o
  outside_over told.End n a o = absurd (n refl)
  outside_over told.Bad n a o = o
  outside_over told.Stray n a o = o
  outside_over told.Cut n a o = o

-- ---- the step at block q, by whether there is room for it
pub step_none : (end : ℕ) (v : View) (q : ℕ) → end ≤ q → step_to (Some told.Cut) q ≡ step_by (end - q) v q
unfolding step_by
step_none end v q h = let k : end - q ≡ 0 = omega arith in rw k

pub step_seen : (end : ℕ) (v : View) (q : ℕ) → q < end → {s : Seen} {t : Option Told} {n : ℕ} → s ≡ seen_of (v q) → t ≡ told_inside s → n ≡ passed_inside s
    → step_to t (q + n) ≡ step_by (end - q) v q
unfolding step_by
step_seen end v q h e x y = let k : end - q ≡ suc (end - (q + 1)) = omega arith in rw (k, x, y, e)

-- ---- what is told of block q inside a record that ends before `end` at the latest
module _ (v : View) (end q : ℕ) (t : List ℕ) (go : ℕ → List ℕ → List ℕ) where
  abbrev pub Counts : Option Told → ℕ → Type 0
  Counts None n = (n ≡ q + 1) × ((r : List ℕ) → ((b : List ℕ) → r ≡ count_answer (gather (end - n) v n b) t go) → (b : List ℕ) → r ≡ count_answer (gather (end - q) v q b) t go)
  Counts (Some x) n = (b : List ℕ) → go n (counted (place x) t) ≡ count_answer (gather (end - q) v q b) t go

  pub record Within (s : Step) : Type 0 where
    pub counts : Counts s.told s.next
    pub near : q ≤ s.next
    pub stays : s.next ≤ q + (end - q)

  within : (x : Content) (room : ℕ) → end - q ≡ suc room → v q ≡ x → Within (step_to (told_inside (seen_of x)) (q + passed_inside (seen_of x)))
  unfolding gather count_answer
  within shut room k e = record { counts = λ b. rw (k, e, add-one q); near = omega arith; stays = omega arith }
  within (more true d) room k e = record { counts = λ b. rw (k, e, add-one q); near = omega arith; stays = omega arith }
  within (more false d) room k e =
      let n : end - (q + 1) ≡ room = omega arith in
      record { counts = (refl, λ r w b. w (b ++ d) ∙ rw (k, e, n, add-one q)); near = omega arith; stays = omega arith }
  within (head (first l d)) room k e = record { counts = λ b. rw (k, e, add-zero q); near = omega arith; stays = omega arith }
  within (head mark) room k e = record { counts = λ b. rw (k, e, add-zero q); near = omega arith; stays = omega arith }
  within (head eod) room k e = record { counts = λ b. rw (k, e, add-zero q); near = omega arith; stays = omega arith }

  -- by the blocks that may still belong to the record
  within_room : (room : ℕ) → end - q ≡ room → Within (step_by room v q)
  unfolding step_by gather count_answer
  within_room zero k = record { counts = λ b. rw k; near = omega arith; stays = omega arith }
  within_room (suc room) k = within (v q) room k refl

  pub within_at : {s : Step} → s ≡ step_by (end - q) v q → Within s
  within_at e = rw e (within_room (end - q) refl)
