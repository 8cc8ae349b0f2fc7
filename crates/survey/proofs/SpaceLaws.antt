-- Spacing, one block a step: a block that shows a mark or end of data is met at its own place, and any other is passed
-- over.
-- Assumes nothing.
use borrow.Author.Tests.{eq-eqb, ne_eqb, lt-ltb, le-ltb}
use mathlib.Core.Path.{◌≡◌, refl, ap, ◌∙◌}
use mathlib.Core.Bool.{true, false}
use mathlib.Core.List.{List, ◌++◌}
use Prim.Native.Nat.{ℕ, zero, suc, ◌+◌, ◌-◌, ◌≤◌, ◌<◌, min}
use native.Mathlib.Numerals.{add-one}
use native.Mathlib.Omega.{arith}
use Rattle.block.specs.Content.{Content, shut, more, head, first, mark, eod}
use Rattle.block.specs.Image.{View}
use Rattle.block.specs.Calls.{seen_of}
use Rattle.block.specs.declared.Seen.TheVariants as seen
use Rattle.reader.specs.Walk.{mark_or_end, Answer, inside, gather, between, read_at}
use Rattle.survey.specs.declared.Spaced.{Spaced}
use Rattle.survey.specs.Spacing.{spaced_at, spaced_short, space_from}
use Rattle.reader.proofs.GatherLaws.{mark_seen, end_seen}
use Rattle.reader.proofs.GapLaws.{Quiet, Gap, here, step, gap_le, read_gap}
use Rattle.reader.proofs.WalkLaws.{read_onward}

-- ---- a record's read says neither Mark nor End
record_inside : {A : Type 0} (x : Content) (q : ℕ) (b : List ℕ) (on : List ℕ → Answer) (m e o : A) → ((d : List ℕ) → mark_or_end (on d).told m e o ≡ o)
    → mark_or_end (inside x q b on).told m e o ≡ o
record_inside shut q b on m e o k = refl
record_inside (more true d) q b on m e o k = refl
record_inside (more false d) q b on m e o k = k (b ++ d)
record_inside (head h) q b on m e o k = refl

pub record_gather : {A : Type 0} (room : ℕ) (v : View) (q : ℕ) (b : List ℕ) (m e o : A) → mark_or_end (gather room v q b).told m e o ≡ o
unfolding gather
record_gather zero v q b m e o = refl
record_gather (suc room) v q b m e o = record_inside (v q) q b (λ d. gather room v (suc q) d) m e o (λ d. record_gather room v (suc q) d m e o)

-- ---- a block that shows neither
abbrev Passed : Content → Type 0
Passed shut = Unit {0}
Passed (more l b) = Unit {0}
Passed (head (first l b)) = Unit {0}
Passed (head mark) = ⊥
Passed (head eod) = ⊥

passed_on : {A : Type 0} (x : Content) (v : View) (c p : ℕ) (m e o : A) → Passed x → mark_or_end (between x v c p).told m e o ≡ o
passed_on shut v c p m e o k = refl
passed_on (more l b) v c p m e o k = refl
passed_on (head (first true b)) v c p m e o k = refl
passed_on (head (first false b)) v c p m e o k = record_gather (min (c - suc p) 63) v (suc p) b m e o
passed_on (head mark) v c p m e o k = absurd k
passed_on (head eod) v c p m e o k = absurd k

-- ---- what the code sees
passed_by : (x : Content) → (seen_of x ≡ seen.End → ⊥) → (seen_of x ≡ seen.Mark → ⊥) → Passed x
passed_by shut e m = tt
passed_by (more l b) e m = tt
passed_by (head (first l b)) e m = tt
passed_by (head mark) e m = m refl
passed_by (head eod) e m = e refl

module _ (v : View) (c n m : ℕ) where
  pub space_none : (p f : ℕ) → n ≡ 0 → spaced_at p ≡ space_from f v c p n m
  unfolding space_from
  space_none p zero e = rw (eq-eqb _ _ e)
  space_none p (suc f) e = rw (eq-eqb _ _ e)

  module _ (e : n ≡ 0 → ⊥) where
    pub space_over : (p f : ℕ) → c ≤ p → spaced_short m p ≡ space_from f v c p n m
    unfolding space_from
    space_over p zero h = rw (ne_eqb _ _ e)
    space_over p (suc f) h = rw (ne_eqb _ _ e, le-ltb _ _ h)

    -- quiet blocks are passed one by one
    quiet : (q f : ℕ) → q < c → (x : Content) → v q ≡ x → Quiet x → space_from (suc f) v c q n m ≡ space_from f v c (suc q) n m
    unfolding space_from read_at
    quiet q f h shut i k = rw (ne_eqb _ _ e, lt-ltb _ _ h, i)
    quiet q f h (more l b) i k = rw (ne_eqb _ _ e, lt-ltb _ _ h, i)
    quiet q f h (head x) i k = absurd k

    space_gap : {d q : ℕ} → Gap v d q → d ≤ c → (f : ℕ) → space_from (d - q + f) v c q n m ≡ space_from f v c d n m
    space_gap {d} here h f = let i : d - d + f ≡ f = omega arith in rw i
    space_gap {d} (step {q = q} k g) h f =
        let l = gap_le g in
        let i : d - q + f ≡ suc (d - suc q + f) = omega arith in
        rw i (quiet q (d - suc q + f) (omega arith) (v q) refl k ∙ space_gap g h f)

    module _ (p : ℕ) (h : p < c) where
      pub space_end : (f : ℕ) → c - p ≤ f → seen_of (v p) ≡ seen.End → spaced_short m p ≡ space_from f v c p n m
      unfolding space_from read_at
      space_end zero j t = absurd (omega arith)
      space_end (suc f) j t = rw (ne_eqb _ _ e, lt-ltb _ _ h, end_seen (v p) t)

      pub space_mark : (f : ℕ) → c - p ≤ f → seen_of (v p) ≡ seen.Mark → space_from (f - 1) v c (p + 1) (n - 1) (m + 1) ≡ space_from f v c p n m
      unfolding space_from read_at
      space_mark zero j t = absurd (omega arith)
      space_mark (suc f) j t =
          let i : suc f - 1 ≡ f = omega arith in
          rw (ne_eqb _ _ e, lt-ltb _ _ h, mark_seen (v p) t, i, add-one p)

      -- r is the answer from the next block on
      pub space_other : (r : Spaced) → (seen_of (v p) ≡ seen.End → ⊥) → (seen_of (v p) ≡ seen.Mark → ⊥)
          → ((g : ℕ) → c - (p + 1) ≤ g → r ≡ space_from g v c (p + 1) n m) → (f : ℕ) → c - p ≤ f → r ≡ space_from f v c p n m
      unfolding space_from read_at
      space_other r t u w zero j = absurd (omega arith)
      space_other r t u w (suc f) j =
          let k = passed_by (v p) t u in
          let i = passed_on (v p) v c p false true false k in
          let o = read_onward v c p h i in
          let q = (read_at v c p).next in
          let b = o.passes in
          rw (ne_eqb _ _ e, lt-ltb _ _ h, passed_on (v p) v c p _ _ _ k)
          (w (q - suc p + f) (omega arith) ∙ ap (λ (a : ℕ). space_from (q - suc p + f) v c a n m) (add-one p) ∙ space_gap (read_gap v c p i) o.stays f)
