-- Spacing and the walk agree: spacing answers the place after the nth Mark of the walk from p, or how many Marks that
-- walk passes and where it ends.
-- Assumes nothing.
use borrow.Author.Tests.{eq-eqb, ne_eqb, le-leb, lt-leb, lt-ltb, ltb-true}
use mathlib.Core.Path.{◌≡◌, refl, sym, ap, ◌∙◌}
use mathlib.Core.Bool.{true, false}
use mathlib.Core.List.{List, [], ◌∷◌}
use mathlib.Core.Logic.{⊎_elim}
use Prim.Native.Nat.{ℕ, zero, suc, ◌+◌, ◌-◌, ◌≤◌, ◌<◌, min}
use native.Mathlib.Nat.{add-zero}
use native.Mathlib.Omega.{arith}
use lib.Dec.{ltb}
use lib.ListN.{length, get_or}
use Rattle.laws.specs.Choose.{pick}
use Rattle.laws.proofs.ChooseLaws.{no_refusal}
use Rattle.laws.proofs.OrderLaws.{lt_or_ge}
use Rattle.block.specs.Content.{Content, shut, more, head, first, mark, eod}
use Rattle.block.specs.Image.{View, view, capacity_of}
use Rattle.survey.specs.declared.Spaced.{Spaced}
use Rattle.reader.specs.Walk.{Told, Record, Mark, End, Bad, Stray, Cut, mark_or_end, between, read_at, is_end, Visit, visit, walk_from}
use Rattle.survey.specs.Spacing.{spaced_at, spaced_short, space_from, space_number, spacing}
use Rattle.survey.specs.Marks.{marks_of, end_of, spaced_over}
use Rattle.block.proofs.ImageSize.{asked}
use Rattle.reader.proofs.WalkLaws.{read_onward, walk_from_over}
use Rattle.survey.proofs.SpaceLaws.{record_gather, space_none, space_over}

-- ---- what is not refused
inside_image : (key image : List ℕ) (p : ℕ) → space_number key image p ≡ 0 → p ≤ capacity_of image
unfolding space_number
inside_image key image p e =
    let l = ltb-true p (capacity_of image) (no_refusal (ltb p (capacity_of image)) 7 0 (asked key image _ e).1).0 in omega arith

-- ---- where a read that says Mark goes on
next_between : (x : Content) (v : View) (c p : ℕ) → (between x v c p).told ≡ Mark → (between x v c p).next ≡ suc p
next_between shut v c p e = refl
next_between (more l b) v c p e = refl
next_between (head (first true b)) v c p e = refl
next_between (head (first false b)) v c p e =
    let z = ap {B = ℕ} (λ (t : Told). mark_or_end t 0 1 1) e in
    let o = record_gather {A = ℕ} (min (c - suc p) 63) v (suc p) b 0 1 1 in
    absurd (omega arith)
next_between (head mark) v c p e = refl
next_between (head eod) v c p e = cc

mark_next : (v : View) (c p : ℕ) → (read_at v c p).told ≡ Mark → (read_at v c p).next ≡ suc p
unfolding read_at
mark_next v c p e = next_between (v p) v c p e

-- ---- over a list of marks
module _ (p k m : ℕ) (marks : List ℕ) (end : ℕ) where
  over_some : suc k ≤ length marks → spaced_over p (suc k) m marks end ≡ spaced_at (suc (get_or marks k 0))
  unfolding spaced_over
  over_some h =
      let i : suc k - 1 ≡ k = omega arith in
      rw (ne_eqb (suc k) 0 (omega arith), le-leb (suc k) (length marks) h) (ap (λ (j : ℕ). spaced_at (suc (get_or marks j 0))) i)

  over_few : length marks < suc k → spaced_over p (suc k) m marks end ≡ spaced_short (m + length marks) end
  unfolding spaced_over
  over_few h = rw (ne_eqb (suc k) 0 (omega arith), lt-leb (suc k) (length marks) h)

over_none : (p m : ℕ) (marks : List ℕ) (end : ℕ) → spaced_at p ≡ spaced_over p 0 m marks end
unfolding spaced_over
over_none p m marks end = refl

over_end : (p k m end : ℕ) → spaced_short m end ≡ spaced_over p (suc k) m [] end
over_end p k m end = ap (λ (i : ℕ). spaced_short i end) (sym (add-zero m)) ∙ sym (over_few p k m [] end (omega arith))

-- where marks are wanted, it is the same from any place
over_from : (p q k m : ℕ) (marks : List ℕ) (end : ℕ) → spaced_over q (suc k) m marks end ≡ spaced_over p (suc k) m marks end
over_from p q k m marks end =
    ⊎_elim (λ l. over_few q k m marks end l ∙ sym (over_few p k m marks end l)) (λ l. over_some q k m marks end l ∙ sym (over_some p k m marks end l))
    (lt_or_ge (length marks) (suc k))

-- one mark passed
over_mark : (p k m : ℕ) (marks : List ℕ) (end : ℕ) → spaced_over (suc p) k (m + 1) marks end ≡ spaced_over p (suc k) m (p ∷ marks) end
over_mark p zero m marks end = sym (over_none (suc p) (m + 1) marks end) ∙ sym (over_some p 0 m (p ∷ marks) end (omega arith))
over_mark p (suc k) m marks end =
    let i : m + 1 + length marks ≡ m + suc (length marks) = omega arith in
    ⊎_elim (λ l. over_few (suc p) k (m + 1) marks end l ∙ ap (λ (j : ℕ). spaced_short j end) i ∙ sym (over_few p (suc k) m (p ∷ marks) end (omega arith)))
    (λ l. over_some (suc p) k (m + 1) marks end l ∙ sym (over_some p (suc k) m (p ∷ marks) end (omega arith)))
    (lt_or_ge (length marks) (suc k))

-- ---- spacing from p, by the walk from p
abbrev pub Agree : ℕ → View → ℕ → ℕ → ℕ → ℕ → Type 0
Agree f v c p n m = space_from f v c p n m ≡ spaced_over p n m (marks_of (walk_from f v c p)) (end_of c (walk_from f v c p))

-- a read that says t, with the next q and the walk w behind it
module _ (c p q k m : ℕ) (w : List Visit) (on by : Spaced) where
  agree_by : (t : Told) → (t ≡ Mark → q ≡ suc p)
      → (is_end t ≡ false → (on ≡ spaced_over q k (m + 1) (marks_of w) (end_of c w)) × (by ≡ spaced_over q (suc k) m (marks_of w) (end_of c w)))
      → mark_or_end t on (spaced_short m p) by ≡ spaced_over p (suc k) m (marks_of (visit p t ∷ pick (is_end t) [] w)) (end_of c (visit p t ∷ pick (is_end t) [] w))
  unfolding marks_of end_of
  agree_by (Record x) e h = (h refl).1 ∙ over_from p q k m (marks_of w) (end_of c w)
  agree_by Mark e h = (h refl).0 ∙ ap (λ (a : ℕ). spaced_over a k (m + 1) (marks_of w) (end_of c w)) (e refl) ∙ over_mark p k m (marks_of w) (end_of c w)
  agree_by End e h = over_end p k m p
  agree_by Bad e h = (h refl).1 ∙ over_from p q k m (marks_of w) (end_of c w)
  agree_by Stray e h = (h refl).1 ∙ over_from p q k m (marks_of w) (end_of c w)
  agree_by (Cut x) e h = (h refl).1 ∙ over_from p q k m (marks_of w) (end_of c w)

agree_none : (f : ℕ) (v : View) (c p m : ℕ) → Agree f v c p 0 m
agree_none f v c p m = sym (space_none v c 0 m p f refl) ∙ over_none p m (marks_of (walk_from f v c p)) (end_of c (walk_from f v c p))

agree_over : (f : ℕ) (v : View) (c p k m : ℕ) → c ≤ p → p ≤ c → Agree f v c p (suc k) m
unfolding marks_of end_of
agree_over f v c p k m l h =
    let e : p ≡ c = omega arith in
    sym (space_over v c (suc k) m (omega arith) p f l)
    ∙ ap (spaced_short m) e ∙ over_end p k m c
    ∙ ap (λ (w : List Visit). spaced_over p (suc k) m (marks_of w) (end_of c w)) (sym (walk_from_over f v c p l))

pub space_walk : (f : ℕ) (v : View) (c p n m : ℕ) → p ≤ c → c - p ≤ f → Agree f v c p n m
unfolding space_from walk_from
space_walk f v c p zero m h k = agree_none f v c p m
space_walk zero v c p (suc n) m h k = agree_over 0 v c p n m (omega arith) h
space_walk (suc f) v c p (suc n) m h k =
    let a = read_at v c p in
    let i : suc n - 1 ≡ n = omega arith in
    ⊎_elim (λ l. rw (ne_eqb (suc n) 0 (omega arith), lt-ltb p c l, i)
    (agree_by c p a.next n m (walk_from f v c a.next) (space_from f v c a.next n (m + 1)) (space_from f v c a.next (suc n) m) a.told (mark_next v c p)
    (λ g. let o = read_onward v c p l g in let x = o.passes in let y = o.stays in
    (space_walk f v c a.next n (m + 1) (omega arith) (omega arith), space_walk f v c a.next (suc n) m (omega arith) (omega arith)))))
    (λ l. agree_over (suc f) v c p n m l h) (lt_or_ge p c)

-- ---- the call: where nothing is refused, it answers by the marks of the walk from p
pub spacing_walk : (key : List ℕ) (id recording : ℕ) (image : List ℕ) (p n : ℕ) → space_number key image p ≡ 0
    → spacing key id recording image p n
    ≡ spaced_over p n 0 (marks_of (walk_from (capacity_of image - p) (view key id recording image) (capacity_of image) p)) (end_of (capacity_of image) (walk_from (capacity_of image - p) (view key id recording image) (capacity_of image) p))
unfolding spacing
spacing_walk key id recording image p n e =
    rw (eq-eqb _ _ e) (space_walk (capacity_of image - p) (view key id recording image) (capacity_of image) p n 0 (inside_image key image p e) (omega arith))
