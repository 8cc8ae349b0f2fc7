-- The picture of a walk, answer by answer: where each reaches, and what is behind it.
-- Assumes nothing.
use borrow.Author.Tests.{eqb-true, eq-eqb, ne_eqb, lt-ltb}
use mathlib.Core.Path.{◌≡◌, refl, sym, ap, ap₂, ◌∙◌}
use mathlib.Core.Bool.{Bool, true, false}
use mathlib.Core.List.{List, [], ◌∷◌, ◌++◌, append_assoc, append-nil}
use mathlib.Core.Logic.{⊎_elim}
use Prim.Native.Nat.{ℕ, zero, suc, ◌+◌, ◌-◌, ◌≤◌, ◌<◌}
use native.Mathlib.Omega.{arith}
use lib.Dec.{eqb}
use lib.ListN.{length, take, drop, length-append, length-take}
use lib.Seq.{take_at, take_all}
use Rattle.laws.specs.Choose.{pick}
use Rattle.laws.specs.Lists.{listed, splice}
use Rattle.laws.proofs.ChooseLaws.{no_refusal}
use Rattle.laws.proofs.ListLaws.{length_listed}
use Rattle.laws.proofs.OrderLaws.{lt_or_ge}
use Rattle.block.specs.Image.{View, capacity_of, image_then_key, view}
use Rattle.block.proofs.ImageSize.{Asked, asks_refused, asks_rest, asked}
use Rattle.reader.specs.declared.Got.{Got}
use Rattle.reader.specs.Walk.{Told, Record, Mark, End, Bad, Stray, Cut, is_end, read_at, Visit, visit, walk_from, walk}
use Rattle.reader.specs.Reading.{outcome_of, read_number, read_answer, got_of, Read}
use Rattle.reader.proofs.WalkLaws.{read_onward, walk_from_over, walk_from_step}
use Rattle.picture.specs.Picture.{glyph_of, reach, pictured, draw_number, drawn}
use Rattle.picture.specs.Steps.{reaches, reached, painted, answered}

-- ---- what no refusal says
pub record Ready (key image : List ℕ) (room : ℕ) : Type 0 where
  pub asks : Asked key image
  pub sized : room ≡ capacity_of image

pub ready : (key image : List ℕ) (room : ℕ) → draw_number key image room ≡ 0 → Ready key image room
unfolding draw_number
ready key image room e =
    let a = asked key image _ e in
    record { asks = a.0; sized = eqb-true room (capacity_of image) (no_refusal (eqb room (capacity_of image)) 1 0 a.1).0 }

pub ready_reads : {key image : List ℕ} {room : ℕ} → Ready key image room → (p : ℕ) → p < room → read_number key image p 31232 ≡ 0
unfolding read_number
ready_reads {key} {image} r p h =
    let s = r.sized in
    let k : p < capacity_of image = omega arith in
    asks_rest key image r.asks _ ∙ rw (lt-ltb p (capacity_of image) k)

-- ---- the number, test by test, and what is left in the buffer
pub number_refused : (key image : List ℕ) (room : ℕ) → (image_then_key key image 0 ≡ 0 → ⊥) → draw_number key image room ≡ image_then_key key image 0
unfolding draw_number
number_refused key image room n = asks_refused key image _ n

pub number_room : {key image : List ℕ} → Asked key image → (room : ℕ) → (room ≡ capacity_of image → ⊥) → draw_number key image room ≡ 2
unfolding draw_number
number_room {key} {image} a room n = asks_rest key image a _ ∙ rw (ne_eqb room (capacity_of image) n)

pub number_done : {key image : List ℕ} → Asked key image → (room : ℕ) → room ≡ capacity_of image → draw_number key image room ≡ 0
unfolding draw_number
number_done {key} {image} a room e = asks_rest key image a _ ∙ rw (eq-eqb room (capacity_of image) e)

module _ (key : List ℕ) (id recording : ℕ) (image out : List ℕ) where
  pub refused_stays : (draw_number key image (length out) ≡ 0 → ⊥) → out ≡ drawn key id recording image out
  unfolding drawn
  refused_stays n = rw (ne_eqb (draw_number key image (length out)) 0 n)

  pub done_drawn : (out' : List ℕ) → draw_number key image (length out) ≡ 0
      → out' ≡ pictured (capacity_of image) (walk (view key id recording image) (capacity_of image)) → out' ≡ drawn key id recording image out
  unfolding drawn
  done_drawn out' e f = rw (eq-eqb (draw_number key image (length out)) 0 e) f

-- ---- a read that nothing refuses, and what follows from its answer
pub read_done : {key image b b' : List ℕ} {id recording p : ℕ} {g : Got} → Read key id recording image p b g b' → read_number key image p (length b) ≡ 0
    → g ≡ got_of (read_answer key id recording image p)
read_done {key = key} {image = image} {b = b} {p = p} r e = r.says ∙ rw (eq-eqb (read_number key image p (length b)) 0 e)

-- ---- where an answer reaches: to the end, or as far as it goes on
reaches_end : (t : Told) (n c : ℕ) → is_end t ≡ true → reaches (outcome_of t) n c ≡ c
reaches_end (Record b) n c e = cc
reaches_end Mark n c e = cc
reaches_end End n c e = refl
reaches_end Bad n c e = cc
reaches_end Stray n c e = cc
reaches_end (Cut q) n c e = cc

reaches_next : (t : Told) (n c : ℕ) → is_end t ≡ false → reaches (outcome_of t) n c ≡ n
reaches_next (Record b) n c e = refl
reaches_next Mark n c e = refl
reaches_next End n c e = cc
reaches_next Bad n c e = refl
reaches_next Stray n c e = refl
reaches_next (Cut q) n c e = refl

module _ (v : View) (c : ℕ) where
  -- past its place, and on the cartridge
  pub reached_within : (p : ℕ) → p < c → (p < reached (read_at v c p) c) × (reached (read_at v c p) c ≤ c)
  reached_within p h = go (is_end (read_at v c p).told) refl
    where
      go : (b : Bool) → is_end (read_at v c p).told ≡ b → (p < reached (read_at v c p) c) × (reached (read_at v c p) c ≤ c)
      go true e = let i = reaches_end (read_at v c p).told (read_at v c p).next c e in (omega arith, omega arith)
      go false e =
          let i = reaches_next (read_at v c p).told (read_at v c p).next c e in
          let o = read_onward v c p h e in
          let s = o.passes in
          let t = o.stays in
          (omega arith, omega arith)

  -- ---- a walk is one, however many reads are allowed
  same_walk : (n m p : ℕ) → c - p ≤ n → c - p ≤ m → walk_from n v c p ≡ walk_from m v c p
  same_walk zero m p h k = walk_from_over zero v c p (omega arith) ∙ sym (walk_from_over m v c p (omega arith))
  same_walk (suc n) m p h k =
      ⊎_elim
      (λ l. walk_from_step (suc n) v c p l h ∙ go (is_end (read_at v c p).told) refl l (same_walk n (m - 1) (read_at v c p).next) ∙ sym (walk_from_step m v c p l k))
      (λ l. walk_from_over (suc n) v c p l ∙ sym (walk_from_over m v c p l))
      (lt_or_ge p c)
    where
      go : (b : Bool) → is_end (read_at v c p).told ≡ b → p < c
          → (c - (read_at v c p).next ≤ n → c - (read_at v c p).next ≤ m - 1 → walk_from n v c (read_at v c p).next ≡ walk_from (m - 1) v c (read_at v c p).next)
          → visit p (read_at v c p).told ∷ pick b [] (walk_from (suc n - 1) v c (read_at v c p).next)
          ≡ visit p (read_at v c p).told ∷ pick b [] (walk_from (m - 1) v c (read_at v c p).next)
      go true e l f = refl
      go false e l f =
          let s = (read_onward v c p l e).passes in
          let i : suc n - 1 ≡ n = omega arith in
          ap (λ (w : List Visit). visit p (read_at v c p).told ∷ w)
          (ap (λ (j : ℕ). walk_from j v c (read_at v c p).next) i ∙ f (omega arith) (omega arith))

  -- what is before a walk from q on reaches to q
  reach_from : (n q : ℕ) → q ≤ c → c - q ≤ n → reach c (walk_from n v c q) ≡ q
  reach_from n q h k = ⊎_elim goes stops (lt_or_ge q c)
    where
      goes : q < c → reach c (walk_from n v c q) ≡ q
      goes l = ap (reach c) (walk_from_step n v c q l k)

      stops : c ≤ q → reach c (walk_from n v c q) ≡ q
      stops l = ap (reach c) (walk_from_over n v c q l) ∙ omega arith

  -- ---- the picture from p on: the answer at p, and the picture from where it reaches
  pictured_step : (p : ℕ) → p < c
      → let a = read_at v c p in
      pictured c (walk_from (c - p) v c p) ≡ listed p (reached a c - p) (glyph_of (outcome_of a.told) p) ++ pictured c (walk_from (c - reached a c) v c (reached a c))
  unfolding pictured
  pictured_step p h = ap (pictured c) (walk_from_step (c - p) v c p h (omega arith)) ∙ go (is_end (read_at v c p).told) refl
    where
      go : (b : Bool) → is_end (read_at v c p).told ≡ b
          → pictured c (visit p (read_at v c p).told ∷ pick b [] (walk_from (c - p - 1) v c (read_at v c p).next))
          ≡ listed p (reached (read_at v c p) c - p) (glyph_of (outcome_of (read_at v c p).told) p)
          ++ pictured c (walk_from (c - reached (read_at v c p) c) v c (reached (read_at v c p) c))
      go true e = rw (reaches_end (read_at v c p).told (read_at v c p).next c e, walk_from_over (c - c) v c c (omega arith))
      go false e =
          let o = read_onward v c p h e in
          let s = o.passes in
          let t = o.stays in
          rw (
            reaches_next (read_at v c p).told (read_at v c p).next c e,
            reach_from (c - p - 1) (read_at v c p).next t (omega arith),
            same_walk (c - p - 1) (c - (read_at v c p).next) (read_at v c p).next (omega arith) (omega arith),
          )

pub ready_within : {key image : List ℕ} {room : ℕ} → Ready key image room → (id recording p : ℕ) → p < room
    → let a = read_answer key id recording image p in (p < reached a room) × (reached a room ≤ room)
unfolding read_answer
ready_within {key} {image} r id recording p h =
    let s = r.sized in
    let k : p < capacity_of image = omega arith in
    rw s (reached_within (view key id recording image) (capacity_of image) p k)

-- a list laid over from p on, as far as it goes
take_laid : (l : List ℕ) (p q : ℕ) (b : List ℕ) → p ≤ length l → p + length b ≡ q → take q (splice l p b) ≡ take p l ++ b
unfolding splice
take_laid l p q b h e =
    rw (← append_assoc (take p l) b (drop (p + length b) l))
    (take_at (take p l ++ b) (drop (p + length b) l) q (simp (length-append, length-take) (omega arith)))

-- ---- drawn as far as p: what stands before p, and the picture from p on, are the whole
abbrev pub DrawnTo : View → ℕ → ℕ → List ℕ → Type 0
DrawnTo v c p out = pictured c (walk v c) ≡ take p out ++ pictured c (walk_from (c - p) v c p)

module _ (v : View) (c : ℕ) where
  pub drawn_none : (out : List ℕ) → DrawnTo v c 0 out
  unfolding walk
  drawn_none out = let e : c ≡ c - 0 = omega arith in ap (λ (n : ℕ). pictured c (walk_from n v c 0)) e

  -- the answer at p, painted
  pub drawn_more : (p q : ℕ) (out out' : List ℕ) → p < c → length out ≡ c → q ≡ reached (read_at v c p) (length out)
      → out' ≡ answered (read_at v c p) p out → DrawnTo v c p out → DrawnTo v c q out'
  unfolding painted
  drawn_more p q out out' h n e f d =
      let a = read_at v c p in
      let l = listed p (reached a c - p) (glyph_of (outcome_of a.told) p) in
      let w = reached_within v c p h in
      let w₀ = w.0 in
      let m : p + length l ≡ reached a c = omega (arith, length_listed p (reached a c - p) (glyph_of (outcome_of a.told) p)) in
      let t : take (reached a c) (splice out p l) ≡ take p out ++ l = take_laid out p (reached a c) l (omega arith) m in
      rw (e, f, n, t) (d ∙ ap (λ (r : List ℕ). take p out ++ r) (pictured_step v c p h) ∙ sym (append_assoc (take p out) l _))

  pub drawn_all : (p : ℕ) (out : List ℕ) → length out ≡ c → p ≡ c → DrawnTo v c p out → out ≡ pictured c (walk v c)
  unfolding pictured
  drawn_all p out n e d =
      sym
      (d
      ∙ ap₂ (λ (s r : List ℕ). s ++ r) (take_all p out (omega arith)) (ap (pictured c) (walk_from_over (c - p) v c p (omega arith)))
      ∙ append-nil out)
