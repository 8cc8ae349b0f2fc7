-- The rules of writing, of the definitions `start`, `write` and `close`: what is taken, what a refusal leaves, how far
-- the position moves, when an item is warned, and that the state stays lawful.
-- Assumes nothing.
use borrow.Author.Tests.{lt-ltb, le-ltb, le-leb, lt-leb, eq-eqb}
use mathlib.Core.Path.{◌≡◌, refl, sym, ap, ◌∙◌}
use mathlib.Core.Bool.{Bool, true, false, ◌&&◌}
use mathlib.Core.List.{List}
use Prim.Native.Nat.{ℕ, suc, ◌+◌, ◌-◌, ◌≤◌, ◌<◌}
use native.Mathlib.Omega.{arith}
use lib.Dec.{eqb}
use Rattle.std.specs.Prelude.{Result, Ok, Err}
use Rattle.laws.specs.Choose.{first_of}
use Rattle.laws.proofs.ChooseLaws.{no_refusal}
use Rattle.numbers.specs.declared.Refusal.{Refusal}
use Rattle.numbers.specs.declared.Refusal.TheVariants as refusal
use Rattle.numbers.specs.Refusals.{number_of, cause_of}
use Rattle.numbers.proofs.RefusalLaws.{cause_not_0}
use Rattle.block.specs.Image.{capacity_of, image_ok}
use Rattle.block.proofs.ImageSize.{image_sized}
use Rattle.writer.specs.declared.WriterState.{WriterState}
use Rattle.writer.specs.declared.Reply.{Reply}
use Rattle.writer.specs.declared.Reply.TheVariants.{Plain, Warned}
use Rattle.writer.specs.Items.{Item, size, file_marks}
use Rattle.writer.specs.Writing.{zone_ok, place_ok, marks_ok, lawful, length_ok, room, start_number, item_number, close_number}
use Rattle.writer.specs.Writing.{Done, stay, judged, moved, warns, refused_state, started, taken, ended, start, write, close}
use Rattle.writer.proofs.Warned.{warns_exactly}
use Rattle.writer.proofs.Judged.{judged_number, judged_says}
use Rattle.writer.proofs.InOrder.{marks_fit}
use Rattle.writer.proofs.Ready.{Ready, facts, StateLawful, lawfully, lawful_holds, call_asks, close_ready, item_asks, item_named, close_named, start_named, item_fits}

-- ---- the number in the answer is that of the first cause, and 0 says that the call was taken
pub write_number : (s : WriterState) (key image : List ℕ) (i : Item) → number_of (write s key image i).reply ≡ item_number s key image i
unfolding write
write_number s key image i = judged_number (taken s key image i) s image refl (item_number s key image i) (item_named s key image i)

pub close_number_lem : (s : WriterState) (key image : List ℕ) → number_of (close s key image).reply ≡ close_number s key image
unfolding close
close_number_lem s key image = judged_number (ended s key image) s image refl (close_number s key image) (close_named s key image)

pub start_number_lem : (id recording e : ℕ) (image : List ℕ) → number_of (start id recording e image).reply ≡ start_number image e
unfolding start
start_number_lem id recording e image = judged_number (started id recording e image) refused_state _ refl (start_number image e) (start_named image e)

-- the number that a call gives is the one in its answer
pub write_says : (s : WriterState) (key image : List ℕ) (i : Item) → number_of (write s key image i).reply ≡ (write s key image i).number
unfolding write
write_says s key image i = judged_says (taken s key image i) s image refl (item_number s key image i) (item_named s key image i)

pub close_says : (s : WriterState) (key image : List ℕ) → number_of (close s key image).reply ≡ (close s key image).number
unfolding close
close_says s key image = judged_says (ended s key image) s image refl (close_number s key image) (close_named s key image)

pub start_says : (id recording e : ℕ) (image : List ℕ) → number_of (start id recording e image).reply ≡ (start id recording e image).number
unfolding start
start_says id recording e image = judged_says (started id recording e image) refused_state _ refl (start_number image e) (start_named image e)

-- ---- what a call is, by its number
pub write_when : (s : WriterState) (key image : List ℕ) (i : Item) (n : ℕ) → number_of (write s key image i).reply ≡ n
    → write s key image i ≡ judged (taken s key image i) s image n
unfolding write
write_when s key image i n e = ap (judged (taken s key image i) s image) (sym (write_number s key image i) ∙ e)

pub close_when : (s : WriterState) (key image : List ℕ) (n : ℕ) → number_of (close s key image).reply ≡ n
    → close s key image ≡ judged (ended s key image) s image n
unfolding close
close_when s key image n e = ap (judged (ended s key image) s image) (sym (close_number_lem s key image) ∙ e)

pub start_when : (id recording e : ℕ) (image : List ℕ) (n : ℕ) → number_of (start id recording e image).reply ≡ n
    → start id recording e image ≡ judged (started id recording e image) refused_state image n
unfolding start
start_when id recording e image n q = ap (judged (started id recording e image) refused_state image) (sym (start_number_lem id recording e image) ∙ q)

-- ---- taken exactly
-- no cause has the number 0, so that the number 0 is what taken means
pub number_0_taken : (s : WriterState) (key image : List ℕ) (i : Item) (e : Refusal) → number_of (write s key image i).reply ≡ 0
    → (write s key image i).reply ≡ Err e → ⊥
number_0_taken s key image i e z r = cause_not_0 e (sym (ap (number_of {A = Reply}) r) ∙ z)

-- an item of k blocks at p of c: taken exactly if p + k ≤ c - 1, and else refused 5
module _ (s : WriterState) (key image : List ℕ) (i : Item) (r : Ready s key image) (l : length_ok i ≡ true) where
  number_is : number_of (write s key image i).reply ≡ first_of (room s.capacity s.position (size i)) 5 0
  number_is = write_number s key image i ∙ item_asks r i ∙ rw l

  pub taken_exactly : (number_of (write s key image i).reply ≡ 0 → s.position + size i ≤ s.capacity - 1)
      × (s.position + size i ≤ s.capacity - 1 → number_of (write s key image i).reply ≡ 0)
  unfolding room
  taken_exactly = (
    λ e. let t = item_fits s key image i (sym (write_number s key image i) ∙ e) in omega arith,
    λ h.
        let f = facts r in
        let t : s.position + size i < s.capacity = omega arith in
        number_is ∙ rw (lt-ltb (s.position + size i) s.capacity t),
  )

  pub refused_5 : s.capacity ≤ s.position + size i → (write s key image i).reply ≡ Err refusal.NoRoom
  unfolding room cause_of
  refused_5 h =
      ap (λ (d : Done). d.reply) (write_when s key image i 5 (number_is ∙ rw (le-ltb (s.position + size i) s.capacity h)))

-- while open there is room for the closing
pub room_for_closing : (s : WriterState) (key image : List ℕ) → Ready s key image → ((close s key image).reply ≡ Ok Plain) × (s.position + 1 ≤ s.capacity)
unfolding close_number
room_for_closing s key image r =
    let f = facts r in
    (ap (λ (d : Done). d.reply) (close_when s key image 0 (close_number_lem s key image ∙ call_asks r 0)), omega arith)

-- ---- refused, all stays
pub refused_leaves : (s : WriterState) (key image : List ℕ) (i : Item) (n : ℕ) → number_of (write s key image i).reply ≡ suc n
    → write s key image i ≡ stay s image (suc n)
refused_leaves s key image i n e = write_when s key image i (suc n) e

pub refused_closing : (s : WriterState) (key image : List ℕ) (n : ℕ) → number_of (close s key image).reply ≡ suc n
    → close s key image ≡ stay s image (suc n)
refused_closing s key image n e = close_when s key image (suc n) e

-- a refused start leaves the image, and its state is lawful for no image
and_false : (t : Bool) → (t && false) ≡ false
and_false true = refl
and_false false = refl

pub refused_start : (id recording e : ℕ) (image : List ℕ) (n : ℕ) → number_of (start id recording e image).reply ≡ suc n
    → ((start id recording e image).image ≡ image) × ((c : ℕ) → lawful (start id recording e image).state c ≡ false)
unfolding lawful zone_ok
refused_start id recording e image n q =
    let w = start_when id recording e image (suc n) q in
    (ap (λ (d : Done). d.image) w, λ c. rw w (and_false (eqb 0 c)))

-- ---- the position moves by the item's size, by one at the closing; a mark counts as one, and nothing else counts
pub moves_by_size : (s : WriterState) (key image : List ℕ) (i : Item) → number_of (write s key image i).reply ≡ 0
    → (write s key image i).state ≡ moved s (s.position + size i) false (s.marks + file_marks i)
moves_by_size s key image i e = ap (λ (d : Done). d.state) (write_when s key image i 0 e)

pub closing_moves_by_1 : (s : WriterState) (key image : List ℕ) → number_of (close s key image).reply ≡ 0
    → (close s key image).state ≡ moved s (s.position + 1) true s.marks
closing_moves_by_1 s key image e = ap (λ (d : Done). d.state) (close_when s key image 0 e)

-- ---- warned exactly, be it a record or a mark; a closing never is
pub warned_exactly : (s : WriterState) (key image : List ℕ) (i : Item) → number_of (write s key image i).reply ≡ 0
    → ((write s key image i).reply ≡ Ok Warned → s.capacity - s.zone < s.position + size i)
    × (s.capacity - s.zone < s.position + size i → (write s key image i).reply ≡ Ok Warned)
warned_exactly s key image i e =
    let w = ap (λ (d : Done). d.reply) (write_when s key image i 0 e) in
    let x = warns_exactly s i in
    (λ r. x.0 (let z : ◌≡◌ {A = Result Reply Refusal} (Ok (warns s i)) (Ok Warned) = sym w ∙ r in cc), λ h. w ∙ ap Ok (x.1 h))

pub closing_plain : (s : WriterState) (key image : List ℕ) → number_of (close s key image).reply ≡ 0 → (close s key image).reply ≡ Ok Plain
closing_plain s key image e = ap (λ (d : Done). d.reply) (close_when s key image 0 e)

-- ---- a number of file marks above the position is unlawful, whatever else the state says
pub marks_above : (s : WriterState) (c : ℕ) → s.position < s.marks → lawful s c ≡ false
unfolding lawful marks_ok
marks_above s c h =
    rw (lt-leb s.marks s.position h, and_false (zone_ok s.capacity s.zone)) (and_false (eqb s.capacity c))

-- ---- the state stays lawful
open_holds : (s : WriterState) (p n c : ℕ) → StateLawful s c → p < c → n ≤ p → lawful (moved s p false n) c ≡ true
unfolding place_ok
open_holds s p n c l h m =
    lawful_holds (moved s p false n) c (record {
      capacity_is = l.capacity_is;
      zone_holds = l.zone_holds;
      marks_low = m;
      place_holds = lt-ltb p s.capacity (omega (arith, l.capacity_is));
    })

pub stays_lawful : (s : WriterState) (key image : List ℕ) (i : Item) → number_of (write s key image i).reply ≡ 0
    → lawful (write s key image i).state (capacity_of image) ≡ true
stays_lawful s key image i e =
    let t = item_fits s key image i (sym (write_number s key image i) ∙ e) in
    let f = facts t.ready in
    let m = marks_fit i in
    rw (moves_by_size s key image i e)
    (open_holds s (s.position + size i) (s.marks + file_marks i) (capacity_of image) (lawfully s (capacity_of image) t.ready.is_lawful)
    (omega arith) (omega arith))

closed_holds : (s : WriterState) (p c : ℕ) → StateLawful s c → 1 ≤ p → p ≤ c → s.marks ≤ p → lawful (moved s p true s.marks) c ≡ true
unfolding place_ok
closed_holds s p c l n h m =
    let g : p ≤ s.capacity = omega (arith, l.capacity_is) in
    lawful_holds (moved s p true s.marks) c (record {
      capacity_is = l.capacity_is;
      zone_holds = l.zone_holds;
      marks_low = m;
      place_holds = rw (le-leb 1 p n, le-leb p s.capacity g);
    })

pub closing_stays_lawful : (s : WriterState) (key image : List ℕ) → number_of (close s key image).reply ≡ 0
    → lawful (close s key image).state (capacity_of image) ≡ true
closing_stays_lawful s key image e =
    let r = close_ready s key image (sym (close_number_lem s key image) ∙ e) in
    let f = facts r in
    rw (closing_moves_by_1 s key image e)
    (closed_holds s (s.position + 1) (capacity_of image) (lawfully s (capacity_of image) r.is_lawful) (omega arith) (omega arith) (omega arith))

pub start_lawful : (id recording e : ℕ) (image : List ℕ) → number_of (start id recording e image).reply ≡ 0
    → lawful (start id recording e image).state (capacity_of image) ≡ true
unfolding start_number lawful place_ok marks_ok
start_lawful id recording e image q =
    let a = no_refusal (image_ok image) 0 _ (sym (start_number_lem id recording e image) ∙ q) in
    let z = no_refusal (zone_ok (capacity_of image) e) 2 0 a.1 in
    let w = image_sized image a.0 in
    let h : 0 < capacity_of image = omega arith in
    rw (start_when id recording e image 0 q) (rw (eq-eqb (capacity_of image) (capacity_of image) refl, z.0, lt-ltb 0 (capacity_of image) h))
