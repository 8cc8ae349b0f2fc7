-- What every call on a state asks first: what its number says, and what holds where it refuses nothing.
-- Assumes nothing.
use borrow.Author.Tests.{eq-eqb, eqb-true, le-leb, leb-true, ltb-true, not-true}
use mathlib.Core.Path.{◌≡◌, refl, sym, ap, ◌∙◌}
use mathlib.Core.Bool.{Bool, true, false, not, ◌&&◌}
use mathlib.Core.List.{List, [], ◌∷◌}
use Prim.Native.Nat.{ℕ, zero, suc, ◌+◌, ◌*◌, ◌≤◌, ◌<◌}
use native.Mathlib.Omega.{arith}
use lib.Dec.{eqb, leb, ltb}
use lib.ListN.{length}
use Rattle.laws.specs.Choose.{first_of}
use Rattle.laws.proofs.ChooseLaws.{both_left, both_right, no_refusal}
use Rattle.numbers.proofs.RefusalLaws.{first_named}
use Rattle.block.specs.Image.{capacity_of, image_ok, image_then_key}
use Rattle.block.proofs.ImageSize.{Asked, image_sized, asks_refused, asks_rest, asked, asks_named}
use Rattle.writer.specs.declared.WriterState.{WriterState}
use Rattle.writer.specs.Items.{Item, rec, fmark, blocks_for, size}
use Rattle.writer.specs.Writing.{zone_ok, place_ok, marks_ok, lawful, length_ok, room, start_number, call_number, item_number, close_number}

-- a call that finds image, key and state as they should be, and the recording open
pub record Ready (s : WriterState) (key image : List ℕ) : Type 0 where
  pub asked : Asked key image
  pub is_lawful : lawful s (capacity_of image) ≡ true
  pub is_open : s.closed ≡ false

-- ---- what its tests say in numbers
pub record Zoned (c e : ℕ) : Type 0 where
  pub low : 1 ≤ e
  pub high : e < c

pub zoned : (c e : ℕ) → zone_ok c e ≡ true → Zoned c e
unfolding zone_ok
zoned c e z =
    record { low = leb-true 1 e (both_left (leb 1 e) (ltb e c) z); high = ltb-true e c (both_right (leb 1 e) (ltb e c) z) }

-- lawful, taken apart and put together
pub record StateLawful (s : WriterState) (c : ℕ) : Type 0 where
  pub capacity_is : s.capacity ≡ c
  pub zone_holds : zone_ok s.capacity s.zone ≡ true
  pub marks_low : s.marks ≤ s.position
  pub place_holds : place_ok s ≡ true

pub lawfully : (s : WriterState) (c : ℕ) → lawful s c ≡ true → StateLawful s c
unfolding lawful marks_ok
lawfully s c e =
    let f = both_right (eqb s.capacity c) (zone_ok s.capacity s.zone && (marks_ok s && place_ok s)) e in
    let g = both_right (zone_ok s.capacity s.zone) (marks_ok s && place_ok s) f in
    record {
      capacity_is = eqb-true s.capacity c (both_left (eqb s.capacity c) (zone_ok s.capacity s.zone && (marks_ok s && place_ok s)) e);
      zone_holds = both_left (zone_ok s.capacity s.zone) (marks_ok s && place_ok s) f;
      marks_low = leb-true s.marks s.position (both_left (marks_ok s) (place_ok s) g);
      place_holds = both_right (marks_ok s) (place_ok s) g;
    }

-- with the other tests passed the place decides
pub place_decides : (s : WriterState) (c : ℕ) → s.capacity ≡ c → zone_ok s.capacity s.zone ≡ true → s.marks ≤ s.position → lawful s c ≡ place_ok s
unfolding lawful marks_ok
place_decides s c e z m = rw (eq-eqb s.capacity c e, z, le-leb s.marks s.position m)

pub place_open : (s : WriterState) → s.closed ≡ false → place_ok s ≡ ltb s.position s.capacity
unfolding place_ok
place_open s o = rw o

pub place_closed : (s : WriterState) → s.closed ≡ true → 1 ≤ s.position → place_ok s ≡ leb s.position s.capacity
unfolding place_ok
place_closed s o h = rw (o, le-leb 1 s.position h)

pub lawful_holds : (s : WriterState) (c : ℕ) → StateLawful s c → lawful s c ≡ true
lawful_holds s c l = place_decides s c l.capacity_is l.zone_holds l.marks_low ∙ l.place_holds

-- all of it, for a call that is ready
pub record Facts (s : WriterState) (image : List ℕ) : Type 0 where
  pub blocks : length image ≡ 512 * s.capacity
  pub capacity_is : s.capacity ≡ capacity_of image
  pub most : s.capacity ≤ 128
  pub zone_low : 1 ≤ s.zone
  pub zone_high : s.zone < s.capacity
  pub before_held : s.position < s.capacity
  pub marks_low : s.marks ≤ s.position

pub facts : {s : WriterState} {key image : List ℕ} → Ready s key image → Facts s image
facts {s} {key} {image} r =
    let l = lawfully s (capacity_of image) r.is_lawful in
    let c : s.capacity ≡ capacity_of image = l.capacity_is in
    let w = image_sized image r.asked.image_holds in
    let z = zoned s.capacity s.zone l.zone_holds in
    record {
      blocks = w.blocks ∙ ap (λ (k : ℕ). 512 * k) (sym c);
      capacity_is = c;
      most = omega arith;
      zone_low = z.low;
      zone_high = z.high;
      before_held = ltb-true s.position s.capacity (sym (place_open s r.is_open) ∙ l.place_holds);
      marks_low = l.marks_low;
    }

-- ---- the number: a refusal is the same whatever comes after, and with none the rest decides
state_refused : (a b : Bool) (rest : ℕ) → (first_of a 8 (first_of b 6 0) ≡ 0 → ⊥) → first_of a 8 (first_of b 6 rest) ≡ first_of a 8 (first_of b 6 0)
state_refused false b rest n = refl
state_refused true false rest n = refl
state_refused true true rest n = absurd (n refl)

pub call_refused : (s : WriterState) (key image : List ℕ) (rest : ℕ) → (close_number s key image ≡ 0 → ⊥) → call_number s key image rest ≡ close_number s key image
unfolding call_number close_number
call_refused s key image rest n = go (image_then_key key image 0) refl
  where
    go : (k : ℕ) → image_then_key key image 0 ≡ k → call_number s key image rest ≡ close_number s key image
    go (suc k) e = asks_refused key image _ (λ z. omega arith) ∙ sym (asks_refused key image _ (λ z. omega arith))
    go zero e =
        let a = (asked key image 0 e).0 in
        asks_rest key image a _ ∙ state_refused (lawful s (capacity_of image)) (not s.closed) rest (λ z. n (asks_rest key image a _ ∙ z))
        ∙ sym (asks_rest key image a _)

pub call_asks : {s : WriterState} {key image : List ℕ} → Ready s key image → (rest : ℕ) → call_number s key image rest ≡ rest
unfolding call_number
call_asks {s} {key} {image} r rest = asks_rest key image r.asked _ ∙ rw (r.is_lawful, r.is_open)

pub call_ready : (s : WriterState) (key image : List ℕ) (rest : ℕ) → call_number s key image rest ≡ 0 → Ready s key image × (rest ≡ 0)
unfolding call_number
call_ready s key image rest e =
    let a = asked key image _ e in
    let c = no_refusal (lawful s (capacity_of image)) 7 _ a.1 in
    let d = no_refusal (not s.closed) 5 rest c.1 in
    (record { asked = a.0; is_lawful = c.0; is_open = not-true s.closed d.0 }, d.1)

pub close_ready : (s : WriterState) (key image : List ℕ) → close_number s key image ≡ 0 → Ready s key image
unfolding close_number
close_ready s key image e = (call_ready s key image 0 e).0

-- what `allowed` says, as the calls take it up
pub allowed_ready : {s : WriterState} {key image : List ℕ} → 0 ≡ close_number s key image → Ready s key image
allowed_ready e = close_ready _ _ _ (sym e)

pub allowed_facts : {s : WriterState} {image : List ℕ} (key : List ℕ) → 0 ≡ close_number s key image → Facts s image
allowed_facts key e = facts (allowed_ready e)

pub item_refused : (s : WriterState) (key image : List ℕ) (i : Item) → (close_number s key image ≡ 0 → ⊥) → item_number s key image i ≡ close_number s key image
unfolding item_number
item_refused s key image i n = call_refused s key image _ n

pub item_asks : {s : WriterState} {key image : List ℕ} → Ready s key image → (i : Item)
    → item_number s key image i ≡ first_of (length_ok i) 4 (first_of (room s.capacity s.position (size i)) 5 0)
unfolding item_number
item_asks r i = call_asks r _

-- each number is 0 or that of a cause
call_named : (s : WriterState) (key image : List ℕ) (rest : ℕ) → rest ≤ 9 → call_number s key image rest ≤ 9
unfolding call_number
call_named s key image rest h =
    asks_named key image _ (first_named (lawful s (capacity_of image)) 8 _ (omega arith) (first_named (not s.closed) 6 rest (omega arith) h))

pub item_named : (s : WriterState) (key image : List ℕ) (i : Item) → item_number s key image i ≤ 9
unfolding item_number
item_named s key image i =
    call_named s key image _
    (first_named (length_ok i) 4 _ (omega arith) (first_named (room s.capacity s.position (size i)) 5 0 (omega arith) (omega arith)))

pub close_named : (s : WriterState) (key image : List ℕ) → close_number s key image ≤ 9
unfolding close_number
close_named s key image = call_named s key image 0 (omega arith)

pub start_named : (image : List ℕ) (e : ℕ) → start_number image e ≤ 9
unfolding start_number
start_named image e =
    first_named (image_ok image) 1 _ (omega arith) (first_named (zone_ok (capacity_of image) e) 3 0 (omega arith) (omega arith))

-- an item that is not refused
pub record Fits (s : WriterState) (key image : List ℕ) (i : Item) : Type 0 where
  pub ready : Ready s key image
  pub length_holds : length_ok i ≡ true
  pub room_ok : s.position + size i < s.capacity

pub item_fits : (s : WriterState) (key image : List ℕ) (i : Item) → item_number s key image i ≡ 0 → Fits s key image i
unfolding item_number room
item_fits s key image i e =
    let a = call_ready s key image _ e in
    let b = no_refusal (length_ok i) 3 _ a.1 in
    let c = no_refusal (ltb (s.position + size i) s.capacity) 4 0 b.1 in
    record { ready = a.0; length_holds = b.0; room_ok = ltb-true (s.position + size i) s.capacity c.0 }

-- ---- what may be written: a record's length is 1 to 31,232, and it takes 64 blocks at most
pub record Lengthy (b : List ℕ) : Type 0 where
  pub low : 1 ≤ length b
  pub high : length b ≤ 31232
  pub some : 1 ≤ blocks_for (length b)
  pub few : blocks_for (length b) ≤ 64

abbrev pub Sound : Item → Type 0
Sound (rec b) = Lengthy b
Sound fmark = Unit {0}

abbrev pub AllSound : List Item → Type 0
AllSound [] = Unit {0}
AllSound (i ∷ is) = Sound i × AllSound is

pub sound : (i : Item) → length_ok i ≡ true → Sound i
unfolding blocks_for
sound (rec b) e =
    let l = leb-true 1 (length b) (both_left (leb 1 (length b)) (leb (length b) 31232) e) in
    let h = leb-true (length b) 31232 (both_right (leb 1 (length b)) (leb (length b) 31232) e) in
    record { low = l; high = h; some = omega arith; few = omega arith }
sound fmark e = tt
