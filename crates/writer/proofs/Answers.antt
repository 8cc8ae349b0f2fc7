-- What a call promises, where it is refused and where it is taken.
-- Assumes nothing.
use mathlib.Core.Path.{◌≡◌, refl, sym, ap, ◌∙◌}
use mathlib.Core.List.{List}
use Prim.Native.Nat.{ℕ, ◌+◌}
use Rattle.std.specs.Prelude.{Ok, Err}
use Rattle.numbers.specs.declared.Refusal.{Refusal}
use Rattle.numbers.specs.Refusals.{cause_number}
use Rattle.numbers.proofs.RefusalLaws.{cause_of_number, cause_not_0}
use Rattle.writer.specs.declared.WriterState.{WriterState}
use Rattle.writer.specs.declared.Reply.{Reply}
use Rattle.writer.specs.declared.Wrote.{Wrote}
use Rattle.writer.specs.Items.{Item, size, file_marks}
use Rattle.writer.specs.Writing.{start_number, item_number, close_number, Done, stay, judged, moved, answer_at, refused_state, started, taken, ended, wrote_of, start, write, close, Did}
use Rattle.writer.proofs.Judged.{judged_refused}
use Rattle.writer.proofs.Ready.{item_refused, item_fits}

did_as : {d e : Done} {r : Wrote} {image' : List ℕ} → d ≡ e → Did e r image' → Did d r image'
did_as q p =
    record {
      says = p.says ∙ ap wrote_of (sym q);
      number = p.number ∙ ap (λ (x : Done). x.number) (sym q);
      leaves = p.leaves ∙ ap (λ (x : Done). x.image) (sym q);
    }

-- refused by the cause e: nothing is taken
refused_as : (d : Done) (s : WriterState) (image : List ℕ) (e : Refusal) {n : ℕ} → cause_number e ≡ n → Did (judged d s image n) (record { state = s; reply = Err e }) image
refused_as d s image e p =
    did_as {e = stay s image (cause_number e)} (ap (judged d s image) (sym p) ∙ judged_refused d s image (cause_number e) (cause_not_0 e))
    (record { says = ap (λ c. record { state = s; reply = Err c }) (sym (cause_of_number e)); number = refl; leaves = refl })

module _ (s : WriterState) (key image : List ℕ) where
  pub write_refused : (i : Item) {e : Refusal} → cause_number e ≡ item_number s key image i → Did (write s key image i) (record { state = s; reply = Err e }) image
  unfolding write
  write_refused i {e} p = refused_as (taken s key image i) s image e p

  -- by what every call asks first
  pub first_refused : (i : Item) {e : Refusal} → cause_number e ≡ close_number s key image → Did (write s key image i) (record { state = s; reply = Err e }) image
  first_refused i p = write_refused i (p ∙ sym (item_refused s key image i (λ z. cause_not_0 _ (p ∙ z))))

  pub close_refused : {e : Refusal} → cause_number e ≡ close_number s key image → Did (close s key image) (record { state = s; reply = Err e }) image
  unfolding close
  close_refused {e} p = refused_as (ended s key image) s image e p

  pub close_taken : {r : Wrote} {image' : List ℕ} → close_number s key image ≡ 0 → Did (ended s key image) r image' → Did (close s key image) r image'
  unfolding close
  close_taken e d = did_as (ap (judged (ended s key image) s image) e) d

  -- an item that is taken, as the code answers it: k is the count of its blocks, n that of the file marks with it
  pub item_taken : (i : Item) {k n : ℕ} {a : Reply} {image' : List ℕ} → item_number s key image i ≡ 0 → k ≡ size i → n ≡ s.marks + file_marks i
      → a ≡ answer_at s (s.position + k) → image' ≡ (taken s key image i).image
      → Did (write s key image i) (record { state = moved s (s.position + k) s.closed n; reply = Ok a }) image'
  unfolding write
  item_taken i {k} e q m w l =
      did_as (ap (judged (taken s key image i) s image) e)
      (record {
        says = rw (w, (item_fits s key image i e).ready.is_open, q, m);
        number = refl;
        leaves = l;
      })

  -- the same, where the position and what the answer goes by are said of two numbers
  pub item_taken_at : (i : Item) (k : ℕ) {p q n : ℕ} {a : Reply} {image' : List ℕ} → item_number s key image i ≡ 0 → k ≡ size i → n ≡ s.marks + file_marks i
      → p ≡ s.position + k → q ≡ s.position + k → a ≡ answer_at s q → image' ≡ (taken s key image i).image
      → Did (write s key image i) (record { state = moved s p s.closed n; reply = Ok a }) image'
  item_taken_at i k e z m f g w l = rw f (item_taken i e z m (w ∙ ap (answer_at s) g) l)

pub start_refused : (id recording z : ℕ) (image : List ℕ) {e : Refusal} → cause_number e ≡ start_number image z
    → Did (start id recording z image) (record { state = refused_state; reply = Err e }) image
unfolding start
start_refused id recording z image {e} p = refused_as (started id recording z image) refused_state image e p
