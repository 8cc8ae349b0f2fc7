-- What the tests before a read and a look say, where they refuse nothing.
-- Assumes nothing.
use borrow.Author.Tests.{eq-eqb, ne_eqb, leb-true, ltb-true}
use mathlib.Core.Path.{◌≡◌, refl, sym, ap, ◌∙◌}
use mathlib.Core.List.{List}
use Prim.Native.Nat.{ℕ, ◌+◌, ◌*◌, ◌/◌, ◌≤◌}
use native.Mathlib.Omega.{arith}
use lib.Dec.{leb, ltb}
use lib.ListN.{length}
use mathlib.Core.Bool.{true, false, true≢false}
use Rattle.std.specs.Prelude.{Result, Ok, Err}
use Rattle.std.specs.Result.{is_ok}
use Rattle.laws.proofs.ChooseLaws.{no_refusal}
use Rattle.numbers.specs.declared.Refusal.{Refusal}
use Rattle.numbers.specs.Refusals.{cause_number, number_of, cause_of}
use Rattle.numbers.proofs.RefusalLaws.{cause_of_number, cause_not_0}
use Rattle.block.specs.Image.{image_ok, capacity_of}
use Rattle.laws.specs.Lists.{splice}
use Rattle.reader.specs.declared.Outcome.{Outcome}
use Rattle.reader.specs.declared.Got.{Got}
use Rattle.block.proofs.ImageSize.{image_sized, asked}
use Rattle.reader.specs.Steps.{Readable}
use Rattle.reader.specs.Reading.{read_number, read_answer, got_of, filled, Read, look_number}

-- a read that is not refused
pub readable : (key image : List ℕ) (p room : ℕ) → read_number key image p room ≡ 0 → Readable key image p room
unfolding read_number
readable key image p room e =
    let a = asked key image _ e in
    let d = no_refusal (leb 31232 room) 1 _ a.1 in
    let f = no_refusal (ltb p (capacity_of image)) 7 0 d.1 in
    let z = image_sized image a.0.image_holds in
    let b = z.blocks in
    record { key24 = a.0.key24; place = ltb-true _ _ f.0; blocks = omega arith; most = z.most; enough = leb-true _ _ d.0 }

-- ---- the call's answers
module _ {key : List ℕ} {id recording : ℕ} {image : List ℕ} {p : ℕ} {b : List ℕ} where
  pub read_refused : (x : Refusal) → cause_number x ≡ read_number key image p (length b) → Read key id recording image p b (record { outcome = Err x; next = p }) b
  read_refused x e =
      let z = ne_eqb (read_number key image p (length b)) 0 (λ n. cause_not_0 x (e ∙ n)) in
      let o : Err x ≡ Err (cause_of (read_number key image p (length b))) = ap Err (sym (cause_of_number x) ∙ ap cause_of e) in
      record { says = rw z (ap (λ (y : Result Outcome Refusal). record { outcome = y; next = p }) o); number = e; leaves = rw z }

  pub read_done : {r : Got} {b' : List ℕ} → read_number key image p (length b) ≡ 0 → r ≡ got_of (read_answer key id recording image p)
      → b' ≡ splice b 0 (filled (read_answer key id recording image p).told) → Read key id recording image p b r b'
  read_done z e f =
      let t = eq-eqb (read_number key image p (length b)) 0 z in
      record { says = e ∙ rw t; number = ap (λ (g : Got). number_of g.outcome) e ∙ sym z; leaves = f ∙ rw t }

-- ---- the raw look
-- what a test says that may be refused
pub ok_0 : (r : Result (Unit {0}) Refusal) → is_ok r ≡ true → number_of r ≡ 0
ok_0 (Ok x) e = refl
ok_0 (Err x) e = cc

pub err_number : (r : Result (Unit {0}) Refusal) → is_ok r ≡ false → number_of r ≡ 0 → ⊥
err_number (Ok x) e = absurd (true≢false e)
err_number (Err x) e = cause_not_0 x

-- where a raw look is not refused, its block lies in the image
pub look_in : (image : List ℕ) (p : ℕ) → look_number image p ≡ 0 → (512 * p + 512 ≤ length image) × (length image ≤ 65536)
unfolding look_number capacity_of
look_in image p e =
    let a = no_refusal (image_ok image) 0 _ e in
    let f = no_refusal (ltb p (length image / 512)) 7 0 a.1 in
    let h = ltb-true p (length image / 512) f.0 in
    let z = image_sized image a.0 in
    let b = z.blocks in
    let m = z.most in
    (omega arith, omega arith)
