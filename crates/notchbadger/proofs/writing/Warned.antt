-- The early warning across the boundary: of a record or mark that was taken the reply is 1 exactly if the position that
-- comes back is above capacity - zone, and of a closing it never is.
-- Assumes nothing.
use mathlib.Core.Path.{◌≡◌, refl, sym, ap, ◌∙◌}
use mathlib.Core.Bool.{Bool, true, false}
use mathlib.Core.List.{List}
use mathlib.Core.Logic.{◌⊎◌, inl, inr, ⊎_elim}
use Prim.Native.Nat.{ℕ, zero, suc, ◌-◌, ◌<◌}
use native.Mathlib.Omega.{arith}
use lib.Dec.{leb}
use Rattle.std.specs.Prelude.{Result, Ok, Err}
use Rattle.laws.specs.Choose.{pick}
use Rattle.numbers.specs.declared.Refusal.{Refusal}
use Rattle.numbers.specs.Refusals.{number_of}
use Rattle.block.proofs.ImageSize.{asked}
use Rattle.writer.specs.declared.WriterState.{WriterState}
use Rattle.writer.specs.declared.Reply.{Reply}
use Rattle.writer.specs.declared.Reply.TheVariants.{Plain, Warned}
use Rattle.writer.specs.Items.{Item}
use Rattle.writer.specs.Writing.{Done, wrote_of, write, close}
use Rattle.writer.proofs.Rules.{warned_exactly, moves_by_size, closing_plain, refused_closing}
use Rattle.notchbadger.specs.declared.writing.NbState.{NbState}
use Rattle.notchbadger.specs.declared.writing.NbWrote.{NbWrote}
use Rattle.notchbadger.specs.FlatWriter.{reply_code, state_of, flat_wrote, flag_number, sent_back, FlatDid}

warned_code : (a : Result Reply Refusal) → reply_code a ≡ 1 → a ≡ Ok Warned
warned_code (Ok Plain) e = absurd (omega arith)
warned_code (Ok Warned) e = refl
warned_code (Err e) r = absurd (omega arith)

flag_refused : (key image : List ℕ) → flag_number key image ≡ 0 → ⊥
unfolding flag_number
flag_refused key image e = let z = (asked key image 8 e).1 in omega arith

-- what crosses is the writer's answer, or the state as it came in
crossing : {s : NbState} {key image : List ℕ} {d : Done} {r : NbWrote} {image' : List ℕ} → FlatDid s key image d r image'
    → (r ≡ flat_wrote (wrote_of d)) ⊎ (r ≡ sent_back s (flag_number key image))
crossing {s} {key} {image} {d} {r} c = go (leb s.closed 1) c.says
  where
    go : (t : Bool) → r ≡ pick t (flat_wrote (wrote_of d)) (sent_back s (flag_number key image))
        → (r ≡ flat_wrote (wrote_of d)) ⊎ (r ≡ sent_back s (flag_number key image))
    go true q = inl q
    go false q = inr q

-- what was taken is the writer's answer
crossed : {s : NbState} {key image : List ℕ} {d : Done} {r : NbWrote} {image' : List ℕ} → FlatDid s key image d r image' → r.number ≡ 0
    → r ≡ flat_wrote (wrote_of d)
crossed {key = key} {image = image} c e =
    ⊎_elim (λ q. q) (λ q. absurd (flag_refused key image (sym (ap (λ (w : NbWrote). w.number) q) ∙ e))) (crossing c)

pub nb_warned_exactly : (s : NbState) (key image : List ℕ) (i : Item) {r : NbWrote} {image' : List ℕ}
    → FlatDid s key image (write (state_of s) key image i) r image' → r.number ≡ 0
    → (r.reply ≡ 1 → s.capacity - s.zone < r.state.position) × (s.capacity - s.zone < r.state.position → r.reply ≡ 1)
nb_warned_exactly s key image i c e =
    let d = write (state_of s) key image i in
    let q = crossed c e in
    let n : number_of d.reply ≡ 0 = sym (ap (λ (w : NbWrote). w.number) q) ∙ e in
    let a = ap (λ (w : NbWrote). w.reply) q in
    let p = ap (λ (w : NbWrote). w.state.position) q ∙ ap (λ (w : WriterState). w.position) (moves_by_size (state_of s) key image i n) in
    let x = warned_exactly (state_of s) key image i n in
    (λ h. rw p (x.0 (warned_code d.reply (sym a ∙ h))), λ h. a ∙ ap reply_code (x.1 (rw p at h)))

-- a closing, taken or refused, is not warned
silent : (s : WriterState) (key image : List ℕ) (n : ℕ) → number_of (close s key image).reply ≡ n → reply_code (close s key image).reply ≡ 1 → ⊥
silent s key image zero z h = let g = ap reply_code (closing_plain s key image z) in omega arith
silent s key image (suc n) z h = let g = ap (λ (d : Done). reply_code d.reply) (refused_closing s key image n z) in omega arith

pub nb_closing_silent : (s : NbState) (key image : List ℕ) {r : NbWrote} {image' : List ℕ}
    → FlatDid s key image (close (state_of s) key image) r image' → r.reply ≡ 1 → ⊥
nb_closing_silent s key image c e =
    ⊎_elim (λ q. silent (state_of s) key image _ refl (sym (ap (λ (w : NbWrote). w.reply) q) ∙ e)) (λ q. let g = ap (λ (w : NbWrote). w.reply) q in omega arith)
    (crossing c)
