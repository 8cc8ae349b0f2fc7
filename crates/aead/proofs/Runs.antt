-- What the calls of the block operations leave is what sealing and opening are.
-- Assumes nothing.
use mathlib.Core.Path.{◌≡◌, refl, sym, ap, ap₂, ◌∙◌}
use mathlib.Core.Bool.{Bool}
use mathlib.Core.List.{List, ◌++◌, append-nil}
use Prim.Native.Nat.{ℕ, ◌+◌, ◌-◌, ◌≤◌}
use native.Mathlib.Nat.{zero-add}
use native.Mathlib.Omega.{arith}
use lib.ListN.{length, take, drop, length-append, length-take, length-drop, drop_of_length-le}
use lib.Seq.{take_all, take_at, drop-drop, length-take-le}
use Rattle.laws.specs.Lists.{splice, same}
use Rattle.sponge.specs.Blink.{enc, dec, after, out, Ran}
use Rattle.sponge.proofs.CallLaws.{ran_state, ran_bytes}
use Rattle.sponge.proofs.Lengths.{length_after, length_out}
use Rattle.aead.specs.Sealing.{sealed_from, cipher_of, tag_of, opened_from, fits_from}

-- enc into a buffer of the message's length; behind it the state's first 16 bytes
pub enc_sealed : {r : ℕ} {m v o v' e tag : List ℕ} → Ran enc 0x50 m v o r v' e → length v ≡ 64 → length o ≡ length m → length m ≤ 65520
    → tag ≡ take 16 v' → e ++ tag ≡ sealed_from v m
unfolding sealed_from
enc_sealed p h k l g =
    let few : length _ ≤ 65536 = omega arith in
    ap₂ ◌++◌ (ran_bytes p h k few) (g ∙ ap (take 16) (ran_state p h k few))

-- ---- the same of the whole buffer: enc into its front, then those 16 bytes laid over the part behind it
laid_behind : (e d w : List ℕ) (n : ℕ) → length e ≡ n → length d ≡ length w → splice (e ++ d) n w ≡ e ++ w
unfolding splice
laid_behind e d w n h k =
    let l : length (e ++ d) ≤ n + length w = omega (arith, length-append e d) in
    rw (take_at e d n h, drop_of_length-le (e ++ d) l, append-nil)

laid_in_part : (l : List ℕ) (at : ℕ) (b : List ℕ) → at + length b ≤ length l
    → take at l ++ (splice (take (length l - at) (drop at l)) 0 b ++ drop (length l - at) (drop at l)) ≡ splice l at b
unfolding splice
laid_in_part l at b h =
    let n : length (drop at l) ≤ length l - at = simp length-drop (omega arith) in
    rw (take_all (length l - at) (drop at l) n, drop_of_length-le (drop at l) n, append-nil, zero-add, drop-drop)

laid_two : (o e w : List ℕ) (n : ℕ) {l part b : List ℕ} → length e ≡ n → length o ≡ n + length w → l ≡ e ++ drop n o → part ≡ take (length l - n) (drop n l)
    → b ≡ splice part 0 (take (length part) w) → take n l ++ (b ++ drop (length l - n) (drop n l)) ≡ e ++ w
laid_two o e w n {l = l} {part = part} h k f g q =
    let d : length (drop n o) ≡ length w = simp length-drop (omega arith) in
    let m : length l ≡ n + length w = ap length f ∙ length-append e (drop n o) ∙ omega arith in
    let r : length w ≤ length part = rw g (simp (length-take, length-drop) (omega arith)) in
    ap (λ (x : List ℕ). take n l ++ (x ++ drop (length l - n) (drop n l))) (q ∙ ap₂ (λ (x y : List ℕ). splice x 0 y) g (take_all (length part) w r))
    ∙ laid_in_part l n w (omega arith)
    ∙ ap (λ (x : List ℕ). splice x n w) f
    ∙ laid_behind e (drop n o) w n h d

module _ {r : ℕ} {v v' e : List ℕ} (m o : List ℕ) (h : length v ≡ 64) (l : length m ≤ 65520) (k : length o ≡ length m + 16)
    (p : Ran enc 0x50 m v (take (length m) o) r v' e) where
  enc_left : v' ≡ after enc 0x50 v m
  enc_left = ran_state p h (length-take-le (length m) o (omega arith)) (omega arith)

  enc_gave : e ≡ out enc 0x50 v m
  enc_gave = ran_bytes p h (length-take-le (length m) o (omega arith)) (omega arith)

  pub enc_laid : {w part b : List ℕ} → w ≡ e ++ drop (length m) o → part ≡ take (length w - length m) (drop (length m) w)
      → b ≡ splice part 0 (take (length part) (take 16 v')) → take (length m) w ++ (b ++ drop (length w - length m) (drop (length m) w)) ≡ sealed_from v m
  enc_laid f g q =
      let n : length v' ≡ 64 = ap length enc_left ∙ length_after enc 0x50 v m in
      let t : length (take 16 v') ≡ 16 = length-take-le 16 v' (omega arith) in
      laid_two o e (take 16 v') (length m) (ap length enc_gave ∙ length_out enc tt 0x50 v m h) (omega arith) f g q
      ∙ enc_sealed p h (length-take-le (length m) o (omega arith)) l refl

-- dec of all but the last 16 bytes of t, then the state's first 16 compared with those
module _ {r : ℕ} {c v o v' o' : List ℕ} (t : List ℕ) (p : Ran dec 0x50 c v o r v' o') (h : length v ≡ 64) (l : length o ≤ 65520)
    (k : length t ≡ length o + 16) (f : c ≡ take (length o) t) where
  short : length o ≡ length t - 16
  short = omega arith

  cipher : c ≡ cipher_of t
  unfolding cipher_of
  cipher = f ∙ ap (λ (n : ℕ). take n t) short

  fair : length o ≡ length c
  fair = sym (ap length f ∙ length-take-le (length o) t (omega arith))

  pub dec_opened : o' ≡ opened_from v t
  unfolding opened_from
  dec_opened = ran_bytes p h fair (omega (arith, fair)) ∙ ap (out dec 0x50 v) cipher

  pub dec_fits : (b : Bool) (tag : List ℕ) → tag ≡ drop (length o) t → b ≡ same (take 16 v') tag → b ≡ fits_from v t
  unfolding fits_from tag_of
  dec_fits b tag g q =
      q
      ∙ ap₂ same (ap (take 16) (ran_state p h fair (omega (arith, fair)) ∙ ap (after dec 0x50 v) cipher))
      (g ∙ ap (λ (n : ℕ). drop n t) short)
