-- A call that is judged by a number: refused by it, or taken at 0.
-- Assumes nothing.
use mathlib.Core.Path.{◌≡◌, refl}
use mathlib.Core.List.{List}
use Prim.Native.Nat.{ℕ, zero, suc, ◌≤◌}
use Rattle.numbers.specs.Refusals.{number_of}
use Rattle.numbers.proofs.RefusalLaws.{cause_named}
use Rattle.writer.specs.declared.WriterState.{WriterState}
use Rattle.writer.specs.Writing.{Done, stay, judged}

module _ (d : Done) (s : WriterState) (image : List ℕ) where
  pub judged_refused : (n : ℕ) → (n ≡ 0 → ⊥) → judged d s image n ≡ stay s image n
  judged_refused zero h = absurd (h refl)
  judged_refused (suc n) h = refl

  pub judged_says : number_of d.reply ≡ d.number → (n : ℕ) → n ≤ 9 → number_of (judged d s image n).reply ≡ (judged d s image n).number
  judged_says z zero h = z
  judged_says z (suc n) h = cause_named n h

  -- the number in the answer is the one that it is judged by
  pub judged_number : number_of d.reply ≡ 0 → (n : ℕ) → n ≤ 9 → number_of (judged d s image n).reply ≡ n
  judged_number z zero h = z
  judged_number z (suc n) h = cause_named n h

  -- what holds of every refusal, and of a call that is taken
  pub judged_either : (P : Done → Type 0) → ((k : ℕ) → P (stay s image (suc k))) → (n : ℕ) → (n ≡ 0 → P d) → P (judged d s image n)
  judged_either P h zero k = k refl
  judged_either P h (suc n) k = h n

  -- of the image that was given, and of the one that a taken call leaves
  pub judged_keeps : (P : List ℕ → Type 0) → P image → (n : ℕ) → (n ≡ 0 → P d.image) → P (judged d s image n).image
  judged_keeps P h = judged_either (λ e. P e.image) (λ k. h)
