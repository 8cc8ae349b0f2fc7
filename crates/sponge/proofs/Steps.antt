-- One group more, and the last: a turn of the code's loops, and what stands behind them.
-- Assumes nothing.
use mathlib.Core.Path.{◌≡◌, refl, sym, ap, ap₂, ◌∙◌}
use mathlib.Core.List.{List, ◌++◌, append_assoc, append-nil}
use mathlib.Core.Logic.{⊎_elim}
use Prim.Native.Nat.{ℕ, suc, min, ◌+◌, ◌-◌, ◌*◌, ◌/◌, ◌≤◌, ◌<◌}
use native.Mathlib.Omega.{arith}
use native.Mathlib.Numerals.{add-one}
use borrow.Author.Tests.{lt-ltb, le-ltb}
use lib.ListN.{length, take, drop, length-append, length-drop, drop_of_length-le}
use lib.Seq.{take_at, drop_at, drop-drop, take_all}
use Rattle.laws.specs.Xor.{xor}
use Rattle.laws.proofs.OrderLaws.{lt_or_ge}
use Rattle.pi.specs.Permutation.{π}
use Rattle.sponge.specs.Blink.{Op, kept, given, into, pad_between, pad_close, group, runs, met, gave, after, out}
use Rattle.sponge.specs.Ways.{Worked, RanAll}
use Rattle.sponge.proofs.Lengths.{length_group}

pub met_none : (op : Op) (domain : ℕ) (v s : List ℕ) → v ≡ met op domain v s 0
unfolding met
met_none op domain v s = refl

module _ (op : Op) (domain : ℕ) (v s : List ℕ) (k : ℕ) (v₁ v₂ v₃ g : List ℕ) (here : v₁ ≡ met op domain v s k) (part : g ≡ group s k) (done : v₂ ≡ kept op v₁ g) where
  so_far : v₂ ≡ kept op (met op domain v s k) (group s k)
  so_far = done ∙ ap₂ (kept op) here part

  pub met_more : k < (length s - 1) / 32 → v₃ ≡ π (into 32 domain v₂) → v₃ ≡ met op domain v s (k + 1)
  unfolding met pad_between runs
  met_more h e =
      rw (add-one, lt-ltb (suc k) (suc ((length s - 1) / 32)) (omega arith)) (e ∙ ap (λ (t : List ℕ). π (into 32 domain t)) so_far)

  pub met_last : (n : ℕ) → n ≡ length g → k ≡ (length s - 1) / 32 → v₃ ≡ π (into 32 (xor 0x02 domain) (into n 0x01 v₂)) → v₃ ≡ after op domain v s
  unfolding after met pad_close runs
  met_last n en ek e =
      rw (← ek, le-ltb (suc k) (suc k) (omega arith))
      (e ∙ ap₂ (λ (m : ℕ) (t : List ℕ). π (into 32 (xor 0x02 domain) (into m 0x01 t))) (en ∙ ap length part) so_far)

-- ---- group k as the code lends it: n bytes from k * 32 on, 32 or what is left
module _ (s : List ℕ) (k n : ℕ) (e : n ≡ min 32 (length s - k * 32)) where
  rest_length : length (drop (k * 32) s) ≡ length s - k * 32
  rest_length = length-drop (k * 32) s

  group_is : take n (drop (k * 32) s) ≡ group s k
  unfolding group
  group_is =
      ⊎_elim (λ p. take_all n (drop (k * 32) s) (omega (arith, rest_length)) ∙ sym (take_all 32 (drop (k * 32) s) (omega (arith, rest_length))))
      (λ p. let f : n ≡ 32 = omega arith in ap (λ (m : ℕ). take m (drop (k * 32) s)) f) (lt_or_ge (length s - k * 32) 32)

  left_is : drop n (drop (k * 32) s) ≡ drop ((k + 1) * 32) s
  left_is =
      drop-drop n (k * 32) s
      ∙ ⊎_elim (λ p. drop_of_length-le s {i = k * 32 + n} (omega arith) ∙ sym (drop_of_length-le s {i = (k + 1) * 32} (omega arith)))
      (λ p. let f : k * 32 + n ≡ (k + 1) * 32 = omega arith in ap (λ (m : ℕ). drop m s) f) (lt_or_ge (length s - k * 32) 32)

-- ---- group k at the front of what is left of s
module _ (s : List ℕ) (k : ℕ) (g left : List ℕ) (full : length g ≡ 32) (e : drop (k * 32) s ≡ g ++ left) where
  pub front_is : g ≡ group s k
  unfolding group
  front_is = sym (ap (take 32) e ∙ take_at g left 32 full)

  pub behind_is : drop ((k + 1) * 32) s ≡ left
  behind_is =
      let n : (k + 1) * 32 ≡ k * 32 + 32 = omega arith in
      ap (λ (j : ℕ). drop j s) n ∙ sym (drop-drop 32 (k * 32) s) ∙ ap (drop 32) e ∙ drop_at g left 32 full

-- the last group is all that is left
pub rest_is_group : (s : List ℕ) (k : ℕ) (g : List ℕ) → length g ≤ 32 → drop (k * 32) s ≡ g → g ≡ group s k
unfolding group
rest_is_group s k g h e = sym (ap (take 32) e ∙ take_all 32 g h)

-- ---- the buffer io, in which k groups are done, the state v'; what stands behind them in io is s
pub record Done (op : Op) (domain : ℕ) (v s : List ℕ) (k : ℕ) (v' io : List ℕ) : Type 0 where
  pub state : v' ≡ met op domain v s k
  pub bytes : io ≡ gave op domain v s k ++ drop (k * 32) s

pub done_none : (op : Op) (domain : ℕ) (v s : List ℕ) → Done op domain v s 0 v s
unfolding met gave
done_none op domain v s = record { state = refl; bytes = refl }

-- the next group is worked on as n bytes from k * 32 on
module _ {op : Op} {domain : ℕ} {v s : List ℕ} {k : ℕ} {v₁ io : List ℕ} (d : Done op domain v s k v₁ io) (same : length io ≡ length s)
    (inside : k * 32 ≤ length s) (n : ℕ) (e : n ≡ min 32 (length s - k * 32)) {v₂ g' : List ℕ} (w : Worked op (take n (drop (k * 32) io)) v₁ v₂ g')
    (v₃ : List ℕ) where
  gone : length (gave op domain v s k) ≡ k * 32
  gone = omega (arith, simp (length-append, length-drop) at (ap length d.bytes))

  rest_is : drop (k * 32) io ≡ drop (k * 32) s
  rest_is = ap (drop (k * 32)) d.bytes ∙ drop_at (gave op domain v s k) (drop (k * 32) s) (k * 32) gone

  part_is : take n (drop (k * 32) io) ≡ group s k
  part_is = ap (take n) rest_is ∙ group_is s k n e

  gave_more : take (k * 32) io ++ (g' ++ drop n (drop (k * 32) io)) ≡ gave op domain v s (k + 1) ++ drop ((k + 1) * 32) s
  unfolding gave
  gave_more =
      ap₂ (λ (a b : List ℕ). a ++ (g' ++ b)) (ap (take (k * 32)) d.bytes ∙ take_at (gave op domain v s k) (drop (k * 32) s) (k * 32) gone) (ap (drop n) rest_is ∙ left_is s k n e)
      ∙ ap (λ (b : List ℕ). gave op domain v s k ++ (b ++ drop ((k + 1) * 32) s)) (w.bytes ∙ ap₂ (given op) d.state part_is)
      ∙ sym (append_assoc (gave op domain v s k) (given op (met op domain v s k) (group s k)) (drop ((k + 1) * 32) s))
      ∙ ap (λ (j : ℕ). gave op domain v s j ++ drop ((k + 1) * 32) s) (sym (add-one k))

  pub done_more : k < (length s - 1) / 32 → v₃ ≡ π (into 32 domain v₂)
      → Done op domain v s (k + 1) v₃ (take (k * 32) io ++ (g' ++ drop n (drop (k * 32) io)))
  done_more h p = record { state = met_more op domain v s k v₁ v₂ v₃ _ d.state part_is w.state h p; bytes = gave_more }

  pub done_last : (j : ℕ) → j ≡ n → k ≡ (length s - 1) / 32 → v₃ ≡ π (into 32 (xor 0x02 domain) (into j 0x01 v₂))
      → RanAll op domain s v v₃ (take (k * 32) io ++ (g' ++ drop n (drop (k * 32) io)))
  unfolding out runs
  done_last j i h p =
      let l : k + 1 ≡ suc ((length s - 1) / 32) = omega arith in
      record {
        state = met_last op domain v s k v₁ v₂ v₃ _ d.state part_is w.state j (omega (arith, ap length part_is, length_group s k)) h p;
        bytes =
            gave_more
            ∙ ap (λ (b : List ℕ). gave op domain v s (k + 1) ++ b) (drop_of_length-le s {i = (k + 1) * 32} (omega arith))
            ∙ append-nil (gave op domain v s (k + 1))
            ∙ ap (gave op domain v s) l;
      }
