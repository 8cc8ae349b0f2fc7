-- One group against the front of the state: what is masked twice stands again.
-- Assumes nothing.
use mathlib.Core.Path.{◌≡◌, sym, ap, ◌∙◌}
use mathlib.Core.List.{List}
use mathlib.Core.Logic.{⊎_elim}
use Prim.Native.Nat.{ℕ, ◌≤◌, ◌<◌}
use native.Mathlib.Omega.{arith}
use lib.ListN.{length, get_or, take, get_or-eq_default}
use lib.Seq.{length-take-le, get_or-take}
use Rattle.laws.specs.Lists.{splice}
use Rattle.laws.specs.Xor.{xor, xor_into}
use Rattle.laws.proofs.ListLaws.{listed_same, listed_take}
use Rattle.laws.proofs.OrderLaws.{lt_or_ge}
use Rattle.laws.proofs.SpliceLaws.{length_splice, splice_whole, take_splice, splice_before, splice_after}
use Rattle.laws.proofs.XorLaws.{xor_swap, xor_zero, xor_back}
use Rattle.pi.specs.Permutation.{state_by, added}
use Rattle.sponge.specs.Blink.{enc, dec, kept, given}
use Rattle.sponge.specs.Ways.{Worked}
use Rattle.pi.proofs.Build.{added_is, length_state_by, state_at, state_is}

-- what `buffer::copy` leaves of a source that is no shorter
pub laid : (to from : List ℕ) → length to ≤ length from → splice to 0 (take (length to) from) ≡ take (length to) from
laid to from h = splice_whole to (take (length to) from) (length-take-le (length to) from h)

pub length_added : (g v : List ℕ) → length (added g v) ≡ 64
unfolding added
length_added g v = length_state_by _

-- past the group's end the state stands
added_past : (g v : List ℕ) (k : ℕ) → length g ≤ k → xor (get_or v k 0) (get_or g k 0) ≡ get_or v k 0
added_past g v k h = ap (xor (get_or v k 0)) (get_or-eq_default g 0 {n = k} h) ∙ xor_zero (get_or v k 0)

module _ (g v : List ℕ) (small : length g ≤ 64) where
  pub length_masked : length (take (length g) (added g v)) ≡ length g
  length_masked = length-take-le (length g) (added g v) (omega (arith, length_added g v))

  masked_at : (k : ℕ) → k < length g → get_or (take (length g) (added g v)) k 0 ≡ xor (get_or v k 0) (get_or g k 0)
  unfolding added
  masked_at k h = get_or-take (length g) (added g v) k 0 h ∙ state_at _ k (omega arith)

  -- what `buffer::add` leaves of a group
  pub masked_is : xor_into v g ≡ take (length g) (added g v)
  unfolding xor_into added state_by
  masked_is = listed_same (length g) _ _ (λ k h. xor_swap (get_or g k 0) (get_or v k 0)) ∙ listed_take (length g) 64 _ small

  pub added_masked : length v ≡ 64 → added (take (length g) (added g v)) v ≡ splice v 0 g
  unfolding added
  added_masked full =
      state_is _ (splice v 0 g) (length_splice v 0 g (omega arith) ∙ full)
      (λ k h. ⊎_elim
      (λ l. ap (xor (get_or v k 0)) (masked_at k l) ∙ xor_back (get_or v k 0) (get_or g k 0) ∙ sym (splice_before v g k l))
      (λ l. added_past (take (length g) (added g v)) v k (omega (arith, length_masked)) ∙ sym (splice_after v g k l))
      (lt_or_ge k (length g)))

  pub masked_masked : length v ≡ 64 → take (length (take (length g) (added g v))) (added (take (length g) (added g v)) v) ≡ g
  masked_masked full =
      ap (take (length (take (length g) (added g v)))) (added_masked full) ∙ take_splice v (length (take (length g) (added g v))) g (sym length_masked)

-- the masked group laid over the state
pub splice_masked : (g v : List ℕ) → length g ≤ 64 → length v ≡ 64 → splice v 0 (take (length g) (added g v)) ≡ added g v
splice_masked g v small full =
    sym (added_masked (take (length g) (added g v)) v (omega (arith, length_masked g v small)) full)
    ∙ ap (λ (t : List ℕ). added t v) (masked_masked g v small full)

-- ---- what the code of each operation leaves of a group
module _ (g v : List ℕ) (small : length g ≤ 32) (full : length v ≡ 64) where
  pub encrypted : (v' g' : List ℕ) → v' ≡ xor_into g v → length v' ≡ 64 → g' ≡ splice g 0 (take (length g) v') → Worked enc g v v' g'
  unfolding kept given
  encrypted v' g' s w b =
      let e = s ∙ added_is g v full in
      record { state = e; bytes = b ∙ laid g v' (omega arith) ∙ ap (take (length g)) e }

  pub decrypted : (v' g' : List ℕ) → g' ≡ xor_into v g → v' ≡ xor_into g' v → Worked dec g v v' g'
  unfolding kept given
  decrypted v' g' b s =
      let e = b ∙ masked_is g v (omega arith) in
      record { state = s ∙ added_is g' v full ∙ ap (λ (t : List ℕ). added t v) e ∙ added_masked g v (omega arith) full; bytes = e }
