-- A key, a round, the permutation: each can be undone, and undoing it can be undone, on each list of 64 bytes.
-- Assumes nothing.
use mathlib.Core.Path.{◌≡◌, refl, ap, ◌∙◌}
use mathlib.Core.Bool.{Bool, true, false}
use mathlib.Core.List.{List}
use Prim.Native.Nat.{ℕ, zero, suc, ◌+◌, ◌*◌, ◌<◌}
use lib.Dec.{lit<, ltb}
use lib.ListN.{get_or}
use Rattle.laws.specs.Choose.{pick}
use Rattle.laws.specs.Xor.{xor}
use Rattle.laws.proofs.XorLaws.{xor_undone, xor_byte}
use Rattle.pi.specs.Table.{S}
use Rattle.pi.specs.Permutation.{substitute, substitute⁻, shift, shift⁻, mix, mix⁻, scramble, scramble⁻, added, constant, round, round⁻, rounds, rounds⁻, π, π⁻}
use Rattle.pi.proofs.Build.{state_at, state_is}
use Rattle.pi.proofs.StateLaws.{Full, state_full}
use Rattle.pi.proofs.SubstituteLaws.{any_S, substitute_full, substitute⁻_full, substitute⁻_substitute, substitute_substitute⁻}
use Rattle.pi.proofs.ShiftLaws.{shift_full, shift⁻_full, shift⁻_shift, shift_shift⁻}
use Rattle.pi.proofs.MixLaws.{mix_full, mix⁻_full, mix⁻_mix, mix_mix⁻}

-- ---- a key, added twice, is gone
pub added_full : (key s : List ℕ) → Full key → Full s → Full (added key s)
unfolding added
added_full key s wk w = state_full _ (λ k. xor_byte (get_or s k 0) (get_or key k 0) (w.bytes k) (wk.bytes k))

pub added_added : (key s : List ℕ) → Full s → added key (added key s) ≡ s
unfolding added
added_added key s w =
    state_is _ s w.long
    (λ k h. ap (λ (n : ℕ). xor n (get_or key k 0)) (state_at (λ k. xor (get_or s k 0) (get_or key k 0)) k h) ∙ xor_undone (get_or s k 0) (get_or key k 0))

pub constant_full : (r : ℕ) → Full (constant r)
unfolding constant
constant_full r = state_full _ (λ k. either k (ltb k 8))
  where
    either : (k : ℕ) (b : Bool) → pick b (S (r * 8 + k)) 0 < 256
    either k = elim [ true ↦ any_S (r * 8 + k) | false ↦ lit< tt ]

-- ---- a round, and the permutation
pub scramble_full : (s : List ℕ) → Full (scramble s)
unfolding scramble
scramble_full s = mix_full _ (shift_full _ (substitute_full s))

scramble⁻_full : (s : List ℕ) → Full (scramble⁻ s)
unfolding scramble⁻
scramble⁻_full s = substitute⁻_full _

scramble⁻_scramble : (s : List ℕ) → Full s → scramble⁻ (scramble s) ≡ s
unfolding scramble scramble⁻
scramble⁻_scramble s w =
    let w₁ = substitute_full s in
    ap (λ (t : List ℕ). substitute⁻ (shift⁻ t)) (mix⁻_mix (shift (substitute s)) (shift_full (substitute s) w₁))
    ∙ ap substitute⁻ (shift⁻_shift (substitute s) w₁)
    ∙ substitute⁻_substitute s w

scramble_scramble⁻ : (s : List ℕ) → Full s → scramble (scramble⁻ s) ≡ s
unfolding scramble scramble⁻
scramble_scramble⁻ s w =
    let w₁ = mix⁻_full s w in
    ap (λ (t : List ℕ). mix (shift t)) (substitute_substitute⁻ (shift⁻ (mix⁻ s)) (shift⁻_full (mix⁻ s) w₁))
    ∙ ap mix (shift_shift⁻ (mix⁻ s) w₁)
    ∙ mix_mix⁻ s w

pub round⁻_round : (key s : List ℕ) → Full s → round⁻ key (round key s) ≡ s
unfolding round round⁻
round⁻_round key s w = ap scramble⁻ (added_added key (scramble s) (scramble_full s)) ∙ scramble⁻_scramble s w

pub round_round⁻ : (key s : List ℕ) → Full key → Full s → round key (round⁻ key s) ≡ s
unfolding round round⁻
round_round⁻ key s wk w = ap (added key) (scramble_scramble⁻ (added key s) (added_full key s wk w)) ∙ added_added key s w

pub round_full : (key s : List ℕ) → Full key → Full (round key s)
unfolding round
round_full key s wk = added_full key (scramble s) wk (scramble_full s)

pub round⁻_full : (key s : List ℕ) → Full (round⁻ key s)
unfolding round⁻
round⁻_full key s = scramble⁻_full (added key s)

pub rounds_full : (n : ℕ) (s : List ℕ) → Full s → Full (rounds n s)
unfolding rounds
rounds_full zero s w = w
rounds_full (suc n) s w = round_full (constant n) (rounds n s) (constant_full n)

rounds⁻_rounds : (n : ℕ) (s : List ℕ) → Full s → rounds⁻ n (rounds n s) ≡ s
unfolding rounds rounds⁻
rounds⁻_rounds zero s w = refl
rounds⁻_rounds (suc n) s w = ap (rounds⁻ n) (round⁻_round (constant n) (rounds n s) (rounds_full n s w)) ∙ rounds⁻_rounds n s w

rounds_rounds⁻ : (n : ℕ) (s : List ℕ) → Full s → rounds n (rounds⁻ n s) ≡ s
unfolding rounds rounds⁻
rounds_rounds⁻ zero s w = refl
rounds_rounds⁻ (suc n) s w =
    ap (round (constant n)) (rounds_rounds⁻ n (round⁻ (constant n) s) (round⁻_full (constant n) s))
    ∙ round_round⁻ (constant n) s (constant_full n) w

pub π_full : (s : List ℕ) → Full s → Full (π s)
unfolding π
π_full s w = rounds_full 12 s w

pub π⁻_π : (s : List ℕ) → Full s → π⁻ (π s) ≡ s
unfolding π π⁻
π⁻_π s w = rounds⁻_rounds 12 s w

pub π_π⁻ : (s : List ℕ) → Full s → π (π⁻ s) ≡ s
unfolding π π⁻
π_π⁻ s w = rounds_rounds⁻ 12 s w
