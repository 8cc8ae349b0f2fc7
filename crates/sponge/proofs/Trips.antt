-- The round trip: dec takes what enc gave back to what enc took, and the other way round, and both leave one state.
-- Assumes nothing.
use mathlib.Core.Path.{◌≡◌, refl, sym, ap, ap₂, ◌∙◌}
use mathlib.Core.List.{List, ◌++◌}
use mathlib.Core.Logic.{⊎_elim}
use Prim.Native.Nat.{ℕ, zero, suc, ◌+◌, ◌*◌, ◌≤◌, ◌<◌}
use native.Mathlib.Omega.{arith}
use lib.Dec.{T, ltb}
use lib.ListN.{length, take, drop, length-drop}
use lib.Seq.{take-add, take_all, take-append-le, drop-append-le, drop_at}
use Rattle.laws.proofs.OrderLaws.{lt_or_ge}
use Rattle.pi.specs.Permutation.{π}
use Rattle.laws.specs.Choose.{pick}
use Rattle.sponge.specs.Blink.{Op, enc, dec, kept, given, pad_between, pad_close, group, runs, met, gave, after, out, Ran}
use Rattle.sponge.proofs.Groups.{added_masked, masked_masked, splice_masked}
use Rattle.sponge.proofs.Lengths.{gives, length_given, length_group, runs_same, runs_hold, runs_full, length_met, length_gave, length_out}
use Rattle.sponge.proofs.CallLaws.{allowed, number_zero, ran_state, ran_bytes}

-- back undoes op on each group
pub record Undoes (back op : Op) : Type 0 where
  pub gives : T (gives op)
  pub state : (v g : List ℕ) → length v ≡ 64 → length g ≤ 64 → kept back v (given op v g) ≡ kept op v g
  pub bytes : (v g : List ℕ) → length v ≡ 64 → length g ≤ 64 → given back v (given op v g) ≡ g

pub dec_undoes : Undoes dec enc
unfolding kept given
dec_undoes =
    record {
      gives = tt;
      state = λ v g h b. splice_masked g v b h;
      bytes = λ v g h b. masked_masked g v b h;
    }

pub enc_undoes : Undoes enc dec
unfolding kept given
enc_undoes =
    record {
      gives = tt;
      state = λ v g h b. added_masked g v b h;
      bytes = λ v g h b. masked_masked g v b h;
    }

-- ---- the groups of a list behind whose first m groups stands another
module _ (xs ys : List ℕ) (m : ℕ) (l : length xs ≡ m * 32) where
  group_before : (k : ℕ) → k < m → group (xs ++ ys) k ≡ group xs k
  unfolding group
  group_before k h =
      let n : 32 ≤ length (drop (k * 32) xs) = simp length-drop (omega arith) in
      ap (take 32) (drop-append-le (k * 32) xs ys (omega arith)) ∙ take-append-le 32 (drop (k * 32) xs) ys n

  group_behind : length ys ≤ 32 → group (xs ++ ys) m ≡ ys
  unfolding group
  group_behind h = ap (take 32) (drop_at xs ys (m * 32) l) ∙ take_all 32 ys h

-- ---- op on p, then back on what it gave
module _ (back op : Op) (u : Undoes back op) (d : ℕ) (v p : List ℕ) (full : length v ≡ 64) where
  small : (k : ℕ) → length (group p k) ≤ 64
  small k = omega (arith, length_group p k)

  given_size : (k : ℕ) → length (given op (met op d v p k) (group p k)) ≡ length (group p k)
  given_size k = length_given op u.gives (met op d v p k) (group p k) (length_met op d v p k full) (small k)

  -- a group of what m groups gave
  given_at : (m : ℕ) → m ≤ runs p → (k : ℕ) → k < m → group (gave op d v p m) k ≡ given op (met op d v p k) (group p k)
  unfolding gave
  given_at zero b k h = absurd (omega arith)
  given_at (suc m) b k h =
      let l : length (gave op d v p m) ≡ m * 32 = omega (arith, length_gave op u.gives d v p m full, runs_full p m (omega arith)) in
      let g = given op (met op d v p m) (group p m) in
      ⊎_elim (λ q. group_before (gave op d v p m) g m l k q ∙ given_at m (omega arith) k q)
      (λ q.
      let e : k ≡ m = omega arith in
      ap (group (gave op d v p m ++ g)) e
      ∙ group_behind (gave op d v p m) g m l (omega (arith, given_size m, length_group p m))
      ∙ ap (λ (j : ℕ). given op (met op d v p j) (group p j)) (sym e))
      (lt_or_ge k m)

  group_out : (k : ℕ) → k < runs p → group (out op d v p) k ≡ given op (met op d v p k) (group p k)
  unfolding out
  group_out k h = given_at (runs p) (omega arith) k h

  runs_out : runs (out op d v p) ≡ runs p
  runs_out = runs_same (out op d v p) p (length_out op u.gives d v p full)

  met_back : (k : ℕ) → k ≤ runs p → met back d v (out op d v p) k ≡ met op d v p k
  unfolding met
  met_back zero b = refl
  met_back (suc k) b =
      let c = out op d v p in
      let kc = ap₂ (kept back) (met_back k (omega arith)) (group_out k b) ∙ u.state (met op d v p k) (group p k) (length_met op d v p k full) (small k) in
      let lc = ap length (group_out k b) ∙ given_size k in
      ap (λ (r : ℕ). π (pick (ltb (suc k) r) (pad_between d) (pad_close d (length (group c k))) (kept back (met back d v c k) (group c k)))) runs_out
      ∙ ap₂ (λ (n : ℕ) (t : List ℕ). π (pick (ltb (suc k) (runs p)) (pad_between d) (pad_close d n) t)) lc kc

  gave_back : (k : ℕ) → k ≤ runs p → gave back d v (out op d v p) k ≡ take (k * 32) p
  unfolding gave group
  gave_back zero b = refl
  gave_back (suc k) b =
      let n : k * 32 + 32 ≡ suc k * 32 = omega arith in
      ap₂ ◌++◌ (gave_back k (omega arith))
      (ap₂ (given back) (met_back k (omega arith)) (group_out k b) ∙ u.bytes (met op d v p k) (group p k) (length_met op d v p k full) (small k))
      ∙ sym (take-add (k * 32) 32 p)
      ∙ ap (λ (j : ℕ). take j p) n

  pub after_back : after back d v (out op d v p) ≡ after op d v p
  unfolding after
  after_back = ap (met back d v (out op d v p)) runs_out ∙ met_back (runs p) (omega arith)

  out_gave : out back d v (out op d v p) ≡ gave back d v (out op d v p) (runs (out op d v p))
  unfolding out
  out_gave = refl

  pub out_back : out back d v (out op d v p) ≡ p
  out_back =
      out_gave
      ∙ ap (gave back d v (out op d v p)) runs_out
      ∙ gave_back (runs p) (omega arith)
      ∙ take_all (runs p * 32) p (runs_hold p)

-- ---- enc and dec
module _ (d : ℕ) (v : List ℕ) (full : length v ≡ 64) where
  pub dec_after_enc : (p : List ℕ) → after dec d v (out enc d v p) ≡ after enc d v p
  dec_after_enc p = after_back dec enc dec_undoes d v p full

  pub dec_out_enc : (p : List ℕ) → out dec d v (out enc d v p) ≡ p
  dec_out_enc p = out_back dec enc dec_undoes d v p full

  pub enc_after_dec : (c : List ℕ) → after enc d v (out dec d v c) ≡ after dec d v c
  enc_after_dec c = after_back enc dec enc_undoes d v c full

  pub enc_out_dec : (c : List ℕ) → out enc d v (out dec d v c) ≡ c
  enc_out_dec c = out_back enc dec enc_undoes d v c full

-- ---- at the calls: op, taken, then back from the same state on what op gave, into a buffer of its length
ran_back : (back op : Op) → Undoes back op → {d r : ℕ} {v p o v' c q v'' p' : List ℕ}
    → Ran op d p v o 0 v' c → length q ≡ length c → Ran back d c v q r v'' p' → (r ≡ 0) × (p' ≡ p) × (v'' ≡ v')
ran_back back op u {d} {r} {v} {p} {o} {v'} {c} {q} x h y =
    let a = allowed v p o (sym x.code) in
    let e : c ≡ out op d v p = ran_bytes x a.full a.same a.few in
    let few : length c ≤ 65536 = omega (arith, ap length e, length_out op u.gives d v p a.full, a.few) in (
      y.code ∙ number_zero v c q a.full h few,
      ran_bytes y a.full h few ∙ ap (out back d v) e ∙ out_back back op u d v p a.full,
      ran_state y a.full h few
          ∙ ap (after back d v) e
          ∙ after_back back op u d v p a.full
          ∙ sym (ran_state x a.full a.same a.few),
    )

module _ {d r : ℕ} {v p o v' c q v'' : List ℕ} where
  pub dec_undoes_enc : {p' : List ℕ}
      → Ran enc d p v o 0 v' c → length q ≡ length c → Ran dec d c v q r v'' p' → (r ≡ 0) × (p' ≡ p) × (v'' ≡ v')
  dec_undoes_enc = ran_back dec enc dec_undoes

  pub enc_undoes_dec : {c' : List ℕ}
      → Ran dec d c v o 0 v' p → length q ≡ length p → Ran enc d p v q r v'' c' → (r ≡ 0) × (c' ≡ c) × (v'' ≡ v')
  enc_undoes_dec = ran_back enc dec enc_undoes
