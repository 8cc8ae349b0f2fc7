-- A whole state: the columns done so far, one more, and all eight.
-- Assumes nothing.
use mathlib.Core.Path.{◌≡◌, sym, ap, ap₂, subst, ◌∙◌}
use mathlib.Core.Bool.{Bool}
use mathlib.Core.List.{List}
use mathlib.Core.Logic.{⊎_elim}
use Prim.Native.Nat.{ℕ, ◌+◌, ◌-◌, ◌*◌, ◌/◌, ◌%◌, ◌<◌, ◌≤◌}
use native.Mathlib.Nat.{not-suc-le-zero}
use native.Mathlib.Omega.{arith}
use lib.Dec.{eqb, eqb→eq}
use lib.ListN.{length, get_or}
use Rattle.laws.specs.Lists.{listed}
use Rattle.laws.specs.Xor.{xor}
use Rattle.laws.proofs.OrderLaws.{lt_or_ge}
use Rattle.laws.proofs.TableLaws.{at}
use Rattle.pi.specs.Table.{S, S⁻}
use Rattle.pi.specs.Permutation.{state_by, substitute, substitute⁻, source, target, shift, shift⁻}
use Rattle.pi.proofs.Build.{state_at, state_same}
use Rattle.pi.proofs.StateLaws.{places}
use Rattle.planes.specs.Planes.{flipped, plus}
use Rattle.gates.specs.Gates.{Same16, half}
use Rattle.boxes.specs.declared.Both.{Both}
use Rattle.boxes.specs.Boxes.{byte, forth, back, cell, quarter, stored, Done, Columns}
use Rattle.boxes.proofs.Columns.{stored_length, stored_on, stored_apart, cell_is}

-- what the loop keeps
abbrev pub SoFar : (ℕ → ℕ) → (ℕ → ℕ) → List ℕ → List ℕ → ℕ → Type 0
SoFar B turn s q j = (j ≤ 8) × (length q ≡ 64) × Done B turn s q j

pub begun : (B turn : ℕ → ℕ) (s q : List ℕ) → length q ≡ 64 → SoFar B turn s q 0
begun B turn s q l = (omega arith, l, λ g h. absurd (not-suc-le-zero h))

-- both stores of a column
abbrev put : List ℕ → ℕ → ℕ → Both → List ℕ
put q j k y = stored (stored q j k y.low) (j + 32) k y.high

put_length : (q : List ℕ) (j k : ℕ) (y : Both) → length (put q j k y) ≡ length q
put_length q j k y = stored_length (stored q j k y.low) (j + 32) k y.high ∙ stored_length q j k y.low

module _ (q : List ℕ) (j k : ℕ) (y : Both) (i : ℕ) where
  -- an earlier column stays
  put_off : (g : ℕ) → g < j → j < 8 → cell (put q j k y) g i ≡ cell q g i
  put_off g hg hj =
      cell_is (put q j k y) g i
      ∙ ap₂ (λ (a b : ℕ). a + 16 * b)
      (stored_apart (stored q j k y.low) g (j + 32) k y.high i (λ m n hm hn e. omega arith) ∙ stored_apart q g j k y.low i (λ m n hm hn e. omega arith))
      (stored_apart (stored q j k y.low) (g + 32) (j + 32) k y.high i (λ m n hm hn e. omega arith) ∙ stored_apart q (g + 32) j k y.low i (λ m n hm hn e. omega arith))
      ∙ sym (cell_is q g i)

  -- its own is the bytes of the words, turned
  put_on : length q ≡ 64 → j < 8 → k < 8 → i < 8 → cell (put q j k y) j i ≡ byte y (i + 8 - k)
  unfolding byte
  put_on l hj hk hi =
      cell_is (put q j k y) j i
      ∙ ap₂ (λ (a b : ℕ). a + 16 * b)
      (stored_apart (stored q j k y.low) j (j + 32) k y.high i (λ m n hm hn e. omega arith) ∙ stored_on q j k y.low (omega arith) i hi hk)
      (stored_on (stored q j k y.low) (j + 32) k y.high (omega (arith, stored_length q j k y.low)) i hi hk)

-- one more column
module _ (B turn : ℕ → ℕ) (s q : List ℕ) (j k : ℕ) (x y : Both) where
  one_more : length q ≡ 64 → j < 8 → k < 8 → k ≡ turn j
      → Same16 (half x.low) (λ n. quarter s j (n % 8)) → Same16 (half x.high) (λ n. quarter s (j + 32) (n % 8))
      → Same16 (byte y) (λ n. B (byte x n)) → Done B turn s q j → Done B turn s (put q j k y) (j + 1)
  unfolding byte
  one_more l hj hk ek el eh ey d g hg i hi =
      ⊎_elim
      (λ p. put_off q j k y i g p hj ∙ d g p i hi)
      (λ p. let e : g ≡ j = omega arith in
      let n : i + 8 - k < 16 = omega arith in
      subst (λ (c : ℕ). cell (put q j k y) c i ≡ B (cell s c ((i + 8 - turn c) % 8))) (sym e)
      (put_on q j k y i l hj hk hi ∙ ey (i + 8 - k) n
      ∙ ap B (ap₂ (λ (a b : ℕ). a + 16 * b) (el (i + 8 - k) n) (eh (i + 8 - k) n) ∙ sym (cell_is s j ((i + 8 - k) % 8)))
      ∙ ap (λ (c : ℕ). B (cell s j ((i + 8 - c) % 8))) ek))
      (lt_or_ge g j)

  -- as the loop finds it, store by store
  pub next : (q₁ q₂ : List ℕ) → j < 8 → k < 8 → k ≡ turn j
      → Same16 (half x.low) (λ n. quarter s j (n % 8)) → Same16 (half x.high) (λ n. quarter s (j + 32) (n % 8))
      → Same16 (byte y) (λ n. B (byte x n)) → q₁ ≡ stored q j k y.low → q₂ ≡ stored q₁ (j + 32) k y.high
      → SoFar B turn s q j → SoFar B turn s q₂ (j + 1)
  next q₁ q₂ hj hk ek el eh ey e₁ e₂ d =
      let e : q₂ ≡ put q j k y = e₂ ∙ ap (λ (p : List ℕ). stored p (j + 32) k y.high) e₁ in
      (omega arith, ap length e ∙ put_length q j k y ∙ d.1, subst (λ (p : List ℕ). Done B turn s p (j + 1)) (sym e) (one_more d.1 hj hk ek el eh ey d.2))

-- ---- all eight: each byte of the state by its rule
flipped_at : (s : List ℕ) (k : ℕ) → k < 64 → get_or (flipped s) k 0 ≡ cell s (k % 8) (k / 8)
unfolding flipped cell
flipped_at s k h = state_at _ k h

-- a table between two sums
around : (T : ℕ → ℕ) (c d : ℕ) (s : List ℕ) (k : ℕ) → k < 64
    → get_or (plus d (state_by (λ k. T (get_or (plus c s) k 0)))) k 0 ≡ xor (T (xor (get_or s k 0) c)) d
unfolding plus
around T c d s k h =
    state_at _ k h ∙ ap (λ (x : ℕ). xor x d) (state_at _ k h ∙ ap T (state_at _ k h))

-- a turn by what is left to eight goes the other way
other_way : ℕ → ℕ → Bool
other_way k x = eqb ((k / 8 + k % 8) % 8) ((k / 8 + 8 - (8 - k % 8) % 8) % 8)

turned_back : (k : ℕ) → k < 64 → (k / 8 + k % 8) % 8 ≡ (k / 8 + 8 - (8 - k % 8) % 8) % 8
unfolding other_way places listed
turned_back k h = eqb→eq _ _ (at other_way places tt k h)

-- shifted: where the byte that comes to k is from, by row and column; and the same for the way back
module _ (s : List ℕ) (k : ℕ) (h : k < 64) where
  from_source : get_or (flipped s) (source k) 0 ≡ cell s (k % 8) ((k / 8 + 8 - k % 8) % 8)
  unfolding source
  from_source =
      let b : source k < 64 = omega arith in
      let c : source k % 8 ≡ k % 8 = omega arith in
      let r : source k / 8 ≡ (k / 8 + 8 - k % 8) % 8 = omega arith in
      flipped_at s (source k) b ∙ ap₂ (cell s) c r

  from_target : get_or (flipped s) (target k) 0 ≡ cell s (k % 8) ((k / 8 + 8 - (8 - k % 8) % 8) % 8)
  unfolding target
  from_target =
      let b : target k < 64 = omega arith in
      let c : target k % 8 ≡ k % 8 = omega arith in
      let r : target k / 8 ≡ (k / 8 + k % 8) % 8 = omega arith in
      flipped_at s (target k) b ∙ ap₂ (cell s) c (r ∙ turned_back k h)

source_below : (k : ℕ) → source k < 64
unfolding source
source_below k = omega arith

all_forth : (s q : List ℕ) → Done forth (λ j. j) s q 8 → flipped q ≡ shift (plus 0xD5 (substitute (plus 0x62 (flipped s))))
unfolding flipped shift substitute forth cell
all_forth s q d =
    state_same _ _
    (λ k h. d (k % 8) (omega arith) (k / 8) (omega arith)
    ∙ sym (around S 0x62 0xD5 (flipped s) (source k) (source_below k) ∙ ap forth (from_source s k h)))

all_back : (s q : List ℕ) → Done back (λ j. (8 - j) % 8) s q 8 → flipped q ≡ plus 0x5D (substitute⁻ (plus 0x26 (shift⁻ (flipped s))))
unfolding flipped shift⁻ substitute⁻ back cell plus
all_back s q d =
    state_same _ _
    (λ k h. d (k % 8) (omega arith) (k / 8) (omega arith)
    ∙ sym (sym (state_at _ k h) ∙ around S⁻ 0x26 0x5D (shift⁻ (flipped s)) k h ∙ ap back (state_at _ k h ∙ from_target s k h)))

-- as the loop leaves it, and what that makes of the state either way
pub done : (B turn : ℕ → ℕ) (s q : List ℕ) (j : ℕ) → j ≡ 8 → SoFar B turn s q j → Columns B turn s q
done B turn s q j e d = (d.1, subst (Done B turn s q) e d.2)

module _ (s q : List ℕ) where
  pub done_forth : Columns forth (λ j. j) s q → (length q ≡ 64) × (flipped q ≡ shift (plus 0xD5 (substitute (plus 0x62 (flipped s)))))
  done_forth d = (d.0, all_forth s q d.1)

  pub done_back : Columns back (λ j. (8 - j) % 8) s q → (length q ≡ 64) × (flipped q ≡ plus 0x5D (substitute⁻ (plus 0x26 (shift⁻ (flipped s)))))
  done_back d = (d.0, all_back s q d.1)
