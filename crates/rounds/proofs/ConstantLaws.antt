-- The words of the table are the planes of the constants: one test of twelve rounds. And the code makes those words
-- from Table 1.1.
-- Assumes nothing.
use mathlib.Core.Path.{◌≡◌, refl, sym, ap, ap₂, subst, ◌∙◌}
use mathlib.Core.Bool.{Bool, true, false}
use mathlib.Core.List.{List, [], ◌∷◌}
use mathlib.Core.Logic.{⊎_elim}
use Prim.Native.Nat.{ℕ, ◌+◌, ◌*◌, ◌/◌, ◌%◌, ◌^◌, ◌<◌}
use native.Mathlib.Nat.{not-suc-le-zero}
use native.Mathlib.Omega.{arith}
use lib.Bits.{bit_and}
use lib.Dec.{T, eqb, eqb→eq}
use lib.ListN.{get_or, set, replicate, length-set}
use lib.Seq.{get_or-set_same, get_or-set_other}
use Rattle.std.specs.Int.{w32, from_le_bytes}
use Rattle.laws.specs.Loops.{front}
use Rattle.laws.specs.Lists.{listed, same_to, same}
use Rattle.laws.proofs.ListLaws.{listed_seen, listed_is, front_all}
use Rattle.laws.proofs.OrderLaws.{lt_or_ge}
use Rattle.laws.proofs.SameLaws.{same_true}
use Rattle.pi.specs.Table.{table, S}
use Rattle.pi.specs.Permutation.{state_by, constant}
use Rattle.planes.specs.declared.Planes.{Planes}
use Rattle.planes.specs.Planes.{bit, byte_by, flipped, word, bytes_of}
use Rattle.planes.proofs.Tests.{tested}
use Rattle.rounds.specs.Rounds.{bits_of, halves, Made, entries_at, word_at, constant_planes}

true_is : (b : Bool) → T b → b ≡ true
true_is true t = refl
true_is false t = absurd t

pub constant_planes_lem : (r : ℕ) → r < 12 → bytes_of (constant_planes r) ≡ flipped (constant r)
unfolding same_to same listed state_by constant table S bit byte_by flipped word bytes_of bits_of halves word_at constant_planes
constant_planes_lem r h =
    same_true (bytes_of (constant_planes r)) (flipped (constant r))
    (true_is (same (bytes_of (constant_planes r)) (flipped (constant r)))
    (tested (λ n. same (bytes_of (constant_planes n)) (flipped (constant n))) 12 tt r h))

-- word b of round r's constant
unfoldable pub rule : ℕ → ℕ → ℕ
rule r b = word_at halves (r * 16 + 2 * b)

pub constant_is : (r b : ℕ) (l : List ℕ) → l ≡ front b (rule r) (replicate 8 0) → b ≡ 8 → ◌≡◌ {A = Planes} (record { words = l }) (constant_planes r)
unfolding constant_planes rule
constant_is r b l e h = ap (λ (l : List ℕ). record { words = l }) (front_all 8 b (rule r) (replicate 8 0) l e refl h)

-- ---- the halves, one by one
half_rule : ℕ → ℕ
half_rule k = bits_of (k % 16 / 2) (k / 16 * 8 + k % 2 * 4)

found : ℕ → ℕ
found k = bit_and (entries_at (k / 16 * 8 + k % 2 * 4) / 2 ^ (k % 16 / 2)) 0x01010101

found_is : (k : ℕ) → k < 192 → found k ≡ get_or halves k 0
unfolding half_rule found halves bits_of entries_at bit table S
found_is k h = eqb→eq (found k) (half_rule k) (tested (λ k. eqb (found k) (half_rule k)) 192 tt k h) ∙ sym (listed_seen 192 half_rule k h)

-- the low half of plane b, and the high one
low_is : (r b : ℕ) → r < 12 → b < 8 → bit_and (entries_at (r * 8) / 2 ^ b) 0x01010101 ≡ get_or halves (r * 16 + 2 * b) 0
unfolding found
low_is r b hr hb =
    let at : (r * 16 + 2 * b) / 16 * 8 + (r * 16 + 2 * b) % 2 * 4 ≡ r * 8 = omega arith in
    let by : (r * 16 + 2 * b) % 16 / 2 ≡ b = omega arith in
    ap₂ (λ (k n : ℕ). bit_and (entries_at k / 2 ^ n) 0x01010101) (sym at) (sym by) ∙ found_is (r * 16 + 2 * b) (omega arith)

high_is : (r b : ℕ) → r < 12 → b < 8 → bit_and (entries_at (r * 8 + 4) / 2 ^ b) 0x01010101 ≡ get_or halves (r * 16 + 2 * b + 1) 0
unfolding found
high_is r b hr hb =
    let at : (r * 16 + 2 * b + 1) / 16 * 8 + (r * 16 + 2 * b + 1) % 2 * 4 ≡ r * 8 + 4 = omega arith in
    let by : (r * 16 + 2 * b + 1) % 16 / 2 ≡ b = omega arith in
    ap₂ (λ (k n : ℕ). bit_and (entries_at k / 2 ^ n) 0x01010101) (sym at) (sym by) ∙ found_is (r * 16 + 2 * b + 1) (omega arith)

pub entries_are : (t : List ℕ) (at r : ℕ) → t ≡ table
    → r ≡ from_le_bytes w32 (get_or t at 0 ∷ get_or t (at + 1) 0 ∷ get_or t (at + 2) 0 ∷ get_or t (at + 3) 0 ∷ []) → r ≡ entries_at at
unfolding entries_at S
entries_are t at r e f = f ∙ ap (λ (t : List ℕ). from_le_bytes w32 (get_or t at 0 ∷ get_or t (at + 1) 0 ∷ get_or t (at + 2) 0 ∷ get_or t (at + 3) 0 ∷ [])) e

-- ---- done so far: one more, and all
one_more : (k : List ℕ) (n x : ℕ) → n < 192 → Made n k → x ≡ get_or halves n 0 → Made (n + 1) (set k n x)
one_more k n x h m e = (
  length-set k n x ∙ m.0,
  λ i l.
      ⊎_elim
      (λ p. get_or-set_other k n i x 0 (λ q. omega arith) ∙ m.1 i p)
      (λ p. let q : i ≡ n = omega arith in ap (λ (j : ℕ). get_or (set k n x) j 0) q ∙ get_or-set_same k n x 0 (omega (arith, m.0)) ∙ e ∙ ap (λ (j : ℕ). get_or halves j 0) (sym q))
      (lt_or_ge i n),
)

pub none_made : Made 0 (replicate 192 0)
none_made = (refl, λ i h. absurd (not-suc-le-zero h))

-- both halves of plane b of round r, as the code finds them
pub two_more : (k : List ℕ) (r b low high : ℕ) → r < 12 → b < 8 → low ≡ entries_at (r * 8) → high ≡ entries_at (r * 8 + 4) → Made (r * 16 + 2 * b) k
    → Made (r * 16 + 2 * (b + 1)) (set (set k (r * 16 + 2 * b) (bit_and (low / 2 ^ b) 0x01010101)) (r * 16 + 2 * b + 1) (bit_and (high / 2 ^ b) 0x01010101))
two_more k r b low high hr hb el eh m =
    let e : r * 16 + 2 * b + 1 + 1 ≡ r * 16 + 2 * (b + 1) = omega arith in
    let x = bit_and (low / 2 ^ b) 0x01010101 in
    let y = bit_and (high / 2 ^ b) 0x01010101 in
    let k₁ = set k (r * 16 + 2 * b) x in
    subst (λ (n : ℕ). Made n (set k₁ (r * 16 + 2 * b + 1) y)) e
    (one_more k₁ (r * 16 + 2 * b + 1) y (omega arith)
    (one_more k (r * 16 + 2 * b) x (omega arith) m (ap (λ (z : ℕ). bit_and (z / 2 ^ b) 0x01010101) el ∙ low_is r b hr hb))
    (ap (λ (z : ℕ). bit_and (z / 2 ^ b) 0x01010101) eh ∙ high_is r b hr hb))

pub all_made : (k : List ℕ) → Made 192 k → k ≡ halves
unfolding halves
all_made k m = sym (listed_is 192 _ k m.0 (λ i h. sym (m.1 i h ∙ listed_seen 192 _ i h)))
