-- A column: its eight planes through the circuits are its bytes through the table; what a load reads, and what a store leaves.
-- Assumes nothing.
use mathlib.Core.Path.{◌≡◌, ap₂, ◌∙◌}
use mathlib.Core.Bool.{Bool}
use mathlib.Core.List.{List}
use Prim.Native.Nat.{ℕ, ◌+◌, ◌-◌, ◌*◌, ◌/◌, ◌%◌, ◌<◌}
use native.Mathlib.Omega.{arith}
use lib.Dec.{T, lit<, eqb, eqb→eq}
use lib.ListN.{length, get_or, set, length-set}
use lib.Seq.{get_or-set_same, get_or-set_other}
use Rattle.laws.specs.Xor.{xor}
use Rattle.pi.specs.Table.{table, back_table, S, S⁻, E, E⁻, R}
use Rattle.planes.specs.Planes.{bit, byte_by}
use Rattle.planes.proofs.Tests.{upto, tested₂}
use Rattle.gates.specs.Gates.{half}
use Rattle.gates.specs.declared.Four.{Four}
use Rattle.boxes.specs.Boxes.{forth, back, cell, quarter, turned_by, stored}
use Rattle.boxes.proofs.Bits.{bit_turned}

-- ---- the miniboxes together, by one test over all halves: h and l go in, and two come out
unfoldable hi_in : ℕ → ℕ
hi_in h = xor (get_or E (xor h 6) 0) 0xF

unfoldable lo_in : ℕ → ℕ
lo_in l = xor (get_or E⁻ (xor l 2) 0) 0xD

unfoldable mid : ℕ → ℕ → ℕ
mid u v = xor (get_or R (xor (xor u v) 2) 0) 0xB

unfoldable hi_out : ℕ → ℕ → ℕ
hi_out u w = xor (get_or E (xor (xor u w) 4) 0) 0xD

unfoldable lo_out : ℕ → ℕ → ℕ
lo_out v w = xor (get_or E⁻ (xor (xor v w) 6) 0) 5

high_of : ℕ → ℕ → ℕ
high_of h l = hi_out (hi_in h) (mid (hi_in h) (lo_in l))

low_of : ℕ → ℕ → ℕ
low_of h l = lo_out (lo_in l) (mid (hi_in h) (lo_in l))

-- the halves that come out, put together, are B of those that go in
fits : (ℕ → ℕ → ℕ) → (ℕ → ℕ) → ℕ → ℕ → Bool
fits put B h l = eqb (put (high_of h l) (low_of h l)) (B (put h l))

module _ (h l u v s w t o p q : ℕ) (bh : h < 16) (bl : l < 16)
    (eu : u ≡ xor (get_or E (xor h 6) 0) 0xF) (ev : v ≡ xor (get_or E⁻ (xor l 2) 0) 0xD) (es : s ≡ xor u v) (ew : w ≡ xor (get_or R (xor s 2) 0) 0xB)
    (et : t ≡ xor u w) (ep : p ≡ xor (get_or E (xor t 4) 0) 0xD) (eo : o ≡ xor v w) (eq : q ≡ xor (get_or E⁻ (xor o 6) 0) 5) where
  is_high : p ≡ high_of h l
  unfolding high_of hi_in lo_in mid hi_out
  is_high = cc

  is_low : q ≡ low_of h l
  unfolding low_of hi_in lo_in mid lo_out
  is_low = cc

  passes : (put : ℕ → ℕ → ℕ) (B : ℕ → ℕ) → T (upto (λ i. upto (fits put B i) 16) 16) → put p q ≡ B (put h l)
  unfolding fits
  passes put B t = ap₂ put is_high is_low ∙ eqb→eq _ _ (tested₂ (fits put B) 16 16 t h l bh bl)

  pub goes : q + 16 * p ≡ forth (l + 16 * h)
  unfolding fits high_of low_of hi_in lo_in mid hi_out lo_out forth S table E E⁻ R xor
  goes = passes (λ x y. y + 16 * x) forth tt

-- ---- the same back, between two exchanges of the halves
turns_over : ℕ → ℕ → Bool
turns_over l h = eqb (forth (h + 16 * l) / 16 + 16 * (forth (h + 16 * l) % 16)) (back (l + 16 * h))

pub comes : (l h p q : ℕ) → l < 16 → h < 16 → p < 16 → p + 16 * q ≡ forth (h + 16 * l) → q + 16 * p ≡ back (l + 16 * h)
unfolding turns_over forth back S S⁻ table back_table xor
comes l h p q bl bh bp e =
    let f : ℕ = forth (h + 16 * l) in
    let u : q ≡ f / 16 = omega arith in
    let v : p ≡ f % 16 = omega arith in
    ap₂ (λ (x y : ℕ). x + 16 * y) u v ∙ eqb→eq _ _ (tested₂ turns_over 16 16 tt l h bl bh)

-- ---- a load
pub read : (s : List ℕ) (at n : ℕ) (x : Four)
    → bit n x.p0 ≡ bit (n % 8) (get_or s at 0) → bit n x.p1 ≡ bit (n % 8) (get_or s (at + 8) 0)
    → bit n x.p2 ≡ bit (n % 8) (get_or s (at + 16) 0) → bit n x.p3 ≡ bit (n % 8) (get_or s (at + 24) 0) → half x n ≡ quarter s at (n % 8)
unfolding half quarter
read s at n x e₀ e₁ e₂ e₃ = cc

-- ---- a store
module _ (q : List ℕ) (at k : ℕ) (x : Four) where
  pub stored_length : length (stored q at k x) ≡ length q
  unfolding stored
  stored_length = simp length-set

  abbrev q₁ : List ℕ
  q₁ = set q at (turned_by k x.p0)

  abbrev q₂ : List ℕ
  q₂ = set q₁ (at + 8) (turned_by k x.p1)

  abbrev q₃ : List ℕ
  q₃ = set q₂ (at + 16) (turned_by k x.p2)

  -- the later stores leave what is not theirs
  off₃ : (c : ℕ) → (c ≡ at + 24 → ⊥) → get_or (stored q at k x) c 0 ≡ get_or q₃ c 0
  unfolding stored
  off₃ c n₃ = get_or-set_other q₃ (at + 24) c (turned_by k x.p3) 0 n₃

  off₂ : (c : ℕ) → (c ≡ at + 16 → ⊥) → (c ≡ at + 24 → ⊥) → get_or (stored q at k x) c 0 ≡ get_or q₂ c 0
  off₂ c n₂ n₃ = off₃ c n₃ ∙ get_or-set_other q₂ (at + 16) c (turned_by k x.p2) 0 n₂

  off₁ : (c : ℕ) → (c ≡ at + 8 → ⊥) → (c ≡ at + 16 → ⊥) → (c ≡ at + 24 → ⊥) → get_or (stored q at k x) c 0 ≡ get_or q₁ c 0
  off₁ c n₁ n₂ n₃ = off₂ c n₂ n₃ ∙ get_or-set_other q₁ (at + 8) c (turned_by k x.p1) 0 n₁

  pub stored_off : (c : ℕ) → (c ≡ at → ⊥) → (c ≡ at + 8 → ⊥) → (c ≡ at + 16 → ⊥) → (c ≡ at + 24 → ⊥) → get_or (stored q at k x) c 0 ≡ get_or q c 0
  stored_off c n₀ n₁ n₂ n₃ = off₁ c n₁ n₂ n₃ ∙ get_or-set_other q at c (turned_by k x.p0) 0 n₀

  -- and what stands there is the word, turned
  module _ (l : at + 24 < length q) where
    at₀ : get_or (stored q at k x) at 0 ≡ turned_by k x.p0
    at₀ = off₁ at (λ e. omega arith) (λ e. omega arith) (λ e. omega arith) ∙ get_or-set_same q at (turned_by k x.p0) 0 (omega arith)

    at₁ : get_or (stored q at k x) (at + 8) 0 ≡ turned_by k x.p1
    at₁ = off₂ (at + 8) (λ e. omega arith) (λ e. omega arith) ∙ get_or-set_same q₁ (at + 8) (turned_by k x.p1) 0 (simp length-set (omega arith))

    at₂ : get_or (stored q at k x) (at + 16) 0 ≡ turned_by k x.p2
    at₂ = off₃ (at + 16) (λ e. omega arith) ∙ get_or-set_same q₂ (at + 16) (turned_by k x.p2) 0 (simp length-set (omega arith))

    at₃ : get_or (stored q at k x) (at + 24) 0 ≡ turned_by k x.p3
    unfolding stored
    at₃ = get_or-set_same q₃ (at + 24) (turned_by k x.p3) 0 (simp length-set (omega arith))

    pub stored_on : (i : ℕ) → i < 8 → k < 8 → quarter (stored q at k x) at i ≡ half x (i + 8 - k)
    unfolding quarter half turned_by
    stored_on i hi hk =
        rw (at₀, at₁, at₂, at₃, bit_turned i k x.p0 hi hk, bit_turned i k x.p1 hi hk, bit_turned i k x.p2 hi hk, bit_turned i k x.p3 hi hk)

-- a store elsewhere
pub stored_apart : (q : List ℕ) (at to k : ℕ) (x : Four) (i : ℕ) → ((m n : ℕ) → m < 4 → n < 4 → at + 8 * m ≡ to + 8 * n → ⊥)
    → quarter (stored q to k x) at i ≡ quarter q at i
unfolding quarter
stored_apart q at to k x i ne =
    rw (
      stored_off q to k x at (λ e. ne 0 0 (lit< tt) (lit< tt) (omega arith)) (λ e. ne 0 1 (lit< tt) (lit< tt) (omega arith)) (λ e. ne 0 2 (lit< tt) (lit< tt) (omega arith)) (λ e. ne 0 3 (lit< tt) (lit< tt) (omega arith)),
      stored_off q to k x (at + 8) (λ e. ne 1 0 (lit< tt) (lit< tt) (omega arith)) (λ e. ne 1 1 (lit< tt) (lit< tt) (omega arith)) (λ e. ne 1 2 (lit< tt) (lit< tt) (omega arith)) (λ e. ne 1 3 (lit< tt) (lit< tt) (omega arith)),
      stored_off q to k x (at + 16) (λ e. ne 2 0 (lit< tt) (lit< tt) (omega arith)) (λ e. ne 2 1 (lit< tt) (lit< tt) (omega arith)) (λ e. ne 2 2 (lit< tt) (lit< tt) (omega arith)) (λ e. ne 2 3 (lit< tt) (lit< tt) (omega arith)),
      stored_off q to k x (at + 24) (λ e. ne 3 0 (lit< tt) (lit< tt) (omega arith)) (λ e. ne 3 1 (lit< tt) (lit< tt) (omega arith)) (λ e. ne 3 2 (lit< tt) (lit< tt) (omega arith)) (λ e. ne 3 3 (lit< tt) (lit< tt) (omega arith)),
    )

-- ---- a cell is what stands in two quarters
pub cell_is : (s : List ℕ) (j i : ℕ) → cell s j i ≡ quarter s j i + 16 * quarter s (j + 32) i
unfolding cell byte_by quarter
cell_is s j i =
    let e₀ : 8 * 0 + j ≡ j = omega arith in
    let e₁ : 8 * 1 + j ≡ j + 8 = omega arith in
    let e₂ : 8 * 2 + j ≡ j + 16 = omega arith in
    let e₃ : 8 * 3 + j ≡ j + 24 = omega arith in
    let e₄ : 8 * 4 + j ≡ j + 32 = omega arith in
    let e₅ : 8 * 5 + j ≡ j + 32 + 8 = omega arith in
    let e₆ : 8 * 6 + j ≡ j + 32 + 16 = omega arith in
    let e₇ : 8 * 7 + j ≡ j + 32 + 24 = omega arith in
    rw (e₀, e₁, e₂, e₃, e₄, e₅, e₆, e₇) (omega arith)
