-- Planes that hold the mix of a state by some row: what turns, doublings and sums of them hold.
-- Assumes nothing.
use mathlib.Core.Path.{◌≡◌, refl, sym, ap, ap₂, subst, ◌∙◌}
use mathlib.Core.List.{List, [], ◌∷◌}
use mathlib.Core.Logic.{⊎_elim}
use Prim.Native.Nat.{ℕ, ◌+◌, ◌-◌, ◌*◌, ◌/◌, ◌%◌, ◌<◌}
use native.Mathlib.Omega.{arith}
use lib.Dec.{T, ltb, eqb, eqb→eq, lit<}
use lib.Bits.{bit_xor}
use lib.ListN.{length, get_or, set}
use lib.Seq.{get_or-set_same, get_or-set_other}
use Rattle.std.proofs.lemmas.Bool.{cases_eq}
use Rattle.laws.specs.Lists.{listed}
use Rattle.laws.specs.Xor.{xor, xor_all}
use Rattle.laws.proofs.OrderLaws.{below8}
use Rattle.laws.proofs.TableLaws.{every, at}
use Rattle.laws.proofs.XorLaws.{xor_byte, all_same, all_sum}
use Rattle.pi.specs.Field.{only, double, times_bits, times}
use Rattle.pi.specs.Permutation.{added, turned, mix_with}
use Rattle.pi.proofs.Build.{state_at, state_is}
use Rattle.pi.proofs.Products.{times_in, times_assoc, times_byte, one_times}
use Rattle.pi.proofs.Sums.{times_all}
use Rattle.pi.proofs.StateLaws.{list_bytes, places}
use Rattle.pi.proofs.MixLaws.{only_at, mix_diagonal}
use Rattle.planes.specs.Planes.{flipped, bytes_of, bit, word}
use Rattle.planes.specs.declared.Planes.{Planes}
use Rattle.planes.proofs.FlipLaws.{flipped_full, flipped_added}
use Rattle.mixing.specs.Turns.{before, Turned, Rows_turned, bytes_doubled}
use Rattle.mixing.proofs.Sums as sums
use Rattle.mixing.proofs.Sums.{alone, plane}
use Rattle.mixing.proofs.States.{row_turned, wanted, mixes_by}

-- the state that planes hold, byte by byte
unfoldable pub byte : Planes → ℕ → ℕ
byte p k = get_or (flipped (bytes_of p)) k 0

-- byte k of the state that p holds, mixed by the circulant with the first row m
unfoldable pub mixed_byte : (ℕ → ℕ) → Planes → ℕ → ℕ
mixed_byte m p k = xor_all 8 (λ i. times (m ((k % 8 + 8 - i) % 8)) (byte p (k / 8 * 8 + i)))

-- x holds that mix of what p holds
pub record By (m : ℕ → ℕ) (p x : Planes) : Type 0 where
  pub low : (j : ℕ) → m j < 256
  pub is : (k : ℕ) → k < 64 → byte x k ≡ mixed_byte m p k

-- ---- planes given word by word: turned, word i by itself, and twice
pub words_turned : {d v : ℕ} {p r : Planes} (i : ℕ) → T (ltb i 8) → Rows_turned d p r → Turned (8 * d) (get_or p.words i 0) v
    → Rows_turned d p (record { words = set (get_or r.words 0 0 ∷ get_or r.words 1 0 ∷ get_or r.words 2 0 ∷ get_or r.words 3 0 ∷ get_or r.words 4 0 ∷ get_or r.words 5 0 ∷ get_or r.words 6 0 ∷ get_or r.words 7 0 ∷ []) i v })
unfolding word
words_turned {d} {v} {p} {r} i h e t =
    let l : List ℕ = get_or r.words 0 0 ∷ get_or r.words 1 0 ∷ get_or r.words 2 0 ∷ get_or r.words 3 0 ∷ get_or r.words 4 0 ∷ get_or r.words 5 0 ∷ get_or r.words 6 0 ∷ get_or r.words 7 0 ∷ [] in
    let same : (n : ℕ) → n < 8 → get_or r.words n 0 ≡ get_or l n 0 =
    below8 (λ (n : ℕ). get_or r.words n 0 ≡ get_or l n 0) refl refl refl refl refl refl refl refl in
    record {
      words =
          λ n g.
          ⊎_elim
          (λ (q : n ≡ i).
          subst (λ (k : ℕ). Turned (8 * d) (get_or p.words k 0) (get_or (set l i v) k 0)) (sym q)
          (subst (Turned (8 * d) (get_or p.words i 0)) (sym (get_or-set_same l i v 0 (lit< h))) t))
          (λ q. subst (Turned (8 * d) (get_or p.words n 0)) (same n g ∙ sym (get_or-set_other l i n v 0 q)) (e.words n g))
          (cases_eq n i);
    }

pub words_doubled : (p : Planes)
    → flipped (bytes_of (record {
      words =
          get_or p.words 7 0 ∷ get_or p.words 0 0 ∷ bit_xor (get_or p.words 1 0) (get_or p.words 7 0) ∷ bit_xor (get_or p.words 2 0) (get_or p.words 7 0)
          ∷ bit_xor (get_or p.words 3 0) (get_or p.words 7 0) ∷ get_or p.words 4 0 ∷ get_or p.words 5 0 ∷ get_or p.words 6 0 ∷ [];
    }))
    ≡ bytes_doubled (flipped (bytes_of p))
unfolding bytes_doubled plane sums.sum word alone before wanted bit only_at times times_bits double only xor places listed
words_doubled p =
    mixes_by (only_at 2) p _
    (plane p _ (lit< tt))
    (plane p _ (lit< tt))
    (sums.sum (plane p _ (lit< tt)) (plane p _ (lit< tt)))
    (sums.sum (plane p _ (lit< tt)) (plane p _ (lit< tt)))
    (sums.sum (plane p _ (lit< tt)) (plane p _ (lit< tt)))
    (plane p _ (lit< tt))
    (plane p _ (lit< tt))
    (plane p _ (lit< tt))
    tt tt tt tt tt tt tt tt
    ∙ mix_diagonal 2 (flipped (bytes_of p))

-- ---- what is the mix by a row of bytes
pub by_row : {p x : Planes} (row : List ℕ) → T (every (λ k c. ltb c 256) 0 row) → flipped (bytes_of x) ≡ mix_with row (flipped (bytes_of p))
    → By (λ j. get_or row j 0) p x
unfolding byte mixed_byte mix_with turned
by_row row t e = record { low = list_bytes row t; is = λ k h. ap (λ s. get_or s k 0) e ∙ state_at _ k h }

-- ---- p itself: the row 1
pub whole : (p : Planes) → By (λ j. get_or (only_at 1) j 0) p p
unfolding only_at
whole p =
    let s : List ℕ = flipped (bytes_of p) in
    by_row (only_at 1) tt (sym (mix_diagonal 1 s ∙ state_is _ s (flipped_full (bytes_of p)).long (λ k h. one_times (get_or s k 0))))

-- ---- a sum
pub sum : {p x y r : Planes} {m n : ℕ → ℕ} → By m p x → By n p y → bytes_of r ≡ added (bytes_of y) (bytes_of x)
    → By (λ j. xor (m j) (n j)) p r
unfolding byte mixed_byte added
sum {p} {x} {y} {r} {m} {n} a b e =
    record {
      low = λ j. xor_byte (m j) (n j) (a.low j) (b.low j);
      is =
          λ k h. ap (λ s. get_or (flipped s) k 0) e ∙ ap (λ s. get_or s k 0) (flipped_added (bytes_of x) (bytes_of y)) ∙ state_at _ k h
          ∙ ap₂ xor (a.is k h) (b.is k h) ∙ sym (all_sum 8 _ _)
          ∙ all_same 8 _ _ (λ i l. sym (times_in (m ((k % 8 + 8 - i) % 8)) (n ((k % 8 + 8 - i) % 8)) (byte p (k / 8 * 8 + i))));
    }

-- ---- twice
pub twice : {p x r : Planes} {m : ℕ → ℕ} → By m p x → flipped (bytes_of r) ≡ bytes_doubled (flipped (bytes_of x)) → By (λ j. times 2 (m j)) p r
unfolding byte mixed_byte bytes_doubled
twice {p} {x} {r} {m} a e =
    record {
      low = λ j. times_byte 2 (m j) (a.low j);
      is =
          λ k h. ap (λ s. get_or s k 0) e ∙ state_at _ k h ∙ ap (times 2) (a.is k h) ∙ times_all 2 8 _
          ∙ all_same 8 _ _ (λ i l.
          times_assoc 2 (m ((k % 8 + 8 - i) % 8)) (byte p (k / 8 * 8 + i)) (a.low ((k % 8 + 8 - i) % 8)) ((flipped_full (bytes_of p)).bytes (k / 8 * 8 + i)));
    }

-- ---- a turn by d columns
from : (d k i : ℕ) → i < 8 → ((k / 8 * 8 + (k % 8 + (8 - d)) % 8) % 8 + 8 - i) % 8 ≡ ((k % 8 + 8 - i) % 8 + (8 - d)) % 8
from d k i h = omega arith

pub turn : {p x r : Planes} {m : ℕ → ℕ} → By m p x → (d : ℕ) → Rows_turned d x r → d < 8 → By (λ j. m ((j + (8 - d)) % 8)) p r
unfolding byte mixed_byte
turn {p} {x} {r} {m} a d e hd =
    record {
      low = λ j. a.low ((j + (8 - d)) % 8);
      is =
          λ k h.
          let row : (k / 8 * 8 + (k % 8 + (8 - d)) % 8) / 8 ≡ k / 8 = omega arith in
          row_turned x r d k hd h e ∙ a.is (k / 8 * 8 + (k % 8 + (8 - d)) % 8) (omega arith)
          ∙ all_same 8 _ _ (λ i l. ap₂ (λ (j b : ℕ). times (m j) (byte p (b * 8 + i))) (from d k i l) row);
    }

-- ---- the row, found to be the wanted one by a test of its eight entries
pub mixes : {p x : Planes} {m : ℕ → ℕ} → By m p x → (row : List ℕ) → length row ≡ 8 → T (every (λ j c. eqb (m j) c) 0 row)
    → flipped (bytes_of x) ≡ mix_with row (flipped (bytes_of p))
unfolding byte mixed_byte mix_with turned
mixes {p} {x} {m} a row l t =
    sym (state_is _ (flipped (bytes_of x)) (flipped_full (bytes_of x)).long (λ k h.
    all_same 8 _ _ (λ i g.
    ap (λ (c : ℕ). times c (byte p (k / 8 * 8 + i)))
    (sym (eqb→eq (m ((k % 8 + 8 - i) % 8)) (get_or row ((k % 8 + 8 - i) % 8) 0) (at (λ j c. eqb (m j) c) row t ((k % 8 + 8 - i) % 8) (omega (arith, l))))))
    ∙ sym (a.is k h)))
