-- The blocks of a record, one after the other: what stands at each place among them, and the laying of the next one.
-- Assumes nothing.
use borrow.Author.Tests.{eq-eqb, eqb-true, eqb-false, le-leb}
use mathlib.Core.Path.{◌≡◌, refl, sym, ap, ap₂, ◌∙◌}
use mathlib.Core.Bool.{Bool, true, false}
use mathlib.Core.List.{List, [], ◌∷◌}
use Prim.Native.Nat.{ℕ, zero, suc, ◌+◌, ◌-◌, ◌*◌, ◌≤◌, ◌<◌}
use native.Mathlib.Nat.{add-zero, add-suc, le_of_suc-le-suc, not-suc-le-zero}
use native.Mathlib.Numerals.{add-one}
use native.Mathlib.Omega.{arith}
use lib.Dec.{eqb, eqb-zero-suc, eqb-suc-zero, eqb-suc-suc}
use lib.ListN.{length, take, drop, length-drop, drop_of_length-le}
use lib.Seq.{drop-drop, length-take-le}
use Rattle.std.specs.Prelude.{min}
use Rattle.std.proofs.lemmas.List.{take_min}
use Rattle.laws.specs.Choose.{pick}
use Rattle.block.specs.Content.{Content, more, head, first, flag}
use Rattle.block.specs.declared.Kind.{Kind}
use Rattle.block.specs.declared.Kind.TheVariants as kind
use Rattle.block.specs.Format.{seal_block, used_ok}
use Rattle.block.specs.Image.{set_block, lay}
use Rattle.block.specs.Calls.{content_for, fits_kind}
use Rattle.writer.specs.Items.{Item, rec, fmark, blocks_for, size, blocks, pieces, is_nil, following, recorded, piece, piece_at}

-- ---- how many there are
pub length_pieces : (k : ℕ) (b : List ℕ) → length (pieces k b) ≡ k
unfolding pieces
length_pieces zero b = refl
length_pieces (suc k) b = ap suc (length_pieces k (drop 488 b))

pub length_following : (xs : List (List ℕ)) → length (following xs) ≡ length xs
unfolding following
length_following [] = refl
length_following (x ∷ xs) = ap suc (length_following xs)

length_recorded : (xs : List (List ℕ)) → length (recorded xs) ≡ length xs
unfolding recorded
length_recorded [] = refl
length_recorded (x ∷ xs) = ap suc (length_following xs)

pub length_blocks : (i : Item) → length (blocks i) ≡ size i
length_blocks (rec b) = length_recorded (pieces (blocks_for (length b)) b) ∙ length_pieces (blocks_for (length b)) b
length_blocks fmark = refl

-- ---- what stands at i
-- none follows the last
none_follows : (k : ℕ) (b : List ℕ) → is_nil (pieces k b) ≡ eqb 1 (suc k)
unfolding pieces
none_follows zero b = refl
none_follows (suc k) b = sym (eqb-suc-suc 0 (suc k) ∙ eqb-zero-suc k)

following_next : (k i : ℕ) (b : List ℕ) → i < k
    → drop i (following (pieces k b)) ≡ more (eqb (suc i) k) (take 488 (drop (488 * i) b)) ∷ drop (suc i) (following (pieces k b))
unfolding pieces following
following_next zero i b h = absurd (not-suc-le-zero h)
following_next (suc k) zero b h = ap (λ (l : Bool). more l (take 488 b) ∷ following (pieces k (drop 488 b))) (none_follows k (drop 488 b))
following_next (suc k) (suc i) b h =
    let n : 488 + 488 * i ≡ 488 * suc i = omega arith in
    following_next k i (drop 488 b) (le_of_suc-le-suc h)
    ∙ ap₂ (λ (l : Bool) (x : List ℕ). more l (take 488 x) ∷ drop (suc i) (following (pieces k (drop 488 b))))
    (sym (eqb-suc-suc (suc i) k)) (drop-drop (488 * i) 488 b ∙ ap (λ (m : ℕ). drop m b) n)

pub piece_next : (k i : ℕ) (b : List ℕ) → i < k → drop i (recorded (pieces k b)) ≡ piece_at b k i ∷ drop (suc i) (recorded (pieces k b))
unfolding pieces recorded piece_at
piece_next zero i b h = absurd (not-suc-le-zero h)
piece_next (suc k) zero b h = ap (λ (l : Bool). head (first l (take 488 b)) ∷ following (pieces k (drop 488 b))) (none_follows k (drop 488 b))
piece_next (suc k) (suc i) b h =
    let n : 488 + 488 * i ≡ 488 * suc i = omega arith in
    following_next k i (drop 488 b) (le_of_suc-le-suc h)
    ∙ rw (eqb-suc-zero i, eqb-suc-suc (suc i) k, ← n, ← drop-drop (488 * i) 488 b)

-- ---- laid one by one: what is left to lay gives the whole
pub lay_none : (key : List ℕ) (id recording : ℕ) (image : List ℕ) (p : ℕ) (bs : List Content)
    → lay key id recording image (p + 0) (drop 0 bs) ≡ lay key id recording image p bs
lay_none key id recording image p bs = rw add-zero

pub lay_next : (key : List ℕ) (id recording : ℕ) (image image' : List ℕ) (p k i : ℕ) (b : List ℕ) → k ≡ blocks_for (length b) → i < k
    → image' ≡ set_block image (p + i) (seal_block key id recording (p + i) (piece_at b k i))
    → lay key id recording image' (p + (i + 1)) (drop (i + 1) (blocks (rec b))) ≡ lay key id recording image (p + i) (drop i (blocks (rec b)))
unfolding lay
lay_next key id recording image image' p k i b q h e =
    let l : i < blocks_for (length b) = omega arith in
    rw (e, q, add-one, add-suc, piece_next (blocks_for (length b)) i b l)

pub lay_all : (key : List ℕ) (id recording : ℕ) (image : List ℕ) (p k i : ℕ) (b : List ℕ) → k ≡ blocks_for (length b) → k ≤ i
    → lay key id recording image (p + i) (drop i (blocks (rec b))) ≡ image
unfolding lay
lay_all key id recording image p k i b q h =
    let n : length (blocks (rec b)) ≤ i = omega (arith, length_blocks (rec b)) in
    rw (drop_of_length-le (blocks (rec b)) {i = i} n)

-- ---- the block as the code seals it: its kind, with whether it is the last, and its bytes up to `to`
pub record Cut (n k i to : ℕ) : Type 0 where
  pub from_to : i * 488 ≤ to
  pub to_end : to ≤ n
  pub few : to - i * 488 ≤ 488
  pub fit : used_ok (flag (eqb (i + 1) k)) (to - i * 488) ≡ true

pub cut : (n k i to : ℕ) → k ≡ blocks_for n → i < k → to ≡ min n (i * 488 + 488) → Cut n k i to
unfolding blocks_for used_ok
cut n k i to q h e = either (eqb (i + 1) k) refl
  where
    either : (t : Bool) → eqb (i + 1) k ≡ t → Cut n k i to
    either true f =
        let m : i + 1 ≡ k = eqb-true (i + 1) k f in
        let w : to - i * 488 ≤ 488 = omega arith in
        record { from_to = omega arith; to_end = omega arith; few = w; fit = rw (f, le-leb 1 (to - i * 488) (omega arith), le-leb (to - i * 488) 488 w) }
    either false f =
        let m : i + 1 < k = omega (arith, eqb-false (i + 1) k f) in
        record { from_to = omega arith; to_end = omega arith; few = omega arith; fit = rw f (eq-eqb (to - i * 488) 488 (omega arith)) }

cut_bytes : (b : List ℕ) (i to : ℕ) → to ≡ min (length b) (i * 488 + 488) → take (to - i * 488) (drop (i * 488) b) ≡ take 488 (drop (488 * i) b)
cut_bytes b i to e =
    let n : to - i * 488 ≡ min 488 (length (drop (i * 488) b)) = omega (arith, length-drop (i * 488) b) in
    let z : i * 488 ≡ 488 * i = omega arith in
    ap (λ (m : ℕ). take m (drop (i * 488) b)) n ∙ take_min 488 (drop (i * 488) b) ∙ ap (λ (m : ℕ). take 488 (drop m b)) z

abbrev pub kind_at : Bool → Bool → Kind
kind_at begins last = pick begins (kind.First last) (kind.More last)

piece_fits : (begins last : Bool) (n : ℕ) → used_ok (flag last) n ≡ true → fits_kind (kind_at begins last) n ≡ true
piece_fits true last n e = e
piece_fits false last n e = e

piece_for : (begins last : Bool) (b : List ℕ) → content_for (kind_at begins last) b ≡ piece begins last b
piece_for true last b = refl
piece_for false last b = refl

module _ (b : List ℕ) (k i to : ℕ) (o : Kind) (q : k ≡ blocks_for (length b)) (h : i < k) (e : to ≡ min (length b) (i * 488 + 488))
    (f : o ≡ kind_at (eqb i 0) (eqb (i + 1) k)) where
  pub cut_fits : fits_kind o (length (take (to - i * 488) (drop (i * 488) b))) ≡ true
  cut_fits =
      let c = cut (length b) k i to q h e in
      let m = c.to_end in
      rw (f, length-take-le (to - i * 488) (drop (i * 488) b) (simp length-drop (omega arith))) (piece_fits (eqb i 0) (eqb (i + 1) k) (to - i * 488) c.fit)

  pub cut_is_piece : content_for o (take (to - i * 488) (drop (i * 488) b)) ≡ piece_at b k i
  unfolding piece_at
  cut_is_piece = rw (f, cut_bytes b i to e, add-one) (piece_for (eqb i 0) (eqb (suc i) k) (take 488 (drop (488 * i) b)))
