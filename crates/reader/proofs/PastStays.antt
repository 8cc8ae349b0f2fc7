-- Bytes past the first 31,232 of the lent buffer stay: what a read fills the buffer with has that length exactly.
-- Assumes nothing.
use borrow.Author.Tests.{eq-eqb, ne_eqb}
use mathlib.Core.Path.{◌≡◌, refl, ap, ◌∙◌}
use mathlib.Core.Bool.{true, false}
use mathlib.Core.List.{List, ◌++◌}
use Prim.Native.Nat.{ℕ, zero, suc, ◌+◌, ◌-◌, ◌*◌, ◌≤◌, ◌<◌, min}
use native.Mathlib.Omega.{arith}
use lib.ListN.{length, drop, replicate, length-append, length-replicate}
use Rattle.laws.specs.Lists.{splice}
use Rattle.block.specs.Content.{Content, shut, more, head, first, mark, eod}
use Rattle.block.specs.Image.{View, capacity_of, view}
use Rattle.block.proofs.ViewLaws.{Sized, sized_most, view_sized}
use Rattle.reader.specs.declared.Got.{Got}
use Rattle.reader.specs.Walk.{Told, inside, gather, between, read_at}
use Rattle.reader.specs.Reading.{record_of, read_number, read_answer, filled, Read}
use Rattle.reader.proofs.ImageTests.{readable}
use Rattle.reader.proofs.BufferLaws.{drop_splice}

-- ---- no record is longer than 31,232 bytes
gather_long : (room : ℕ) (v : View) (q : ℕ) (before : List ℕ) → ((j : ℕ) → j < q + room → Sized (v j))
    → length (record_of (gather room v q before).told) ≤ length before + 488 * room
unfolding gather
gather_long zero v q before h = omega arith
gather_long (suc room) v q before h = go (v q) (h q (omega arith)) (λ b. gather_long room v (suc q) b (λ j l. h j (omega arith)))
  where
    go : (o : Content) → Sized o → ((b : List ℕ) → length (record_of (gather room v (suc q) b).told) ≤ length b + 488 * room)
        → length (record_of (inside o q before (λ b. gather room v (suc q) b)).told) ≤ length before + 488 * suc room
    go shut s k = omega arith
    go (more true b) s k = let l = sized_most true b s in omega (arith, length-append before b)
    go (more false b) s k = let l = sized_most false b s in omega (arith, k (before ++ b), length-append before b)
    go (head h) s k = omega arith

record_long : (v : View) (c p : ℕ) → p < c → ((j : ℕ) → j < c → Sized (v j)) → length (record_of (read_at v c p).told) ≤ 31232
unfolding read_at
record_long v c p l h = go (v p) (h p l)
  where
    go : (o : Content) → Sized o → length (record_of (between o v c p).told) ≤ 31232
    go shut s = omega arith
    go (more f b) s = omega arith
    go (head (first true b)) s = let k = sized_most true b s in omega arith
    go (head (first false b)) s =
        let k = sized_most false b s in
        let g = gather_long (min (c - suc p) 63) v (suc p) b (λ j i. h j (omega arith)) in
        omega arith
    go (head mark) s = omega arith
    go (head eod) s = omega arith

-- ---- so what fills the buffer has 31,232 bytes
filled_exactly : (t : Told) → length (record_of t) ≤ 31232 → length (filled t) ≡ 31232
unfolding filled
filled_exactly t h =
    length-append (record_of t) (replicate (31232 - length (record_of t)) 0)
    ∙ omega (arith, length-replicate {A = ℕ} (31232 - length (record_of t)) 0)

-- ---- and a call leaves what stands behind them, accepted or refused
pub bytes_past_stay : (key : List ℕ) (id recording : ℕ) (image : List ℕ) (p : ℕ) (buffer : List ℕ) (r : Got) (buffer' : List ℕ)
    → Read key id recording image p buffer r buffer' → drop 31232 buffer' ≡ drop 31232 buffer
unfolding read_answer capacity_of
bytes_past_stay key id recording image p buffer r buffer' c = go (read_number key image p (length buffer)) refl
  where
    go : (n : ℕ) → read_number key image p (length buffer) ≡ n → drop 31232 buffer' ≡ drop 31232 buffer
    go zero e =
        let d = readable key image p (length buffer) e in
        let g = d.enough in
        let v = view key id recording image in
        let t = (read_at v (capacity_of image) p).told in
        let f = filled_exactly t (record_long v (capacity_of image) p d.place (λ j l. view_sized key id recording image j (omega arith))) in
        let h : buffer' ≡ splice buffer 0 (filled t) = c.leaves ∙ rw (eq-eqb (read_number key image p (length buffer)) 0 e) in
        ap (drop 31232) h ∙ drop_splice buffer 0 (filled t) 31232 (omega arith) (omega arith)
    go (suc n) e =
        let h : buffer' ≡ buffer = c.leaves ∙ rw (ne_eqb (read_number key image p (length buffer)) 0 (λ z. omega arith)) in
        ap (drop 31232) h
