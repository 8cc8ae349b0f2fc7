-- A read and one turn of it, by what a block shows, as the code sees it.
-- Assumes nothing.
use mathlib.Core.Path.{◌≡◌, refl, sym, ap, ap₂, ◌∙◌, subst}
use mathlib.Core.Bool.{Bool, true, false}
use mathlib.Core.Logic.{◌⊎◌, ⊎_elim}
use mathlib.Core.List.{List, [], ◌++◌, append_assoc, append-nil}
use Prim.Native.Nat.{ℕ, suc, ◌+◌, ◌-◌, ◌*◌, ◌≤◌, ◌<◌, min}
use native.Mathlib.Numerals.{add-one}
use native.Mathlib.Omega.{arith}
use lib.ListN.{length, take, drop, replicate, length-append, length-replicate}
use lib.Seq.{length-take-le}
use Rattle.std.specs.Prelude.{Result, Ok}
use Rattle.laws.specs.Lists.{splice}
use Rattle.numbers.specs.declared.Refusal.{Refusal}
use Rattle.laws.proofs.SpliceLaws.{take_splice}
use Rattle.block.specs.declared.Seen.{Seen}
use Rattle.block.specs.declared.Seen.TheVariants as seen
use Rattle.block.specs.Content.{Content, shut, more, head, Head, first, mark, eod, bytes_of}
use Rattle.block.specs.Format.{payload}
use Rattle.block.specs.Image.{View, capacity_of}
use Rattle.block.specs.Calls.{seen_of}
use Rattle.block.proofs.PayloadLaws.{length_payload, payload_is}
use Rattle.reader.specs.declared.Outcome.{Outcome}
use Rattle.reader.specs.declared.Outcome.TheVariants as o
use Rattle.reader.specs.declared.Got.{Got}
use Rattle.reader.specs.Walk.{Told, Record, Mark, End, Bad, Stray, Cut, Answer, answer, inside, gather, between, read_at}
use Rattle.reader.specs.Reading.{outcome_of, record_of, got_of, filled}
use Rattle.reader.proofs.BufferLaws.{drop_splice, take_laid, cleared, splice_over}
use Rattle.block.proofs.ViewLaws.{Sized, sized_most}

-- ---- what the code sees is what a content is
shut_seen : (c : Content) → seen_of c ≡ seen.Shut → c ≡ shut
shut_seen shut e = refl
shut_seen (more l b) e = cc
shut_seen (head (first l b)) e = cc
shut_seen (head mark) e = cc
shut_seen (head eod) e = cc

first_seen : (c : Content) {l : Bool} {n : ℕ} → seen_of c ≡ seen.First l n → (c ≡ head (first l (bytes_of c))) × (length (bytes_of c) ≡ n)
first_seen shut e = (cc, cc)
first_seen (more l b) e = (cc, cc)
first_seen (head (first l b)) e = (cc, cc)
first_seen (head mark) e = (cc, cc)
first_seen (head eod) e = (cc, cc)

more_seen : (c : Content) {l : Bool} {n : ℕ} → seen_of c ≡ seen.More l n → (c ≡ more l (bytes_of c)) × (length (bytes_of c) ≡ n)
more_seen shut e = (cc, cc)
more_seen (more l b) e = (cc, cc)
more_seen (head (first l b)) e = (cc, cc)
more_seen (head mark) e = (cc, cc)
more_seen (head eod) e = (cc, cc)

pub mark_seen : (c : Content) → seen_of c ≡ seen.Mark → c ≡ head mark
mark_seen shut e = cc
mark_seen (more l b) e = cc
mark_seen (head (first l b)) e = cc
mark_seen (head mark) e = refl
mark_seen (head eod) e = cc

pub end_seen : (c : Content) → seen_of c ≡ seen.End → c ≡ head eod
end_seen shut e = cc
end_seen (more l b) e = cc
end_seen (head (first l b)) e = cc
end_seen (head mark) e = cc
end_seen (head eod) e = refl

-- ---- what an answer leaves in the buffer
got_is : (r : Got) {x : Outcome} {n : ℕ} → r.outcome ≡ Ok x → r.next ≡ n → r ≡ record { outcome = Ok x; next = n }
got_is r e f = ap₂ (λ (y : Result Outcome Refusal) (k : ℕ). record { outcome = y; next = k }) e f

pub filled_least : (t : Told) → 31232 ≤ length (filled t)
unfolding filled
filled_least t = omega (arith, length-append (record_of t) (replicate (31232 - length (record_of t)) 0), length-replicate {A = ℕ} (31232 - length (record_of t)) 0)

-- the answer x, and b kept as far as k
abbrev pub Keeps : List ℕ → ℕ → Outcome → ℕ → Got → List ℕ → Type 0
Keeps b k x n r b' = record { says : (r.outcome ≡ Ok x) × (r.next ≡ n); leaves : b' ≡ splice b k (replicate (31232 - k) 0) }

-- the answer a, and what it fills the buffer with
abbrev pub Answered : List ℕ → Answer → Got → List ℕ → Type 0
Answered b₀ a r b' = record { says : r ≡ got_of a; leaves : b' ≡ splice b₀ 0 (filled a.told) }

module _ {a : Answer} {r : Got} (b₀ b : List ℕ) {b' : List ℕ} (f : drop 31232 b ≡ drop 31232 b₀) where
  -- none of the buffer is kept
  pub nothing_kept : (t : Told) (n : ℕ) → a ≡ answer t n → record_of t ≡ [] → Keeps b 0 (outcome_of t) n r b' → Answered b₀ a r b'
  unfolding filled
  nothing_kept t n e z k =
      let i : take 0 b ≡ [] ++ replicate (0 - length {A = ℕ} []) 0 = refl in
      record { says = got_is r k.says.0 k.says.1 ∙ ap got_of (sym e); leaves = rw (e, z) (k.leaves ∙ cleared 31232 b₀ b [] 0 (omega arith) (omega arith) i f) }

  -- the first j bytes are kept: a record d and zeros
  pub record_kept : (d : List ℕ) (n j : ℕ) → a ≡ answer (Record d) n → length d ≤ j → j ≤ 31232 → take j b ≡ d ++ replicate (j - length d) 0
      → Keeps b j (o.Record (length d)) n r b' → Answered b₀ a r b'
  unfolding filled
  record_kept d n j e h m g k = record { says = got_is r k.says.0 k.says.1 ∙ ap got_of (sym e); leaves = rw e (k.leaves ∙ cleared 31232 b₀ b d j h m g f) }

-- ---- what a block's bytes are
payload_whole : (b : List ℕ) → length b ≡ 488 → payload b ≡ b
payload_whole b h =
    let e : 488 - length b ≡ 0 = omega arith in
    payload_is b (omega arith) ∙ ap (λ (n : ℕ). b ++ replicate n 0) e ∙ append-nil b

-- ---- one turn inside a record: block q, opened into b at `at`, before the end
pub gather_end : (n : ℕ) (v : View) (q : ℕ) (before : List ℕ) → n ≡ 0 → gather n v q before ≡ answer (Cut q) q
unfolding gather
gather_end n v q before e = rw e

gather_on : (v : View) (end q : ℕ) (before : List ℕ) (c : Content) → q < end → v q ≡ c
    → gather (end - q) v q before ≡ inside c q before (λ b. gather (end - (q + 1)) v (q + 1) b)
unfolding gather
gather_on v end q before c h e = let k : end - q ≡ suc (end - (q + 1)) = omega arith in rw (k, e, add-one q)

pub record Turn (v : View) (end q at : ℕ) (a : Answer) (b₀ b b₁ : List ℕ) (s : Seen) : Type 0 where
  pub on : q < end
  pub room : at + 488 ≤ 31232
  pub long : 31232 ≤ length b
  pub left : gather (end - q) v q (take at b) ≡ a
  pub back : drop 31232 b ≡ drop 31232 b₀
  pub sized : Sized (v q)
  pub says : s ≡ seen_of (v q)
  pub leaves : b₁ ≡ splice b at (payload (bytes_of (v q)))

module _ {v : View} {end q at : ℕ} {a : Answer} {b₀ b b₁ : List ℕ} {s : Seen} (t : Turn v end q at a b₀ b b₁ s) where
  abbrev x : List ℕ
  x = bytes_of (v q)

  pub turn_back : drop 31232 b₁ ≡ drop 31232 b₀
  turn_back =
      let h = t.room in
      let g = t.long in
      let n = length_payload x in
      ap (drop 31232) t.leaves ∙ drop_splice b at (payload x) 31232 (omega arith) (omega arith) ∙ t.back

  turn_front : take (at + 488) b₁ ≡ take at b ++ payload x
  turn_front =
      let h = t.room in
      let g = t.long in
      let n = length_payload x in
      ap (take (at + 488)) t.leaves ∙ take_laid b at (payload x) (at + 488) (omega arith) (omega arith)

  turns : (c : Content) → v q ≡ c → a ≡ inside c q (take at b) (λ y. gather (end - (q + 1)) v (q + 1) y)
  turns c e = sym t.left ∙ gather_on v end q (take at b) c t.on e

  heads : (d : Head) → v q ≡ head d → a ≡ answer (Cut q) q
  heads d e = turns (head d) e

  module _ {r : Got} {b' : List ℕ} where
    pub turn_shut : s ≡ seen.Shut → Keeps b₁ 0 (o.Cut q) (q + 1) r b' → Answered b₀ a r b'
    turn_shut e = nothing_kept b₀ b₁ turn_back (Cut q) (q + 1) (turns shut (shut_seen (v q) (sym t.says ∙ e)) ∙ ap (answer (Cut q)) (sym (add-one q))) refl

    -- a block at which something else begins
    pub turn_head : ((f : Bool) × (n : ℕ) × (s ≡ seen.First f n)) ⊎ ((s ≡ seen.Mark) ⊎ (s ≡ seen.End)) → Keeps b₁ 0 (o.Cut q) q r b' → Answered b₀ a r b'
    turn_head h =
        nothing_kept b₀ b₁ turn_back (Cut q) q
        (⊎_elim (λ e. heads (first e.0 x) (first_seen (v q) (sym t.says ∙ e.2)).0)
        (⊎_elim (λ e. heads mark (mark_seen (v q) (sym t.says ∙ e))) (λ e. heads eod (end_seen (v q) (sym t.says ∙ e)))) h) refl

  -- the record's last block
  sized_as : {c d : Content} → c ≡ d → Sized c → Sized d
  sized_as e z = subst Sized e z

  pub turn_used : {l : Bool} {n : ℕ} → s ≡ seen.More l n → n ≤ 488
  turn_used {l} e =
      let m = more_seen (v q) (sym t.says ∙ e) in
      omega (arith, m.1, sized_most l x (sized_as m.0 t.sized))

  pub turn_last : {n : ℕ} {r : Got} {b' : List ℕ} → s ≡ seen.More true n → Keeps b₁ (at + 488) (o.Record (at + n)) (q + 1) r b' → Answered b₀ a r b'
  turn_last {n} e kept =
      let h = t.room in
      let g = t.long in
      let m = more_seen (v q) (sym t.says ∙ e) in
      let k : length x ≤ 488 = sized_as m.0 t.sized in
      let w : length (take at b) ≡ at = length-take-le at b (omega arith) in
      let u : length (take at b ++ x) ≡ at + n = length-append (take at b) x ∙ omega (arith, m.1) in
      let i : 488 - length x ≡ at + 488 - length (take at b ++ x) = omega (arith, m.1) in
      record_kept b₀ b₁ turn_back (take at b ++ x) (q + 1) (at + 488) (turns (more true x) m.0 ∙ ap (answer (Record (take at b ++ x))) (sym (add-one q))) (omega arith) h
      (turn_front ∙ ap (λ (j : List ℕ). take at b ++ j) (payload_is x k ∙ ap (λ (j : ℕ). x ++ replicate j 0) i) ∙ sym (append_assoc (take at b) x (replicate (at + 488 - length (take at b ++ x)) 0)))
      (rw u kept)

  -- a block after which the record goes on
  pub turn_more : {n : ℕ} → s ≡ seen.More false n → gather (end - (q + 1)) v (q + 1) (take (at + 488) b₁) ≡ a
  turn_more e =
      let m = more_seen (v q) (sym t.says ∙ e) in
      let k : length x ≡ 488 = sized_as m.0 t.sized in
      ap (gather (end - (q + 1)) v (q + 1)) (turn_front ∙ ap (λ (j : List ℕ). take at b ++ j) (payload_whole x k)) ∙ sym (turns (more false x) m.0)

-- ---- the first block of a read, opened into the front of the buffer
pub record Begun (v : View) (p : ℕ) (b₀ b₁ : List ℕ) (s : Seen) : Type 0 where
  pub long : 31232 ≤ length b₀
  pub sized : Sized (v p)
  pub says : s ≡ seen_of (v p)
  pub leaves : b₁ ≡ splice b₀ 0 (payload (bytes_of (v p)))

module _ {v : View} (c : ℕ) {p : ℕ} {b₀ b₁ : List ℕ} {s : Seen} (t : Begun v p b₀ b₁ s) where
  abbrev f : List ℕ
  f = bytes_of (v p)

  begun_back : drop 31232 b₁ ≡ drop 31232 b₀
  begun_back = let n = length_payload f in ap (drop 31232) t.leaves ∙ drop_splice b₀ 0 (payload f) 31232 (omega arith) (omega arith)

  begun_front : take 488 b₁ ≡ payload f
  begun_front = ap (take 488) t.leaves ∙ take_splice b₀ 488 (payload f) (length_payload f)

  begins_as : (d : Content) → v p ≡ d → read_at v c p ≡ between d v c p
  unfolding read_at
  begins_as d e = ap (λ (x : Content). between x v c p) e

  module _ {r : Got} {b' : List ℕ} where
    pub begun_shut : s ≡ seen.Shut → Keeps b₁ 0 o.Bad (p + 1) r b' → Answered b₀ (read_at v c p) r b'
    begun_shut e = nothing_kept b₀ b₁ begun_back Bad (p + 1) (begins_as shut (shut_seen (v p) (sym t.says ∙ e)) ∙ ap (answer Bad) (sym (add-one p))) refl

    pub begun_more : {m : Bool} {n : ℕ} → s ≡ seen.More m n → Keeps b₁ 0 o.Stray (p + 1) r b' → Answered b₀ (read_at v c p) r b'
    begun_more {m} e = nothing_kept b₀ b₁ begun_back Stray (p + 1) (begins_as (more m f) (more_seen (v p) (sym t.says ∙ e)).0 ∙ ap (answer Stray) (sym (add-one p))) refl

    pub begun_mark : s ≡ seen.Mark → Keeps b₁ 0 o.Mark (p + 1) r b' → Answered b₀ (read_at v c p) r b'
    begun_mark e = nothing_kept b₀ b₁ begun_back Mark (p + 1) (begins_as (head mark) (mark_seen (v p) (sym t.says ∙ e)) ∙ ap (answer Mark) (sym (add-one p))) refl

    pub begun_end : s ≡ seen.End → Keeps b₁ 0 o.End p r b' → Answered b₀ (read_at v c p) r b'
    begun_end e = nothing_kept b₀ b₁ begun_back End p (begins_as (head eod) (end_seen (v p) (sym t.says ∙ e))) refl

    -- a record of one block
    pub begun_last : {n : ℕ} → s ≡ seen.First true n → Keeps b₁ 488 (o.Record n) (p + 1) r b' → Answered b₀ (read_at v c p) r b'
    begun_last e kept =
        let m = first_seen (v p) (sym t.says ∙ e) in
        let k : length f ≤ 488 = subst Sized m.0 t.sized in
        record_kept b₀ b₁ begun_back f (p + 1) 488 (begins_as (head (first true f)) m.0 ∙ ap (answer (Record f)) (sym (add-one p))) k (omega arith) (begun_front ∙ payload_is f k) (rw m.1 kept)

  -- a longer one
  pub begun_first : {n : ℕ} {r : Got} {b' : List ℕ} → s ≡ seen.First false n → Answered b₁ (gather (min (c - (p + 1)) 63) v (p + 1) (take 488 b₁)) r b'
      → Answered b₀ (read_at v c p) r b'
  begun_first e a =
      let m = first_seen (v p) (sym t.says ∙ e) in
      let k : length f ≡ 488 = subst Sized m.0 t.sized in
      let n = length_payload f in
      let w : gather (min (c - (p + 1)) 63) v (p + 1) (take 488 b₁) ≡ read_at v c p =
      ap (gather (min (c - (p + 1)) 63) v (p + 1)) (begun_front ∙ payload_whole f k) ∙ ap (λ (i : ℕ). gather (min (c - i) 63) v i f) (add-one p) ∙ sym (begins_as (head (first false f)) m.0) in record {
        says = a.says ∙ ap got_of w;
        leaves = a.leaves ∙ ap₂ (λ (u : List ℕ) (g : Answer). splice u 0 (filled g.told)) t.leaves w
            ∙ splice_over b₀ (payload f) (filled (read_at v c p).told) (omega (arith, filled_least (read_at v c p).told));
      }

-- the end that the loop runs to
pub rest_room : (image : List ℕ) (p end : ℕ) (v : View) (b : List ℕ) → end ≡ min (capacity_of image) (p + 64) → p < capacity_of image
    → gather (end - (p + 1)) v (p + 1) (take ((p + 1 - p) * 488) b) ≡ gather (min (capacity_of image - (p + 1)) 63) v (p + 1) (take 488 b)
rest_room image p end v b e h =
    let k : end - (p + 1) ≡ min (capacity_of image - (p + 1)) 63 = omega arith in
    let m : (p + 1 - p) * 488 ≡ 488 = omega arith in
    ap₂ (λ (n i : ℕ). gather n v (p + 1) (take i b)) k m
