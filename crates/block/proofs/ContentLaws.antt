-- What a header and an opened payload are: as the code says it, and as a content.
-- Assumes nothing.
use borrow.Author.Tests.{eqb-true, leb-true, ne_eqb, lt-leb}
use mathlib.Core.Path.{◌≡◌, refl, sym, ap, ◌∙◌}
use mathlib.Core.Bool.{Bool, true, false, ◌&&◌}
use mathlib.Core.List.{List, []}
use Prim.Native.Nat.{ℕ, zero, suc, ◌≤◌}
use native.Mathlib.Omega.{arith}
use lib.Dec.{eqb, leb}
use lib.ListN.{length, take, drop, replicate}
use lib.Seq.{length-take-le}
use Rattle.std.specs.Prelude.{Option, Some, None}
use Rattle.laws.specs.Choose.{pick}
use Rattle.laws.proofs.ChooseLaws.{both_left, both_right}
use Rattle.block.specs.declared.Kind.{Kind}
use Rattle.block.specs.declared.Kind.TheVariants as kind
use Rattle.block.specs.declared.Seen.{Seen}
use Rattle.block.specs.declared.Seen.TheVariants as seen
use Rattle.block.specs.Content.{Content, shut, more, head, first, mark, eod, flag, bytes_of}
use Rattle.block.specs.Format.{payload, used_ok, all_zero, content_of}
use Rattle.block.specs.Calls.{fits_kind, seen_of}
use Rattle.block.specs.Steps.{kind_said, seen_as, head_says}
use Rattle.block.proofs.PayloadLaws.{payload_nil, payload_back}

-- the content o is what the code says as s of a payload m
pub record Judged (o : Content) (s : Seen) (m : List ℕ) : Type 0 where
  pub says : seen_of o ≡ s
  pub shuts : s ≡ seen.Shut → bytes_of o ≡ []
  pub keeps : (s ≡ seen.Shut → ⊥) → payload (bytes_of o) ≡ m

nothing : (m : List ℕ) → Judged shut seen.Shut m
nothing m = record { says = refl; shuts = λ e. refl; keeps = λ n. absurd (n refl) }

pub none_used : (n : ℕ) (m : List ℕ) → length m ≡ 488 → all_zero (drop n m) ≡ true → n ≡ 0 → payload [] ≡ m
none_used n m h z e = payload_back m 0 h (omega arith) (ap (λ (k : ℕ). all_zero (drop k m)) (sym e) ∙ z)

module _ (l : Bool) (n : ℕ) (m : List ℕ) (h : length m ≡ 488) (z : all_zero (drop n m) ≡ true) where
  a_first : n ≤ 488 → Judged (head (first l (take n m))) (seen.First l n) m
  a_first k = record { says = ap (seen.First l) (length-take-le n m (omega arith)); shuts = λ e. cc; keeps = λ _. payload_back m n h k z }

  a_more : n ≤ 488 → Judged (more l (take n m)) (seen.More l n) m
  a_more k = record { says = ap (seen.More l) (length-take-le n m (omega arith)); shuts = λ e. cc; keeps = λ _. payload_back m n h k z }

  judged : (k₁ u k₂ d k₃ k₄ : Bool) → (u ≡ true → n ≤ 488) → (d ≡ true → n ≡ 0)
      → Judged
      (pick k₁ (pick u (head (first l (take n m))) shut) (pick k₂ (pick u (more l (take n m)) shut) (pick d (pick k₃ (head mark) (pick k₄ (head eod) shut)) shut)))
      (pick k₁ (pick u (seen.First l n) seen.Shut) (pick k₂ (pick u (seen.More l n) seen.Shut) (pick d (pick k₃ seen.Mark (pick k₄ seen.End seen.Shut)) seen.Shut)))
      m
  judged true true k₂ d k₃ k₄ a b = a_first (a refl)
  judged true false k₂ d k₃ k₄ a b = nothing m
  judged false true true d k₃ k₄ a b = a_more (a refl)
  judged false false true d k₃ k₄ a b = nothing m
  judged false u false true true k₄ a b = record { says = refl; shuts = λ e. refl; keeps = λ _. none_used n m h z (b refl) }
  judged false u false true false true a b = record { says = refl; shuts = λ e. refl; keeps = λ _. none_used n m h z (b refl) }
  judged false u false true false false a b = nothing m
  judged false u false false k₃ k₄ a b = nothing m

pub used_most : (last used : ℕ) → used_ok last used ≡ true → used ≤ 488
unfolding used_ok
used_most last used = go (eqb last 0) (eqb last 1)
  where
    go : (t u : Bool) → pick t (eqb used 488) (u && (leb 1 used && leb used 488)) ≡ true → used ≤ 488
    go true u e = omega (arith, eqb-true used 488 e)
    go false u e = leb-true used 488 (both_right (leb 1 used) (leb used 488) (both_right u (leb 1 used && leb used 488) e))

-- what holds of `shut`, and of each other content where the header says it and what is unused is zero, holds of what
-- opens
pub content_cases : (P : Content → Type 0) (kind last used : ℕ) (m : List ℕ) → P shut
    → (all_zero (drop used m) ≡ true → used_ok last used ≡ true
    → (kind ≡ 1 → P (head (first (eqb last 1) (take used m)))) × (kind ≡ 2 → P (more (eqb last 1) (take used m))))
    → (all_zero (drop used m) ≡ true → last ≡ 0 → used ≡ 0 → (kind ≡ 3 → P (head mark)) × (kind ≡ 4 → P (head eod)))
    → P (content_of kind last used m)
unfolding content_of
content_cases P kind last used m s f g =
    go (all_zero (drop used m)) (eqb kind 1) (used_ok last used) (eqb kind 2) (eqb last 0 && eqb used 0) (eqb kind 3) (eqb kind 4)
    (λ z u. (λ k. (f z u).0 (eqb-true kind 1 k), λ k. (f z u).1 (eqb-true kind 2 k)))
    (λ z d.
    let e = g z (eqb-true last 0 (both_left (eqb last 0) (eqb used 0) d)) (eqb-true used 0 (both_right (eqb last 0) (eqb used 0) d)) in
    (λ k. e.0 (eqb-true kind 3 k), λ k. e.1 (eqb-true kind 4 k)))
  where
    go : (t k₁ u k₂ d k₃ k₄ : Bool)
        → (t ≡ true → u ≡ true
        → (k₁ ≡ true → P (head (first (eqb last 1) (take used m)))) × (k₂ ≡ true → P (more (eqb last 1) (take used m))))
        → (t ≡ true → d ≡ true → (k₃ ≡ true → P (head mark)) × (k₄ ≡ true → P (head eod)))
        → P
        (pick t
        (pick k₁ (pick u (head (first (eqb last 1) (take used m))) shut)
        (pick k₂ (pick u (more (eqb last 1) (take used m)) shut) (pick d (pick k₃ (head mark) (pick k₄ (head eod) shut)) shut))) shut)
    go false k₁ u k₂ d k₃ k₄ a b = s
    go true true true k₂ d k₃ k₄ a b = (a refl refl).0 refl
    go true true false k₂ d k₃ k₄ a b = s
    go true false true true d k₃ k₄ a b = (a refl refl).1 refl
    go true false false true d k₃ k₄ a b = s
    go true false u false true true k₄ a b = (b refl refl).0 refl
    go true false u false true false true a b = (b refl refl).1 refl
    go true false u false true false false a b = s
    go true false u false false k₃ k₄ a b = s

-- ---- the header, by way of the kind that it says
abbrev as_said : Option Kind → ℕ → Seen
as_said None n = seen.Shut
as_said (Some k) n = pick (fits_kind k n) (seen_as k n) seen.Shut

used_by : (l n : ℕ) → used_ok l n ≡ (leb l 1 && used_ok (flag (eqb l 1)) n)
unfolding used_ok
used_by zero n = refl
used_by (suc zero) n = refl
used_by (suc (suc l)) n = rw (ne_eqb (suc (suc l)) 0 (λ e. omega arith), ne_eqb (suc (suc l)) 1 (λ e. omega arith), lt-leb (suc (suc l)) 1 (omega arith))

pub said_is : (k l n : ℕ) → head_says k l n ≡ as_said (kind_said k l) n
unfolding kind_said head_says
said_is k l n = rw (used_by l n) (go (eqb l 1) (eqb k 1) (eqb k 2) (eqb k 3) (eqb k 4) (leb l 1) (eqb l 0))
  where
    no_kind : (t : Bool) → pick t seen.Shut seen.Shut ≡ seen.Shut
    no_kind true = refl
    no_kind false = refl

    go : (o k₁ k₂ k₃ k₄ m z : Bool)
        → pick k₁ (pick (m && used_ok (flag o) n) (seen.First o n) seen.Shut)
        (pick k₂ (pick (m && used_ok (flag o) n) (seen.More o n) seen.Shut)
        (pick (z && eqb n 0) (pick k₃ seen.Mark (pick k₄ seen.End seen.Shut)) seen.Shut))
        ≡ as_said
        (pick k₁ (pick m (Some (kind.First o)) None)
        (pick k₂ (pick m (Some (kind.More o)) None) (pick z (pick k₃ (Some kind.Mark) (pick k₄ (Some kind.End) None)) None))) n
    go o true k₂ k₃ k₄ true z = refl
    go o true k₂ k₃ k₄ false z = refl
    go o false true k₃ k₄ true z = refl
    go o false true k₃ k₄ false z = refl
    go o false false true k₄ m true = refl
    go o false false false true m true = refl
    go o false false false false m true = no_kind (eqb n 0)
    go o false false k₃ k₄ m false = refl

-- where the unused bytes are zero, the header decides; else nothing opens
pub header_decides : (kind last used : ℕ) (m : List ℕ) → length m ≡ 488 → all_zero (drop used m) ≡ true → Judged (content_of kind last used m) (head_says kind last used) m
unfolding content_of head_says
header_decides kind last used m h z =
    rw z
    (judged (eqb last 1) used m h z (eqb kind 1) (used_ok last used) (eqb kind 2) (eqb last 0 && eqb used 0) (eqb kind 3) (eqb kind 4) (used_most last used)
    (λ e. eqb-true used 0 (both_right (eqb last 0) (eqb used 0) e)))

pub rest_decides : (kind last used : ℕ) (m : List ℕ) → all_zero (drop used m) ≡ false → content_of kind last used m ≡ shut
unfolding content_of
rest_decides kind last used m z = rw z

-- a buffer that is made zero
pub zeros_left : (o : Content) (m : List ℕ) {m' : List ℕ} → length m ≡ 488 → m' ≡ replicate (length m) 0 → bytes_of o ≡ [] → m' ≡ payload (bytes_of o)
zeros_left o m h e n = e ∙ ap (λ (k : ℕ). replicate k 0) h ∙ sym payload_nil ∙ ap payload (sym n)
