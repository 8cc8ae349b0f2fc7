-- What a place of an image shows has at most 488 bytes, and 488 where its record goes on.
-- Assumes nothing.
use borrow.Author.Tests.{eqb-true, leb-true}
use mathlib.Core.Path.{◌≡◌, refl, ◌∙◌}
use mathlib.Core.Bool.{Bool, true, false, ◌&&◌}
use mathlib.Core.List.{List}
use Prim.Native.Nat.{ℕ, ◌+◌, ◌*◌, ◌≤◌}
use native.Mathlib.Omega.{arith}
use lib.Dec.{eqb, leb}
use lib.ListN.{length, get_or, take, drop, length-drop}
use lib.Seq.{length-take-le}
use Rattle.laws.specs.Choose.{pick}
use Rattle.laws.proofs.ChooseLaws.{both_right}
use Rattle.aead.specs.Sealing.{opened, fits}
use Rattle.aead.proofs.Lengths.{length_opened}
use Rattle.block.specs.Content.{Content, shut, more, head, first, mark, eod}
use Rattle.block.specs.Format.{nonce_at, number4, number2, used_ok, content_of, open_block}
use Rattle.block.specs.Image.{block_at, view}
use Rattle.block.proofs.ContentLaws.{content_cases}

abbrev pub SizedBy : Bool → List ℕ → Type 0
SizedBy true b = length b ≤ 488
SizedBy false b = length b ≡ 488

pub sized_most : (l : Bool) (b : List ℕ) → SizedBy l b → length b ≤ 488
sized_most true b h = h
sized_most false b h = omega arith

abbrev pub Sized : Content → Type 0
Sized shut = Unit {0}
Sized (more l b) = SizedBy l b
Sized (head (first l b)) = SizedBy l b
Sized (head mark) = Unit {0}
Sized (head eod) = Unit {0}

module _ (last used : ℕ) (m : List ℕ) (h : length m ≡ 488) where
  used_sized : used_ok last used ≡ true → SizedBy (eqb last 1) (take used m)
  unfolding used_ok
  used_sized = go (eqb last 0) refl (eqb last 1) refl
    where
      go : (t : Bool) → eqb last 0 ≡ t → (u : Bool) → eqb last 1 ≡ u → pick t (eqb used 488) (u && (leb 1 used && leb used 488)) ≡ true → SizedBy u (take used m)
      go true a true b e = absurd (omega (arith, eqb-true last 0 a, eqb-true last 1 b))
      go true a false b e = let k = eqb-true used 488 e in length-take-le used m (omega arith) ∙ k
      go false a true b e =
          let l = leb-true used 488 (both_right (leb 1 used) (leb used 488) e) in
          let n = length-take-le used m (omega arith) in
          omega arith
      go false a false b e = let z : ◌≡◌ {A = ℕ} 0 1 = cc in absurd (omega arith)

  content_sized : (kind : ℕ) → Sized (content_of kind last used m)
  content_sized kind =
      content_cases Sized kind last used m tt (λ _ e. (λ _. used_sized e, λ _. used_sized e)) (λ _ _ _. (λ _. tt, λ _. tt))

block_sized : (key : List ℕ) (id recording p : ℕ) (b : List ℕ) → length b ≡ 512 → Sized (open_block key id recording p b)
unfolding open_block
block_sized key id recording p b h = go (eqb (number4 b 0) p && fits key n (take 8 b) (drop 8 b))
  where
    n : List ℕ
    n = nonce_at id recording p

    m : List ℕ
    m = opened key n (take 8 b) (drop 8 b)

    size : length m ≡ 488
    size = length_opened key n (take 8 b) (drop 8 b) ∙ omega (arith, length-drop 8 b)

    go : (t : Bool) → Sized (pick t (content_of (get_or b 4 0) (get_or b 5 0) (number2 b 6) m) shut)
    go true = content_sized (get_or b 5 0) (number2 b 6) m size (get_or b 4 0)
    go false = tt

pub view_sized : (key : List ℕ) (id recording : ℕ) (image : List ℕ) (p : ℕ) → p * 512 + 512 ≤ length image → Sized (view key id recording image p)
unfolding view block_at
view_sized key id recording image p h =
    block_sized key id recording p (take 512 (drop (512 * p) image)) (length-take-le 512 (drop (512 * p) image) (omega (arith, length-drop (512 * p) image)))
