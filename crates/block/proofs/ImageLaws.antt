-- Blocks put into an image, one and several, and what the image then shows.
-- Assumes nothing.
use mathlib.Core.Path.{◌≡◌, refl, sym, ap, ◌∙◌}
use mathlib.Core.Logic.{◌≢◌, ◌⊎◌, inl, inr, ⊎_elim}
use mathlib.Core.Bool.{Bool, true, false}
use mathlib.Core.List.{List, [], ◌∷◌, ◌++◌}
use Prim.Native.Nat.{ℕ, zero, suc, ◌+◌, ◌-◌, ◌*◌, ◌≤◌, ◌<◌}
use native.Mathlib.Nat.{not-suc-le-zero, add-zero, add-suc, suc-add}
use native.Mathlib.Omega.{arith}
use lib.ListN.{length, get_or, take, drop, replicate, length-drop, take-append-drop}
use lib.Seq.{take_at, drop_at, take-append-le, drop-append-le, drop-drop, length-take-le}
use Rattle.laws.specs.Lists.{splice}
use Rattle.laws.proofs.OrderLaws.{lt_or_ge}
use Rattle.laws.proofs.ListLaws.{take_zeros, drop_zeros, drop_behind}
use Rattle.laws.proofs.SpliceLaws.{length_splice}
use Rattle.block.specs.Content.{Content, shut, Lawful}
use Rattle.block.specs.Format.{seal_block, open_block}
use Rattle.block.specs.Image.{block_at, View, view, set_block, lay}
use Rattle.block.proofs.SealLaws.{length_seal_block}
use Rattle.block.proofs.RoundTrip.{open_seal_block}

-- ---- one block
pub length_set_block : (image : List ℕ) (p : ℕ) (b : List ℕ) → length b ≡ 512 → 512 * p + 512 ≤ length image → length (set_block image p b) ≡ length image
unfolding set_block
length_set_block image p b e h = length_splice image (512 * p) b (omega arith)

pub block_set_same : (image : List ℕ) (p : ℕ) (b : List ℕ) → length b ≡ 512 → 512 * p + 512 ≤ length image → block_at (set_block image p b) p ≡ b
unfolding set_block block_at splice
block_set_same image p b e h =
    rw (drop_at (take (512 * p) image) (b ++ drop (512 * p + length b) image) (512 * p) (length-take-le (512 * p) image (omega arith)))
    (take_at b (drop (512 * p + length b) image) 512 e)

-- whatever stands behind the first 512 * p bytes, the blocks before p are theirs
front_block : (a x : List ℕ) (q : ℕ) → 512 * q + 512 ≤ length a → block_at (a ++ x) q ≡ block_at a q
unfolding block_at
front_block a x q h =
    rw (drop-append-le (512 * q) a x (omega arith)) (take-append-le 512 (drop (512 * q) a) x (omega (arith, length-drop (512 * q) a)))

block_set_before : (image : List ℕ) (p q : ℕ) (b : List ℕ) → q < p → 512 * p + 512 ≤ length image → block_at (set_block image p b) q ≡ block_at image q
unfolding set_block splice
block_set_before image p q b l h =
    let n = length-take-le (512 * p) image (omega arith) in
    front_block (take (512 * p) image) _ q (omega arith)
    ∙ sym (front_block (take (512 * p) image) (drop (512 * p) image) q (omega arith))
    ∙ ap (λ (x : List ℕ). block_at x q) (take-append-drop (512 * p) image)

block_set_after : (image : List ℕ) (p q : ℕ) (b : List ℕ) → length b ≡ 512 → p < q → 512 * p + 512 ≤ length image → block_at (set_block image p b) q ≡ block_at image q
unfolding set_block block_at splice
block_set_after image p q b e l h =
    let n = length-take-le (512 * p) image (omega arith) in
    let k : 512 * p + length b + (512 * q - (512 * p + 512)) ≡ 512 * q = omega arith in
    ap (take 512)
    (drop_behind (take (512 * p) image) b (drop (512 * p + length b) image) (512 * q) (512 * q - (512 * p + 512)) (omega arith)
    ∙ drop-drop (512 * q - (512 * p + 512)) (512 * p + length b) image
    ∙ ap (λ (x : ℕ). drop x image) k)

pub block_set_other : (image : List ℕ) (p q : ℕ) (b : List ℕ) → length b ≡ 512 → q ≢ p → 512 * p + 512 ≤ length image
    → block_at (set_block image p b) q ≡ block_at image q
block_set_other image p q b e n h =
    ⊎_elim (λ l. block_set_before image p q b l h)
    (λ l. ⊎_elim (λ m. block_set_after image p q b e m h) (λ m. absurd (n (omega arith))) (lt_or_ge p q)) (lt_or_ge q p)

-- ---- an image of zeros
pub block_zeros : (c p : ℕ) → p < c → block_at (replicate (512 * c) 0) p ≡ replicate 512 0
unfolding block_at
block_zeros c p h =
    let k : 512 * c ≡ 512 * p + (512 + (512 * c - (512 * p + 512))) = omega arith in
    ap (λ (n : ℕ). take {A = ℕ} 512 (drop (512 * p) (replicate n 0))) k
    ∙ ap (take 512) (drop_zeros (512 * p) (512 + (512 * c - (512 * p + 512))))
    ∙ take_zeros 512 (512 * c - (512 * p + 512))

-- ---- several blocks, from p on
-- a place where b was written, and where o opens now: b, but what P says where the place is spoiled
abbrev pub Now : (Content → Type 0) → Bool → Content → Content → Type 0
Now P true o b = P o
Now P false o b = o ≡ b

-- the view shows the contents bs at p and on, but at spoiled places what opens there satisfies P
abbrev pub ShowsBut : (Content → Type 0) → (ℕ → Bool) → View → ℕ → List Content → Type 0
ShowsBut P sp v p [] = Unit {0}
ShowsBut P sp v p (b ∷ bs) = Now P (sp p) (v p) b × ShowsBut P sp v (suc p) bs

-- with no place spoiled
abbrev pub Stands : View → ℕ → List Content → Type 0
Stands v p bs = ShowsBut (λ o. ⊥) (λ q. false) v p bs

abbrev pub AllLawful : ℕ → List Content → Type 0
AllLawful p [] = Unit {0}
AllLawful p (b ∷ bs) = Lawful p b × AllLawful (suc p) bs

module _ (key : List ℕ) (id recording : ℕ) where
  length_next : (image : List ℕ) (p : ℕ) (b : Content) → 512 * p + 512 ≤ length image → length (set_block image p (seal_block key id recording p b)) ≡ length image
  length_next image p b h = length_set_block image p (seal_block key id recording p b) (length_seal_block key id recording p b) h

  pub length_lay : (bs : List Content) (image : List ℕ) (p : ℕ) → 512 * (p + length bs) ≤ length image → length (lay key id recording image p bs) ≡ length image
  unfolding lay
  length_lay [] image p h = refl
  length_lay (b ∷ bs) image p h =
      let e = length_next image p b (omega arith) in
      length_lay bs (set_block image p (seal_block key id recording p b)) (suc p) (omega arith) ∙ e

  -- a place outside the laid blocks keeps its bytes
  pub lay_else : (bs : List Content) (image : List ℕ) (p q : ℕ) → 512 * (p + length bs) ≤ length image → (q < p) ⊎ (p + length bs ≤ q)
      → block_at (lay key id recording image p bs) q ≡ block_at image q
  unfolding lay
  lay_else [] image p q h o = refl
  lay_else (b ∷ bs) image p q h o =
      let e = length_next image p b (omega arith) in
      lay_else bs (set_block image p (seal_block key id recording p b)) (suc p) q (omega arith) (⊎_elim (λ l. inl (omega arith)) (λ l. inr (omega arith)) o)
      ∙ block_set_other image p q (seal_block key id recording p b) (length_seal_block key id recording p b) (⊎_elim (λ l. omega arith) (λ l. omega arith) o) (omega arith)

  -- the laid blocks show the contents they were sealed from
  pub lay_stands : (bs : List Content) (image : List ℕ) (p : ℕ) → 512 * (p + length bs) ≤ length image → p + length bs ≤ 4294967296 → AllLawful p bs
      → Stands (view key id recording (lay key id recording image p bs)) p bs
  unfolding lay view
  lay_stands [] image p h k a = tt
  lay_stands (b ∷ bs) image p h k a =
      let e = length_next image p b (omega arith) in (
        ap (open_block key id recording p)
            (lay_else bs (set_block image p (seal_block key id recording p b)) (suc p) p (omega arith) (inl (omega arith))
            ∙ block_set_same image p (seal_block key id recording p b) (length_seal_block key id recording p b) (omega arith))
            ∙ open_seal_block key id recording p b (omega arith) a.0,
        lay_stands bs (set_block image p (seal_block key id recording p b)) (suc p) (omega arith) (omega arith) a.1,
      )

  -- what is laid stands there, sealed for its place
  pub lay_at : (bs : List Content) (image : List ℕ) (p j : ℕ) → 512 * (p + length bs) ≤ length image → j < length bs
      → block_at (lay key id recording image p bs) (p + j) ≡ seal_block key id recording (p + j) (get_or bs j shut)
  unfolding lay
  lay_at [] image p j h l = absurd (not-suc-le-zero l)
  lay_at (b ∷ bs) image p zero h l =
      let d = seal_block key id recording p b in
      let k : 512 * p + 512 ≤ length image = omega arith in
      let e = length_next image p b k in
      rw add-zero (lay_else bs (set_block image p d) (suc p) p (omega arith) (inl (omega arith)) ∙ block_set_same image p d (length_seal_block key id recording p b) k)
  lay_at (b ∷ bs) image p (suc j) h l =
      let e = length_next image p b (omega arith) in
      rw (add-suc p j, ← suc-add p j) (lay_at bs (set_block image p (seal_block key id recording p b)) (suc p) j (omega arith) (omega arith))
