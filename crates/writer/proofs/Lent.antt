-- A part of the image lent to the sealer comes back with a block at its front: in the whole, a block put at its place.
-- Assumes nothing.
use borrow.Author.Tests.{le-leb}
use mathlib.Core.Path.{◌≡◌, ap, ◌∙◌}
use mathlib.Core.Bool.{true}
use mathlib.Core.List.{List, ◌++◌, append-nil}
use Prim.Native.Nat.{ℕ, ◌+◌, ◌-◌, ◌*◌, ◌≤◌}
use native.Mathlib.Nat.{zero-add}
use native.Mathlib.Omega.{arith}
use lib.ListN.{length, take, drop, length-take, length-drop, drop_of_length-le}
use lib.Seq.{drop-drop, take_all}
use Rattle.laws.specs.Lists.{splice}
use Rattle.aead.proofs.Lengths.{key_ok_lem}
use Rattle.block.specs.declared.Kind.{Kind}
use Rattle.block.specs.Format.{seal_block}
use Rattle.block.specs.Image.{set_block}
use Rattle.block.specs.Calls.{content_for, fits_kind, seal_block_number, SealedAt}
use Rattle.block.proofs.SealLaws.{length_seal_block}

-- what a callee lays at the front of the part from at on, seen in the whole
splice_part : (l : List ℕ) (at : ℕ) (b : List ℕ) → at + length b ≤ length l
    → take at l ++ (splice (take (length l - at) (drop at l)) 0 b ++ drop (length l - at) (drop at l)) ≡ splice l at b
unfolding splice
splice_part l at b h =
    let n : length (drop at l) ≤ length l - at = simp length-drop (omega arith) in
    rw (take_all (length l - at) (drop at l) n, drop_of_length-le (drop at l) n, append-nil, zero-add, drop-drop)

sealed_part : {key : List ℕ} {id recording p r : ℕ} {k : Kind} {b part part' : List ℕ} → length key ≡ 24 → fits_kind k (length b) ≡ true
    → 512 ≤ length part → SealedAt key id recording p k b part r part' → part' ≡ splice part 0 (seal_block key id recording p (content_for k b))
unfolding seal_block_number
sealed_part {key} {part = part} h f m s = s.bytes ∙ rw (key_ok_lem key h, le-leb 512 (length part) m, f)

pub lent_part : {key : List ℕ} {id recording p r : ℕ} {k : Kind} {b part' : List ℕ} (image : List ℕ) (at : ℕ) → at ≡ 512 * p → length key ≡ 24
    → fits_kind k (length b) ≡ true → at + 512 ≤ length image → SealedAt key id recording p k b (take (length image - at) (drop at image)) r part'
    → take at image ++ (part' ++ drop (length image - at) (drop at image)) ≡ set_block image p (seal_block key id recording p (content_for k b))
unfolding set_block
lent_part {key} {id} {recording} {p} {k = k} {b = b} image at e h f l s =
    let d = seal_block key id recording p (content_for k b) in
    let m : 512 ≤ length (take (length image - at) (drop at image)) = simp (length-take, length-drop) (omega arith) in
    ap (λ (q : List ℕ). take at image ++ (q ++ drop (length image - at) (drop at image))) (sealed_part h f m s)
    ∙ splice_part image at d (omega (arith, length_seal_block key id recording p (content_for k b)))
    ∙ ap (λ (a : ℕ). splice image a d) e
