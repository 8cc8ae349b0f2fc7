-- Sealing at the front of a part: what a refusal and what sealing leaves, and how the block is made.
-- Assumes nothing.
use borrow.Author.Tests.{eqb-true, leb-true}
use mathlib.Core.Path.{◌≡◌, refl, sym, ap, ◌∙◌}
use mathlib.Core.Bool.{Bool, true, false, ◌&&◌}
use mathlib.Core.List.{List, [], ◌∷◌, ◌++◌}
use Prim.Native.Nat.{ℕ, ◌≤◌}
use native.Mathlib.Omega.{arith}
use lib.Dec.{leb}
use lib.ListN.{length, take, drop, length-append, length-drop}
use lib.Seq.{take_all, length-take-le}
use Rattle.laws.specs.Lists.{AllBytes, splice}
use Rattle.laws.proofs.ChooseLaws.{no_refusal, both_left, both_right}
use Rattle.laws.proofs.SpliceLaws.{splice_mid, splice_next, length_splice}
use Rattle.aead.specs.Sealing.{key_ok, sealed, Sealed}
use Rattle.aead.proofs.Lengths.{length_sealed}
use Rattle.aead.proofs.Calls.{seal_takes}
use Rattle.block.specs.declared.Kind.{Kind}
use Rattle.block.specs.declared.Kind.TheVariants as kind
use Rattle.block.specs.Content.{Content, Used, Lawful, flag, kind_of, last_of, bytes_of}
use Rattle.block.specs.Format.{nonce_at, header, payload, block_of, seal_block, used_ok}
use Rattle.block.specs.Calls.{content_for, fits_kind, seal_block_number, SealedAt}
use Rattle.block.proofs.NumberLaws.{length_header}
use Rattle.block.proofs.PayloadLaws.{length_payload}
use Rattle.block.proofs.ContentLaws.{used_most}

-- ---- a block has 512 bytes
pub length_block_of : (key : List ℕ) (id recording p kind last : ℕ) (b : List ℕ) → length (block_of key id recording p kind last b) ≡ 512
unfolding block_of
length_block_of key id recording p kind last b =
    let h = header p kind last (length b) in
    let s = sealed key (nonce_at id recording p) h (payload b) in
    omega (arith, length-append h s, length_header p kind last (length b) s, length_sealed key (nonce_at id recording p) h (payload b), length_payload b)

pub length_seal_block : (key : List ℕ) (id recording p : ℕ) (o : Content) → length (seal_block key id recording p o) ≡ 512
unfolding seal_block
length_seal_block key id recording p o = length_block_of key id recording p (kind_of o) (last_of o) (bytes_of o)

-- ---- a payload that fits its kind
used_fits : (l : Bool) (b : List ℕ) → used_ok (flag l) (length b) ≡ true → AllBytes b → Used l b
unfolding used_ok
used_fits true b e h = (h, leb-true 1 (length b) (both_left (leb 1 (length b)) (leb (length b) 488) e), leb-true (length b) 488 (both_right (leb 1 (length b)) (leb (length b) 488) e))
used_fits false b e h = (h, eqb-true (length b) 488 e)

fits_lawful : (p : ℕ) (k : Kind) (b : List ℕ) → fits_kind k (length b) ≡ true → AllBytes b → Lawful p (content_for k b)
fits_lawful p (kind.First l) b e h = used_fits l b e h
fits_lawful p (kind.More l) b e h = used_fits l b e h
fits_lawful p kind.Mark b e h = tt
fits_lawful p kind.End b e h = tt

pub fits_few : (k : Kind) (n : ℕ) → fits_kind k n ≡ true → n ≤ 488
fits_few (kind.First l) n e = used_most (flag l) n e
fits_few (kind.More l) n e = used_most (flag l) n e
fits_few kind.Mark n e = omega (arith, eqb-true n 0 e)
fits_few kind.End n e = omega (arith, eqb-true n 0 e)

-- what is sealed is lawful at its place
pub seals_lawful : (key : List ℕ) (p : ℕ) (k : Kind) (b part : List ℕ) → seal_block_number key k b part ≡ 0 → AllBytes b → Lawful p (content_for k b)
unfolding seal_block_number
seals_lawful key p k b part e h =
    let f = fits_kind k (length b) in
    let m = leb 512 (length part) in
    fits_lawful p k b (both_right m f (both_right (key_ok key) (m && f) (no_refusal (key_ok key && (m && f)) 1 0 e).0)) h

-- ---- the call's answers
module _ {key : List ℕ} {id recording p : ℕ} {k : Kind} {b part : List ℕ} where
  pub seal_refuses : seal_block_number key k b part ≡ 2 → SealedAt key id recording p k b part 2 part
  seal_refuses e = record { code = sym e; bytes = rw e }

  pub seal_writes : {r : ℕ} {part' : List ℕ} → seal_block_number key k b part ≡ 0 → r ≡ 0 → part' ≡ splice part 0 (seal_block key id recording p (content_for k b))
      → SealedAt key id recording p k b part r part'
  seal_writes e z f = record { code = z ∙ sym e; bytes = f ∙ rw e }

no_bytes : (b : List ℕ) → length b ≡ 0 → b ≡ []
no_bytes [] e = refl
no_bytes (x ∷ b) e = absurd (omega arith)

module _ (key : List ℕ) (id recording p : ℕ) where
  block_for : (k : Kind) (b : List ℕ) → fits_kind k (length b) ≡ true
      → block_of key id recording p (kind_of (content_for k [])) (last_of (content_for k [])) b ≡ seal_block key id recording p (content_for k b)
  unfolding seal_block
  block_for (kind.First l) b e = refl
  block_for (kind.More l) b e = refl
  block_for kind.Mark b e = ap (block_of key id recording p 3 0) (no_bytes b (eqb-true (length b) 0 e))
  block_for kind.End b e = ap (block_of key id recording p 4 0) (no_bytes b (eqb-true (length b) 0 e))

  pub block_made : (k : Kind) (b : List ℕ) {n h m : List ℕ} → fits_kind k (length b) ≡ true → n ≡ nonce_at id recording p
      → h ≡ header p (kind_of (content_for k [])) (last_of (content_for k [])) (length b) → m ≡ payload b
      → h ++ sealed key n h m ≡ seal_block key id recording p (content_for k b)
  unfolding block_of
  block_made k b e f o q = rw (f, o, q) (block_for k b e)

-- ---- the header copied to the front, then the payload sealed behind it
pub parts_laid : (key n h m part part₁ : List ℕ) {q : List ℕ} {r : ℕ} → length key ≡ 24 → length n ≡ 16 → length h ≡ 8 → length m ≡ 488 → 512 ≤ length part
    → part₁ ≡ splice part 0 (take (length part) h) → Sealed key n h m (take 504 (drop 8 part₁)) r q
    → (r ≡ 0) × (take 8 part₁ ++ (q ++ drop 504 (drop 8 part₁)) ≡ splice part 0 (h ++ sealed key n h m))
parts_laid key n h m part part₁ {q} hk hn hh hm hp e c =
    let f : part₁ ≡ splice part 0 h = e ∙ ap (splice part 0) (take_all (length part) h (omega arith)) in
    let l : length part₁ ≡ length part = ap length f ∙ length_splice part 0 h (omega arith) in
    let o : length (take 504 (drop 8 part₁)) ≡ 504 = length-take-le 504 (drop 8 part₁) (omega (arith, length-drop 8 part₁)) in
    let s = seal_takes (record { key24 = hk; nonce16 = hn; more16 = omega arith }) (record { associated_most = omega arith; short_most = omega arith }) c in
    let w : length q ≡ 504 = ap length s.1 ∙ length_sealed key n h m ∙ omega arith in (
      s.0,
      splice_mid part₁ 8 504 q w
          ∙ ap (λ (x : List ℕ). splice x 8 q) f
          ∙ splice_next part 0 h 8 q (omega arith) (omega arith)
          ∙ ap (λ (x : List ℕ). splice part 0 (h ++ x)) s.1,
    )
