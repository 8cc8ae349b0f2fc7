-- Opening the block at the front of a part: what decides it, and what the call then answers.
-- Assumes nothing.
use borrow.Author.Tests.{eq-eqb, ne_eqb, le-leb}
use mathlib.Core.Path.{◌≡◌, refl, sym, ap, ap₂, ◌∙◌}
use mathlib.Core.Bool.{Bool, true, false, ◌&&◌}
use mathlib.Core.List.{List}
use Prim.Native.Nat.{ℕ, ◌≤◌}
use native.Mathlib.Omega.{arith}
use lib.Dec.{eqb}
use lib.ListN.{length, get_or, take, drop, replicate, length-drop}
use lib.Seq.{take-take, get_or-take, length-take-le}
use Rattle.std.specs.Prelude.{Ok, Err}
use Rattle.laws.specs.Choose.{pick}
use Rattle.laws.proofs.ListLaws.{drop_take}
use Rattle.numbers.specs.declared.Refusal.TheVariants as refusal
use Rattle.numbers.proofs.RefusalLaws.{answered_err}
use Rattle.aead.specs.Sealing.{fits, opened, open_number, open_leaves, Opened}
use Rattle.aead.proofs.Lengths.{key_ok_lem, Sizes, Limits, sized_holds, limited_holds}
use Rattle.aead.proofs.Calls.{open_takes}
use Rattle.block.specs.declared.Seen.{Seen}
use Rattle.block.specs.declared.Seen.TheVariants as seen
use Rattle.block.specs.Content.{Content, shut, bytes_of}
use Rattle.block.specs.Format.{nonce_at, number4, number2, payload, content_of, open_block}
use Rattle.block.specs.Calls.{seen_of, open_block_number, OpenedAt}
use Rattle.block.proofs.NumberLaws.{length_nonce}
use Rattle.block.proofs.ContentLaws.{zeros_left}

-- where sizes and limits are kept, and the tag does not fit
pub open_refuses : {k n a t q q' : List ℕ} {r : ℕ} → Sizes k n (length t) (length q) → Limits a (length q) → fits k n a t ≡ false → Opened k n a t q r q'
    → (r ≡ 7) × (q' ≡ replicate (length q) 0)
unfolding open_number open_leaves
open_refuses {k} {n} {a} {t} {q} s l g c =
    let e = sized_holds k n (length t) (length q) s in
    let f = limited_holds a (length q) l in
    (c.code ∙ rw (e, f, g), c.bytes ∙ rw (e, f, g))

module _ (key : List ℕ) (id recording p : ℕ) (part : List ℕ) where
  -- the parts of the block that the call looks at
  pub front_opens : open_block key id recording p (take 512 part)
      ≡ pick (eqb (number4 part 0) p && fits key (nonce_at id recording p) (take 8 part) (take 504 (drop 8 part)))
      (content_of (get_or part 4 0) (get_or part 5 0) (number2 part 6) (opened key (nonce_at id recording p) (take 8 part) (take 504 (drop 8 part)))) shut
  unfolding open_block
  front_opens =
      rw (
        get_or-take 512 part 0 0 (omega arith),
        get_or-take 512 part 1 0 (omega arith),
        get_or-take 512 part 2 0 (omega arith),
        get_or-take 512 part 3 0 (omega arith),
        get_or-take 512 part 4 0 (omega arith),
        get_or-take 512 part 5 0 (omega arith),
        get_or-take 512 part 6 0 (omega arith),
        get_or-take 512 part 7 0 (omega arith),
        take-take 8 512 part (omega arith),
        drop_take 8 504 part,
      )

  pub number_shuts : (number4 part 0 ≡ p → ⊥) → open_block key id recording p (take 512 part) ≡ shut
  number_shuts n = front_opens ∙ rw (ne_eqb (number4 part 0) p n)

  -- what the call of aead::open says of the block, whose number is p
  module _ {n out out' : List ℕ} {r : ℕ} (hk : length key ≡ 24) (hp : 512 ≤ length part) (ho : length out ≡ 488) (hn : n ≡ nonce_at id recording p)
      (e : number4 part 0 ≡ p) (c : Opened key n (take 8 part) (take 504 (drop 8 part)) out r out') where
    text_length : length (take 504 (drop 8 part)) ≡ 504
    text_length = length-take-le 504 (drop 8 part) (omega (arith, length-drop 8 part))

    sizes : Sizes key n (length (take 504 (drop 8 part))) (length out)
    sizes = record { key24 = hk; nonce16 = ap length hn ∙ length_nonce id recording p; more16 = omega (arith, text_length) }

    limits : Limits (take 8 part) (length out)
    limits = record { associated_most = omega (arith, length-take-le 8 part (omega arith)); short_most = omega arith }

    at_nonce : (t : Bool) → fits key n (take 8 part) (take 504 (drop 8 part)) ≡ t → fits key (nonce_at id recording p) (take 8 part) (take 504 (drop 8 part)) ≡ t
    at_nonce t g = ap (λ (x : List ℕ). fits key x (take 8 part) (take 504 (drop 8 part))) (sym hn) ∙ g

    -- an answer other than 0: the tag does not fit
    pub tag_shuts : (r ≡ 0 → ⊥) → (open_block key id recording p (take 512 part) ≡ shut) × (out' ≡ replicate (length out) 0)
    tag_shuts ne = go (fits key n (take 8 part) (take 504 (drop 8 part))) refl
      where
        go : (t : Bool) → fits key n (take 8 part) (take 504 (drop 8 part)) ≡ t
            → (open_block key id recording p (take 512 part) ≡ shut) × (out' ≡ replicate (length out) 0)
        go true g = absurd (ne (open_takes sizes limits g c).0)
        go false g = (front_opens ∙ rw (eq-eqb (number4 part 0) p e, at_nonce false g), (open_refuses sizes limits g c).1)

    -- the answer 0: it fits, and the header and what was opened decide
    pub tag_opens : {used : ℕ} → used ≡ number2 part 6 → r ≡ 0 → open_block key id recording p (take 512 part) ≡ content_of (get_or part 4 0) (get_or part 5 0) used out'
    tag_opens {used} u z = go (fits key n (take 8 part) (take 504 (drop 8 part))) refl
      where
        go : (t : Bool) → fits key n (take 8 part) (take 504 (drop 8 part)) ≡ t
            → open_block key id recording p (take 512 part) ≡ content_of (get_or part 4 0) (get_or part 5 0) used out'
        go true g =
            front_opens ∙ rw (eq-eqb (number4 part 0) p e, at_nonce true g)
            (ap₂ (content_of (get_or part 4 0) (get_or part 5 0)) (sym u)
            (ap (λ (x : List ℕ). opened key x (take 8 part) (take 504 (drop 8 part))) (sym hn) ∙ sym (open_takes sizes limits g c).1))
        go false g = absurd (omega (arith, (open_refuses sizes limits g c).0))

-- ---- the call's answers
module _ {key : List ℕ} {id recording p : ℕ} {part out : List ℕ} where
  pub open_stays : open_block_number key part out ≡ 2 → OpenedAt key id recording p part out (Err refusal.WrongLength) out
  open_stays e = record { code = sym e; says = rw e (sym (answered_err (seen_of (open_block key id recording p (take 512 part))) refusal.WrongLength)); bytes = rw e }

module _ (key part out : List ℕ) (hk : length key ≡ 24) (hp : 512 ≤ length part) (ho : length out ≡ 488) where
  pub may_open : open_block_number key part out ≡ 0
  unfolding open_block_number
  may_open = rw (key_ok_lem key hk, le-leb 512 (length part) hp, eq-eqb (length out) 488 ho)

  pub open_answers : {id recording p : ℕ} (o : Content) {r : Seen} {out' : List ℕ} → open_block key id recording p (take 512 part) ≡ o → r ≡ seen_of o → out' ≡ payload (bytes_of o)
      → OpenedAt key id recording p part out (Ok r) out'
  open_answers o e f g = record { code = sym may_open; says = rw (may_open, e) (ap Ok f); bytes = g ∙ rw (may_open, e) }

  pub open_shuts : {id recording p : ℕ} {out' : List ℕ} → open_block key id recording p (take 512 part) ≡ shut → out' ≡ replicate (length out) 0
      → OpenedAt key id recording p part out (Ok seen.Shut) out'
  open_shuts e f = open_answers shut e refl (zeros_left shut out ho f refl)
