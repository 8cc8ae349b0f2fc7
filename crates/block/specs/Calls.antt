-- What the calls on one block promise. They are for the layers above, and total all the same.
use Rattle.std.specs.Prelude.{◌≡◌, Bool, ◌&&◌, List, ℕ, eqb, leb, length, take, Result}
use Rattle.laws.specs.Choose.{pick, first_of}
use Rattle.laws.specs.Lists.{splice}
use Rattle.numbers.specs.declared.Refusal.{Refusal}
use Rattle.numbers.specs.Refusals.{number_of, answered}
use Rattle.aead.specs.Sealing.{key_ok}
use Rattle.block.specs.declared.Kind.{Kind}
use Rattle.block.specs.declared.Kind.TheVariants as kind
use Rattle.block.specs.declared.Seen.{Seen}
use Rattle.block.specs.declared.Seen.TheVariants as seen
use Rattle.block.specs.Content.{Content, shut, more, head, first, mark, eod, flag, bytes_of}
use Rattle.block.specs.Format.{payload, used_ok, seal_block, open_block}

-- ---- sealing at the front of a lent part: the content that a kind and a payload are
abbrev pub content_for : Kind → List ℕ → Content
content_for (kind.First l) b = head (first l b)
content_for (kind.More l) b = more l b
content_for kind.Mark b = head mark
content_for kind.End b = head eod

-- how many bytes fit: 488 where the record goes on, 1 to 488 in its last block, none for a mark or end of data
abbrev pub fits_kind : Kind → ℕ → Bool
fits_kind (kind.First l) n = used_ok (flag l) n
fits_kind (kind.More l) n = used_ok (flag l) n
fits_kind kind.Mark n = eqb n 0
fits_kind kind.End n = eqb n 0

-- 2: a key or a part of a wrong length, or a payload that does not fit its kind
unfoldable pub seal_block_number : List ℕ → Kind → List ℕ → List ℕ → ℕ
seal_block_number key k b part = first_of (key_ok key && (leb 512 (length part) && fits_kind k (length b))) 2 0

pub record SealedAt (key : List ℕ) (id recording p : ℕ) (k : Kind) (b part : List ℕ) (r : ℕ) (part' : List ℕ) : Type 0 where
  pub code : r ≡ seal_block_number key k b part
  pub bytes : part' ≡ pick (eqb (seal_block_number key k b part) 0)
      (splice part 0 (seal_block key id recording p (content_for k b))) part

-- ---- opening the block at the front of a part. What opens, as the code says it: byte 5 and the count of bytes used
abbrev pub seen_of : Content → Seen
seen_of shut = seen.Shut
seen_of (more l b) = seen.More l (length b)
seen_of (head (first l b)) = seen.First l (length b)
seen_of (head mark) = seen.Mark
seen_of (head eod) = seen.End

-- 2: a key, a part or a receiving buffer of a wrong length
unfoldable pub open_block_number : List ℕ → List ℕ → List ℕ → ℕ
open_block_number key part out = first_of (key_ok key && (leb 512 (length part) && eqb (length out) 488)) 2 0

pub record OpenedAt (key : List ℕ) (id recording p : ℕ) (part out : List ℕ) (r : Result Seen Refusal) (out' : List ℕ) : Type 0 where
  pub code : number_of r ≡ open_block_number key part out
  pub says : r ≡ answered (open_block_number key part out) (seen_of (open_block key id recording p (take 512 part)))
  pub bytes : out' ≡ pick (eqb (open_block_number key part out) 0)
      (payload (bytes_of (open_block key id recording p (take 512 part)))) out
