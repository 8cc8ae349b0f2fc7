-- What a call alters in the image: an item its own blocks, which stand there sealed, and no others; a closing one
-- block; refused, none.
-- Assumes nothing.
use mathlib.Core.Path.{◌≡◌, refl, sym, ◌∙◌}
use mathlib.Core.List.{List, [], ◌∷◌}
use mathlib.Core.Logic.{◌⊎◌}
use Prim.Native.Nat.{ℕ, ◌+◌, ◌*◌, ◌≤◌, ◌<◌}
use native.Mathlib.Nat.{add-zero}
use native.Mathlib.Omega.{arith}
use lib.ListN.{length, get_or}
use Rattle.block.specs.Content.{shut, head, eod}
use Rattle.block.specs.Format.{seal_block}
use Rattle.block.specs.Image.{block_at}
use Rattle.block.proofs.ImageLaws.{length_lay, lay_else, lay_at}
use Rattle.writer.specs.declared.WriterState.{WriterState}
use Rattle.writer.specs.Items.{Item, size, blocks}
use Rattle.numbers.specs.Refusals.{number_of}
use Rattle.writer.specs.Writing.{item_number, close_number, taken, ended, write, close}
use Rattle.writer.proofs.Pieces.{length_blocks}
use Rattle.writer.proofs.Ready.{facts, item_fits, close_ready}
use Rattle.writer.proofs.Judged.{judged_keeps}
use Rattle.writer.proofs.Rules.{write_number, close_number_lem, write_when, close_when}

-- an item that is taken, and a closing, stay inside the image
item_within : (s : WriterState) (key image : List ℕ) (i : Item) → item_number s key image i ≡ 0 → 512 * (s.position + length (blocks i)) ≤ length image
item_within s key image i e =
    let t = item_fits s key image i e in
    let f = facts t.ready in
    omega (arith, length_blocks i)

closing_within : (s : WriterState) (key image : List ℕ) → close_number s key image ≡ 0 → 512 * (s.position + 1) ≤ length image
closing_within s key image e = let f = facts (close_ready s key image e) in omega arith

module _ (s : WriterState) (key image : List ℕ) where
  -- ---- what is taken stands there, sealed for its place
  pub writes_its_blocks : (i : Item) (j : ℕ) → number_of (write s key image i).reply ≡ 0 → j < size i
      → block_at (write s key image i).image (s.position + j) ≡ seal_block key s.id s.recording (s.position + j) (get_or (blocks i) j shut)
  writes_its_blocks i j e l =
      let w = item_within s key image i (sym (write_number s key image i) ∙ e) in
      rw (write_when s key image i 0 e) (lay_at key s.id s.recording (blocks i) image s.position j w (omega (arith, length_blocks i)))

  pub closing_writes_eod : number_of (close s key image).reply ≡ 0 → block_at (close s key image).image s.position ≡ seal_block key s.id s.recording s.position (head eod)
  closing_writes_eod e =
      let w = closing_within s key image (sym (close_number_lem s key image) ∙ e) in
      rw (close_when s key image 0 e) (rw add-zero at (lay_at key s.id s.recording (head eod ∷ []) image s.position 0 w (omega arith)))

  -- ---- and nothing else is altered
  pub alters_only_its_blocks : (i : Item) (q : ℕ) → (q < s.position) ⊎ (s.position + size i ≤ q) → block_at (write s key image i).image q ≡ block_at image q
  unfolding write
  alters_only_its_blocks i q o =
      judged_keeps (taken s key image i) s image (λ l. block_at l q ≡ block_at image q) refl (item_number s key image i)
      (λ e. lay_else key s.id s.recording (blocks i) image s.position q (item_within s key image i e) (rw length_blocks o))

  pub closing_alters_one_block : (q : ℕ) → (q < s.position) ⊎ (s.position + 1 ≤ q) → block_at (close s key image).image q ≡ block_at image q
  unfolding close
  closing_alters_one_block q o =
      judged_keeps (ended s key image) s image (λ l. block_at l q ≡ block_at image q) refl (close_number s key image)
      (λ e. lay_else key s.id s.recording (head eod ∷ []) image s.position q (closing_within s key image e) o)

  -- ---- and its length stays, so that a state lawful for one is lawful for the other
  pub write_keeps_length : (i : Item) → length (write s key image i).image ≡ length image
  unfolding write
  write_keeps_length i =
      judged_keeps (taken s key image i) s image (λ l. length l ≡ length image) refl (item_number s key image i)
      (λ e. length_lay key s.id s.recording (blocks i) image s.position (item_within s key image i e))

  pub close_keeps_length : length (close s key image).image ≡ length image
  unfolding close
  close_keeps_length =
      judged_keeps (ended s key image) s image (λ l. length l ≡ length image) refl (close_number s key image)
      (λ e. length_lay key s.id s.recording (head eod ∷ []) image s.position (closing_within s key image e))
