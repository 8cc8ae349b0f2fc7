-- What a chain of the writer's calls leaves in the image.
-- Assumes nothing.
use mathlib.Core.Path.{◌≡◌, refl, sym, ap, ◌∙◌, subst}
use mathlib.Core.Logic.{inl, inr}
use mathlib.Core.Bool.{Bool, true, false}
use mathlib.Core.List.{List, [], ◌∷◌, ◌++◌, append-nil, append_assoc}
use Prim.Native.Nat.{ℕ, zero, suc, ◌+◌, ◌-◌, ◌*◌, ◌≤◌, ◌<◌}
use native.Mathlib.Nat.{zero-add, add-zero, add-suc, suc-add}
use native.Mathlib.Omega.{arith}
use Rattle.std.specs.Prelude.{Ok}
use lib.ListN.{length, drop, replicate, length-replicate, length-take, length-drop}
use lib.Seq.{length-take-le}
use Rattle.laws.specs.Choose.{pick, first_of}
use Rattle.laws.specs.Lists.{AllBytes}
use Rattle.laws.proofs.ByteLaws.{bytes_take, bytes_drop}
use Rattle.block.specs.Content.{eod, Content, head, Shut}
use Rattle.block.specs.Format.{open_block}
use Rattle.block.specs.Image.{capacity_of, image_ok, View, view, lay}
use Rattle.block.proofs.ImageSize.{image_sized}
use Rattle.block.proofs.ImageLaws.{Stands, AllLawful, length_lay, lay_else, lay_stands, block_zeros}
use Rattle.block.proofs.RoundTrip.{zeros_shut}
use Rattle.writer.specs.declared.WriterState.{WriterState}
use Rattle.writer.specs.declared.Reply.TheVariants.{Plain}
use Rattle.writer.specs.Items.{Item, rec, fmark, blocks_for, size, pieces, following, recorded, blocks, layout, sizes, file_marks, file_marks_in}
use Rattle.writer.specs.Writing.{Done, moved, judged, taken, ended, started, refused_state, zone_ok, start_number, item_number, close_number, start, write, close}
use Rattle.writer.proofs.Pieces.{length_blocks}
use Rattle.writer.proofs.Judged.{judged_either}
use Rattle.writer.proofs.Ready.{Sound, AllSound, sound, item_fits, close_ready, zoned}
use Rattle.writer.proofs.InOrder.{length_layout, sizes_snoc, layout_snoc, marks_snoc, sound_snoc}
use Rattle.cartridge.specs.Chain.{Call, item, closing, call, took, chain, accepted, ItemBytes, CallBytes, AllCallBytes}
use Rattle.cartridge.specs.Chain.{Setup, Run, begun, left, items, shown, Proper}
use Rattle.cartridge.proofs.Laid.{laid, Blank}

-- ---- an item's blocks are lawful
lawful_pieces : (k p : ℕ) (s : List ℕ) → AllBytes s → 488 * k < length s → length s ≤ 488 * suc k → AllLawful p (following (pieces (suc k) s))
unfolding pieces following
lawful_pieces zero p s a l h = ((bytes_take 488 s a, simp length-take (omega arith), simp length-take (omega arith)), tt)
lawful_pieces (suc k) p s a l h = (
  (bytes_take 488 s a, length-take-le 488 s (omega arith)),
  lawful_pieces k (suc p) (drop 488 s) (bytes_drop 488 s a) (simp length-drop (omega arith)) (simp length-drop (omega arith)),
)

lawful_blocks : (i : Item) (p : ℕ) → Sound i → ItemBytes i → AllLawful p (blocks i)
unfolding blocks_for pieces following recorded
lawful_blocks (rec b) p d a = go (size (rec b)) refl
  where
    go : (n : ℕ) → size (rec b) ≡ n → AllLawful p (recorded (pieces n b))
    go zero e = let l = d.low in absurd (omega arith)
    go (suc k) e = let l = d.low in lawful_pieces k p b a (omega arith) (omega arith)
lawful_blocks fmark p d a = (tt, tt)

-- ---- views
stands_join : (v : View) (s : ℕ) (bs ds : List Content) → Stands v s bs → Stands v (s + length bs) ds → Stands v s (bs ++ ds)
stands_join v s [] ds h k = rw add-zero at k
stands_join v s (b ∷ bs) ds h k = (h.0, stands_join v (suc s) bs ds h.1 (rw (suc-add, ← add-suc) k))

stands_ext : (v w : View) (s : ℕ) (bs : List Content) → Stands v s bs → ((q : ℕ) → s ≤ q → q < s + length bs → w q ≡ v q) → Stands w s bs
stands_ext v w s [] h e = tt
stands_ext v w s (b ∷ bs) h e =
    (e s (omega arith) (omega arith) ∙ h.0, stands_ext v w (suc s) bs h.1 (λ q a b. e q (omega arith) (omega arith)))

-- blocks laid behind others stand there, and what was before and after still stands
lay_on : (key : List ℕ) (n r : ℕ) (img : List ℕ) (c : ℕ) (xs bs : List Content) → length img ≡ 512 * c → c ≤ 128 → length xs + length bs ≤ c
    → AllLawful (length xs) bs → Stands (view key n r img) 0 xs → Stands (view key n r (lay key n r img (length xs) bs)) 0 (xs ++ bs)
unfolding view
lay_on key n r img c xs bs hl hc hr a h =
    let w = view key n r (lay key n r img (length xs) bs) in
    stands_join w 0 xs bs
    (stands_ext (view key n r img) w 0 xs h
    (λ q i j. ap (open_block key n r q) (lay_else key n r bs img (length xs) q (omega arith) (inl (omega arith)))))
    (rw zero-add (lay_stands key n r bs img (length xs) (omega arith) (omega arith) a))

lay_blank : (key : List ℕ) (n r : ℕ) (img : List ℕ) (c p : ℕ) (bs : List Content) → length img ≡ 512 * c → p + length bs ≤ c
    → Blank (view key n r img) p c → Blank (view key n r (lay key n r img p bs)) (p + length bs) c
unfolding Blank view
lay_blank key n r img c p bs hl hr k q a b =
    subst Shut (ap (open_block key n r q) (sym (lay_else key n r bs img p q (omega arith) (inr a)))) (k q (omega arith) b)

-- ---- what holds after each call of a chain
-- The state s and the image are what accepted items `is` leave: position is their blocks, plus one once closed; the
-- file marks are those among them; the image opens as their blocks, then end of data once closed, then nothing.
pub record Made (a : Setup) (s : WriterState) (img : List ℕ) (is : List Item) : Type 0 where
  pub named : s.id ≡ a.id
  pub numbered : s.recording ≡ a.recording
  pub wide : s.capacity ≡ capacity_of a.fresh
  pub long : length img ≡ 512 * s.capacity
  pub small : s.capacity ≤ 128
  pub large : 4 ≤ s.capacity
  pub zone_in : (1 ≤ s.zone) × (s.zone ≤ s.capacity - 1)
  pub all_sound : AllSound is
  pub place : s.position ≡ sizes is + pick s.closed 1 0
  pub counts : s.marks ≡ file_marks_in is
  pub room : sizes is + 1 ≤ s.capacity
  pub stands : Stands (shown a img) 0 (laid is s.closed)
  pub blank : Blank (shown a img) s.position s.capacity

-- blocks laid at the position of an open state
module _ (a : Setup) (s : WriterState) (img : List ℕ) (is : List Item) (m : Made a s img is) (o : s.closed ≡ false) where
  spot : s.position ≡ sizes is
  spot = rw (o, add-zero) at m.place

  abbrev laid_image : List Content → List ℕ
  laid_image bs = lay a.key s.id s.recording img s.position bs

  length_laid_image : (bs : List Content) → s.position + length bs ≤ s.capacity → length (laid_image bs) ≡ 512 * s.capacity
  length_laid_image bs h = let e = m.long in length_lay a.key s.id s.recording bs img s.position (omega arith) ∙ e

  stands_laid : (bs : List Content) → s.position + length bs ≤ s.capacity → AllLawful s.position bs
      → Stands (shown a (laid_image bs)) 0 (layout is ++ bs)
  stands_laid bs h l =
      let e : s.position ≡ length (layout is) = rw length_layout spot in
      rw (m.named, m.numbered, e)
      (lay_on a.key a.id a.recording img s.capacity (layout is) bs m.long m.small (omega (arith, e)) (rw e at l)
      (rw (o, append-nil) at m.stands))

  blank_laid : (bs : List Content) → s.position + length bs ≤ s.capacity → Blank (shown a (laid_image bs)) (s.position + length bs) s.capacity
  blank_laid bs h =
      rw (m.named, m.numbered) (lay_blank a.key a.id a.recording img s.capacity s.position bs m.long h m.blank)

  made_item : (i : Item) → Sound i → ItemBytes i → s.position + size i ≤ s.capacity - 1
      → Made a (moved s (s.position + size i) false (s.marks + file_marks i)) (laid_image (blocks i)) (is ++ (i ∷ []))
  made_item i d b h =
      let g = m.large in
      let l : s.position + length (blocks i) ≤ s.capacity = rw length_blocks (omega arith) in
      record {
        named = m.named;
        numbered = m.numbered;
        wide = m.wide;
        small = m.small;
        large = m.large;
        zone_in = m.zone_in;
        long = length_laid_image (blocks i) l;
        all_sound = sound_snoc is i m.all_sound d;
        place = rw sizes_snoc (omega (arith, spot));
        counts = rw (marks_snoc, m.counts);
        room = rw sizes_snoc (omega (arith, spot));
        stands = rw (layout_snoc, append-nil) (stands_laid (blocks i) l (lawful_blocks i s.position d b));
        blank = rw length_blocks at (blank_laid (blocks i) l);
      }

  made_close : Made a (moved s (s.position + 1) true s.marks) (laid_image (head eod ∷ [])) is
  made_close =
      let r = m.room in
      record {
        named = m.named;
        numbered = m.numbered;
        wide = m.wide;
        small = m.small;
        large = m.large;
        zone_in = m.zone_in;
        all_sound = m.all_sound;
        counts = m.counts;
        room = m.room;
        long = length_laid_image (head eod ∷ []) (omega (arith, spot));
        place = omega (arith, spot);
        stands = stands_laid (head eod ∷ []) (omega (arith, spot)) (tt, tt);
        blank = blank_laid (head eod ∷ []) (omega (arith, spot));
      }

-- ---- a call
module _ (a : Setup) (s : WriterState) (img : List ℕ) (is : List Item) (m : Made a s img is) where
  abbrev MadeBy : Call → Done → Type 0
  MadeBy x d = Made a d.state d.image (is ++ took d.reply x)

  made_write : (i : Item) → ItemBytes i → MadeBy (item i) (write s a.key img i)
  unfolding write
  made_write i b =
      judged_either (taken s a.key img i) s img (MadeBy (item i)) (λ k. rw append-nil m) (item_number s a.key img i) (λ e.
      let f = item_fits s a.key img i e in
      let h = f.room_ok in
      made_item a s img is m f.ready.is_open i (sound i f.length_holds) b (omega arith))

  made_closing : MadeBy closing (close s a.key img)
  unfolding close
  made_closing =
      judged_either (ended s a.key img) s img (MadeBy closing) (λ k. rw append-nil m) (close_number s a.key img)
      (λ e. rw append-nil (made_close a s img is m (close_ready s a.key img e).is_open))

  pub made_call : (x : Call) → CallBytes x → MadeBy x (call a.key s img x)
  made_call (item i) b = made_write i b
  made_call closing b = made_closing

made_chain : (xs : List Call) (a : Setup) (s : WriterState) (img : List ℕ) (is : List Item) → Made a s img is → AllCallBytes xs
    → let d = chain a.key s img xs in Made a d.state d.image (is ++ accepted a.key s img xs)
made_chain [] a s img is m b = rw append-nil m
made_chain (x ∷ xs) a s img is m b =
    let d = call a.key s img x in
    rw append_assoc at (made_chain xs a d.state d.image (is ++ took d.reply x) (made_call a s img is m x b.0) b.1)

-- ---- a start
zeros_blank : (key : List ℕ) (n r c l : ℕ) → l ≡ 512 * c → Blank (view key n r (replicate l 0)) 0 c
unfolding Blank view
zeros_blank key n r c l e p a b = rw e (subst Shut (ap (open_block key n r p) (sym (block_zeros c p b))) (zeros_shut key n r p))

made_start : (a : Setup) → (begun a).reply ≡ Ok Plain → Made a (begun a).state (begun a).image []
unfolding start start_number
made_start a h = go (image_ok a.fresh) (zone_ok (capacity_of a.fresh) a.zone) refl refl h
  where
    gives : ℕ → Done
    gives n = judged (started a.id a.recording a.zone a.fresh) refused_state a.fresh n

    go : (t z : Bool) → image_ok a.fresh ≡ t → zone_ok (capacity_of a.fresh) a.zone ≡ z → (gives (first_of t 1 (first_of z 3 0))).reply ≡ Ok Plain
        → Made a (gives (first_of t 1 (first_of z 3 0))).state (gives (first_of t 1 (first_of z 3 0))).image []
    go false z f g q = absurd (let x : ◌≡◌ {A = ℕ} 0 1 = cc in omega arith)
    go true false f g q = absurd (let x : ◌≡◌ {A = ℕ} 0 1 = cc in omega arith)
    go true true f g q =
        let w = image_sized a.fresh f in
        let y = zoned (capacity_of a.fresh) a.zone g in
        record {
          named = refl;
          numbered = refl;
          wide = refl;
          all_sound = tt;
          place = refl;
          counts = refl;
          long = length-replicate (length a.fresh) 0 ∙ w.blocks;
          small = w.most;
          large = w.least;
          zone_in = (y.low, let k = y.high in omega arith);
          room = let k = w.least in omega arith;
          stands = tt;
          blank = zeros_blank a.key a.id a.recording (capacity_of a.fresh) (length a.fresh) w.blocks;
        }

-- what a run leaves
pub made : (r : Run) → Proper r → Made r.setup (left r).state (left r).image (items r)
made r p = made_chain r.calls r.setup (begun r.setup).state (begun r.setup).image [] (made_start r.setup p.starts) p.bytes
