-- What the writer's blocks look like through the key, and what is left of them when some no longer open.
-- Assumes nothing.
use mathlib.Core.Path.{◌≡◌, refl, ap, ◌∙◌}
use mathlib.Core.Bool.{Bool, true, false, true≢false, false≢true}
use mathlib.Core.List.{List, [], ◌∷◌, ◌++◌, append-nil, append_assoc}
use Prim.Native.Nat.{ℕ, zero, suc, ◌+◌, ◌-◌, ◌≤◌, ◌<◌, min}
use native.Mathlib.Nat.{add-suc, suc-add, add-zero, add_assoc}
use native.Mathlib.Omega.{arith}
use native.Mathlib.Numerals.{add-one}
use lib.ListN.{length, length-append}
use Rattle.laws.specs.Choose.{pick}
use Rattle.block.specs.Content.{first, mark, eod, Content, shut, more, head, Shut}
use Rattle.block.specs.Image.{View}
use Rattle.block.proofs.ImageLaws.{Now, ShowsBut, Stands}
use Rattle.writer.specs.Items.{Item, rec, fmark, size, pieces, is_nil, following, recorded, blocks, layout, sizes}
use Rattle.writer.proofs.Pieces.{length_blocks}
use Rattle.writer.proofs.Ready.{Sound, AllSound}
use Rattle.writer.proofs.InOrder.{length_layout, size_pos, joined_up, Cutting, cutting}
use Rattle.reader.specs.Walk.{Told, Record, Mark, is_end, Answer, answer, inside, gather, between, read_at}
use Rattle.cartridge.specs.Handed.{Handed, hand, hands_out}
use Rattle.cartridge.specs.Recovered.{whole, intact}
use Rattle.reader.proofs.GapLaws.{Quiet, Gap, here, step}
use Rattle.cartridge.proofs.Scan.{scan, quiet_scan, scan_gap}

-- ---- a read of blocks that all open

pub shows_whole : (P : Content → Type 0) (sp : ℕ → Bool) (v : View) (s : ℕ) (bs : List Content) → ShowsBut P sp v s bs → whole sp s (length bs) ≡ true → Stands v s bs
shows_whole P sp v s [] h w = tt
shows_whole P sp v s (b ∷ bs) h w = go (sp s) h.0 w (λ k. shows_whole P sp v (suc s) bs h.1 k)
  where
    go : (t : Bool) → Now P t (v s) b → pick t false (whole sp (suc s) (length bs)) ≡ true → (whole sp (suc s) (length bs) ≡ true → Stands v (suc s) bs) → Stands v s (b ∷ bs)
    go true h w k = absurd (false≢true w)
    go false h w k = (h, k w)

pub gather_whole : (xs : List (List ℕ)) (x : List ℕ) (room : ℕ) (v : View) (q : ℕ) (acc : List ℕ) → Stands v q (following (x ∷ xs)) → length (x ∷ xs) ≤ room
    → gather room v q acc ≡ answer (Record (acc ++ joined_up (x ∷ xs))) (q + length (x ∷ xs))
unfolding following gather
gather_whole xs x zero v q acc s h = absurd (omega arith)
gather_whole [] x (suc room) v q acc s h = rw (s.0, append-nil, add-one)
gather_whole (y ∷ ys) x (suc room) v q acc s h =
    rw (s.0, gather_whole ys y room v (suc q) (acc ++ x) s.1 (omega arith)) (simp (append_assoc, suc-add, add-suc))

abbrev pub outcome : Item → Told
outcome (rec b) = Record b
outcome fmark = Mark

pub read_pieces : (x : List ℕ) (xs : List (List ℕ)) (v : View) (c s : ℕ) → Stands v s (recorded (x ∷ xs)) → s + length (x ∷ xs) ≤ c → length (x ∷ xs) ≤ 64
    → read_at v c s ≡ answer (Record (joined_up (x ∷ xs))) (s + length (x ∷ xs))
unfolding recorded read_at
read_pieces x [] v c s k h l = rw (k.0, append-nil, add-one)
read_pieces x (y ∷ ys) v c s k h l = rw (k.0, gather_whole ys y (min (c - suc s) 63) v (suc s) x k.1 (omega arith)) (simp (suc-add, add-suc))

-- An item whose blocks all open is read as it was written, whatever stands around it.
pub read_whole : (i : Item) (v : View) (c s : ℕ) → Sound i → Stands v s (blocks i) → s + size i ≤ c → read_at v c s ≡ answer (outcome i) (s + size i)
unfolding read_at
read_whole (rec b) v c s d k h = go (pieces (size (rec b)) b) (cutting b d) k
  where
    go : (xs : List (List ℕ)) → Cutting b xs → Stands v s (recorded xs) → read_at v c s ≡ answer (Record b) (s + size (rec b))
    go [] t k = let o = t.some in absurd (omega arith)
    go (x ∷ xs) t k = let l = t.count in let f = t.few in
        rw (read_pieces x xs v c s k (omega arith) f, t.joined, l)
read_whole fmark v c s d k h = rw (k.0, add-one)

-- ---- a read of an item of which a block is spoiled

pub gather_no_end : (room : ℕ) (v : View) (q : ℕ) (acc : List ℕ) → is_end (gather room v q acc).told ≡ false
unfolding gather
gather_no_end zero v q acc = refl
gather_no_end (suc room) v q acc = go (v q) (λ a. gather_no_end room v (suc q) a)
  where
    go : (o : Content) → ((a : List ℕ) → is_end (gather room v (suc q) a).told ≡ false) → is_end (inside o q acc (λ a. gather room v (suc q) a)).told ≡ false
    go shut k = refl
    go (more true b) k = refl
    go (more false b) k = k (acc ++ b)
    go (head h) k = refl

abbrev pub is_eod : Content → Bool
is_eod shut = false
is_eod (more l b) = false
is_eod (head (first l b)) = false
is_eod (head mark) = false
is_eod (head eod) = true

pub read_no_end : (v : View) (c p : ℕ) → is_eod (v p) ≡ false → is_end (read_at v c p).told ≡ false
unfolding read_at
read_no_end v c p h = go (v p) h
  where
    go : (o : Content) → is_eod o ≡ false → is_end (between o v c p).told ≡ false
    go shut h = refl
    go (more l b) h = refl
    go (head (first true b)) h = refl
    go (head (first false b)) h = gather_no_end (min (c - suc p) 63) v (suc p) b
    go (head mark) h = refl
    go (head eod) h = absurd (true≢false h)

-- a block that does not open
is_shut : (o : Content) → Shut o → o ≡ shut
is_shut shut h = refl
is_shut (more l b) h = absurd h
is_shut (head x) h = absurd h

shut_inside : (o : Content) (p q : ℕ) (acc : List ℕ) (k : List ℕ → Answer) → Shut o → hands_out p (inside o q acc k).told ≡ []
shut_inside o p q acc k h = rw (is_shut o h)

shut_between : (o : Content) (v : View) (c p : ℕ) → Shut o → hands_out p (between o v c p).told ≡ []
shut_between o v c p h = rw (is_shut o h)

shut_quiet : (o : Content) → Shut o → Quiet o
shut_quiet o h = rw (is_shut o h) tt

shut_no_eod : (o : Content) → Shut o → is_eod o ≡ false
shut_no_eod o h = rw (is_shut o h)

-- the record's read from its second block on
gather_broken : (xs : List (List ℕ)) (x : List ℕ) (room : ℕ) (sp : ℕ → Bool) (v : View) (p q : ℕ) (acc : List ℕ) → ShowsBut Shut sp v q (following (x ∷ xs))
    → whole sp q (length (x ∷ xs)) ≡ false → hands_out p (gather room v q acc).told ≡ []
unfolding following gather
gather_broken xs x zero sp v p q acc s w = refl
gather_broken [] x (suc room) sp v p q acc s w = go (sp q) s.0 w
  where
    go : (t : Bool) → Now Shut t (v q) (more true x) → pick t false true ≡ false → hands_out p (gather (suc room) v q acc).told ≡ []
    go true h w = shut_inside (v q) p q acc (λ a. gather room v (suc q) a) h
    go false h w = absurd (true≢false w)
gather_broken (y ∷ ys) x (suc room) sp v p q acc s w = go (sp q) s.0 w (λ k. gather_broken ys y room sp v p (suc q) (acc ++ x) s.1 k)
  where
    go : (t : Bool) → Now Shut t (v q) (more false x) → pick t false (whole sp (suc q) (length (y ∷ ys))) ≡ false
        → (whole sp (suc q) (length (y ∷ ys)) ≡ false → hands_out p (gather room v (suc q) (acc ++ x)).told ≡ []) → hands_out p (gather (suc room) v q acc).told ≡ []
    go true h w k = shut_inside (v q) p q acc (λ a. gather room v (suc q) a) h
    go false h w k = rw h (k w)

pub read_broken : (i : Item) (sp : ℕ → Bool) (v : View) (c s : ℕ) → Sound i → ShowsBut Shut sp v s (blocks i) → whole sp s (size i) ≡ false → hands_out s (read_at v c s).told ≡ []
unfolding recorded read_at
read_broken (rec b) sp v c s d k w =
    let t = cutting b d in go (pieces (size (rec b)) b) t.some k (rw t.count w)
  where
    at : (xs : List (List ℕ)) (x : List ℕ) (t : Bool) → Now Shut t (v s) (head (first (is_nil xs) x)) → ShowsBut Shut sp v (suc s) (following xs) → pick t false (whole sp (suc s) (length xs)) ≡ false → hands_out s (read_at v c s).told ≡ []
    at xs x true h k w = shut_between (v s) v c s h
    at [] x false h k w = absurd (true≢false w)
    at (y ∷ ys) x false h k w = rw h (gather_broken ys y (min (c - suc s) 63) sp v s (suc s) x k w)

    go : (xs : List (List ℕ)) → 1 ≤ length xs → ShowsBut Shut sp v s (recorded xs) → whole sp s (length xs) ≡ false → hands_out s (read_at v c s).told ≡ []
    go [] o k w = absurd (omega arith)
    go (x ∷ xs) o k w = at xs x (sp s) k.0 k.1 w
read_broken fmark sp v c s d k w = go (sp s) k.0 w
  where
    go : (t : Bool) → Now Shut t (v s) (head mark) → pick t false true ≡ false → hands_out s (read_at v c s).told ≡ []
    go true h w = shut_between (v s) v c s h
    go false h w = absurd (true≢false w)

-- ---- the blocks of an item, spoiled or not

-- Its first block is no end of data. P is what spoiled blocks satisfy.
pub item_no_eod : (P : Content → Type 0) → ((o : Content) → P o → is_eod o ≡ false) → (i : Item) (sp : ℕ → Bool) (v : View) (s : ℕ) → Sound i → ShowsBut P sp v s (blocks i) → is_eod (v s) ≡ false
unfolding recorded
item_no_eod P n (rec b) sp v s d k = go (pieces (size (rec b)) b) (cutting b d).some k
  where
    either : (t : Bool) (x : List ℕ) (l : Bool) → Now P t (v s) (head (first l x)) → is_eod (v s) ≡ false
    either true x l h = n (v s) h
    either false x l h = rw h

    go : (xs : List (List ℕ)) → 1 ≤ length xs → ShowsBut P sp v s (recorded xs) → is_eod (v s) ≡ false
    go [] o k = absurd (omega arith)
    go (x ∷ xs) o k = either (sp s) x (is_nil xs) k.0
item_no_eod P n fmark sp v s d k = either (sp s) k.0
  where
    either : (t : Bool) → Now P t (v s) (head mark) → is_eod (v s) ≡ false
    either true h = n (v s) h
    either false h = rw h

following_gap : (xs : List (List ℕ)) (sp : ℕ → Bool) (v : View) (q e : ℕ) → ShowsBut Shut sp v q (following xs) → q + length xs ≡ e → Gap v e q
unfolding following
following_gap [] sp v q e k h = let z : q ≡ e = omega arith in rw z here
following_gap (x ∷ xs) sp v q e k h = step {q = q} (either (sp q) k.0) (following_gap xs sp v (suc q) e k.1 (omega arith))
  where
    either : (t : Bool) → Now Shut t (v q) (more (is_nil xs) x) → Quiet (v q)
    either true h = shut_quiet (v q) h
    either false h = rw h tt

pub item_gap : (i : Item) (sp : ℕ → Bool) (v : View) (s : ℕ) → Sound i → ShowsBut Shut sp v s (blocks i) → Gap v (s + size i) (suc s)
unfolding recorded
item_gap (rec b) sp v s d k = go (pieces (size (rec b)) b) (cutting b d) k
  where
    go : (xs : List (List ℕ)) → Cutting b xs → ShowsBut Shut sp v s (recorded xs) → Gap v (s + size (rec b)) (suc s)
    go [] t k = let o = t.some in absurd (omega arith)
    go (x ∷ xs) t k = let l = t.count in following_gap xs sp v (suc s) (s + size (rec b)) k.1 (omega arith)
item_gap fmark sp v s d k = rw add-one here

pub item_handed : (i : Item) (s : ℕ) → hands_out s (outcome i) ≡ hand s i ∷ []
item_handed (rec b) s = refl
item_handed fmark s = refl

pub scan_item : (i : Item) (sp : ℕ → Bool) (v : View) (c s m n : ℕ) → Sound i → ShowsBut Shut sp v s (blocks i) → s + m ≡ c → s + size i + n ≡ c
    → scan m v c s ≡ pick (whole sp s (size i)) (hand s i ∷ []) [] ++ scan n v c (s + size i)
scan_item i sp v c s zero n d k hm hn = let z = size_pos i d in absurd (omega arith)
scan_item i sp v c s (suc m) n d k hm hn =
    rw (read_no_end v c s (item_no_eod Shut shut_no_eod i sp v s d k), scan_gap (item_gap i sp v s d k) c m n (omega arith) hn)
    (ap (λ (l : List Handed). l ++ scan n v c (s + size i)) (go (whole sp s (size i)) refl))
  where
    go : (t : Bool) → whole sp s (size i) ≡ t → hands_out s (read_at v c s).told ≡ pick t (hand s i ∷ []) []
    go true e = rw (read_whole i v c s d (shows_whole Shut sp v s (blocks i) k (rw (length_blocks i) e)) (omega arith)) (item_handed i s)
    go false e = read_broken i sp v c s d k e

-- ---- a whole cartridge

pub shows_append : (P : Content → Type 0) (sp : ℕ → Bool) (v : View) (s : ℕ) (bs ds : List Content) → ShowsBut P sp v s (bs ++ ds) → ShowsBut P sp v s bs × ShowsBut P sp v (s + length bs) ds
shows_append P sp v s [] ds k = (tt, rw add-zero k)
shows_append P sp v s (b ∷ bs) ds k =
    let r = shows_append P sp v (suc s) bs ds k.1 in
    ((k.0, r.0), rw (add-suc, ← suc-add) r.1)

-- nothing opens from s up to c
unfoldable pub Blank : View → ℕ → ℕ → Type 0
Blank v s c = (p : ℕ) → s ≤ p → p < c → Shut (v p)

pub scan_blank : (n : ℕ) (v : View) (c s : ℕ) → Blank v s c → s + n ≡ c → scan n v c s ≡ []
unfolding Blank
scan_blank zero v c s k h = refl
scan_blank (suc n) v c s k h = quiet_scan v c s n (shut_quiet (v s) (k s (omega arith) (omega arith))) ∙ scan_blank n v c (suc s) (λ p a b. k p (omega arith) b) (omega arith)

-- items, and end of data behind them once the recording is closed
abbrev pub end_mark : Bool → List Content
end_mark true = head eod ∷ []
end_mark false = []

abbrev pub laid : List Item → Bool → List Content
laid is t = layout is ++ end_mark t

-- closed or still open, the places in turn hand out the items whose blocks are unspoiled
pub scan_laid : (is : List Item) (t : Bool) (sp : ℕ → Bool) (v : View) (c s n : ℕ) → AllSound is → ShowsBut Shut sp v s (laid is t)
    → Blank v (s + sizes is + pick t 1 0) c → s + n ≡ c → sizes is + pick t 1 0 ≤ n → scan n v c s ≡ intact sp s is
unfolding read_at
scan_laid [] false sp v c s n d k b h e = scan_blank n v c s (simp add-zero at b) h
scan_laid [] true sp v c s zero d k b h e = refl
scan_laid [] true sp v c s (suc n) d k b h e = go (sp s) k.0
  where
    rest : Blank v (suc s) c
    rest = rw (add-zero, add-one) at b

    go : (u : Bool) → Now Shut u (v s) (head eod) → scan (suc n) v c s ≡ []
    go true k = quiet_scan v c s n (shut_quiet (v s) k) ∙ scan_blank n v c (suc s) rest (omega arith)
    go false k = rw k
scan_laid (i ∷ is) t sp v c s n d k b h e =
    let r = shows_append Shut sp v s (blocks i) (laid is t) (rw append_assoc at k) in
    let k' : ShowsBut Shut sp v (s + size i) (laid is t) = rw length_blocks at r.1 in
    let b' : Blank v (s + size i + sizes is + pick t 1 0) c = rw (add_assoc s) b in
    scan_item i sp v c s n (n - size i) d.0 r.0 h (omega arith)
    ∙ ap (λ (l : List Handed). pick (whole sp s (size i)) (hand s i ∷ []) [] ++ l)
    (scan_laid is t sp v c (s + size i) (n - size i) d.1 k' b' (omega arith) (omega arith))

length_end_mark : (t : Bool) → length (end_mark t) ≡ pick t 1 0
length_end_mark true = refl
length_end_mark false = refl

pub length_laid : (is : List Item) (t : Bool) → length (laid is t) ≡ sizes is + pick t 1 0
length_laid is t = rw (length-append, length_layout, length_end_mark t)
