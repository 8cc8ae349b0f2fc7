-- The tail of the reel: with no damage the walk is the accepted items, each at its place, and then End at the closing
-- mark; and a record that was refused leaves the cartridge closable.
-- Assumes nothing.
use mathlib.Core.Path.{◌≡◌, refl, ap}
use mathlib.Core.Bool.{true, false}
use mathlib.Core.List.{List, [], ◌∷◌, append_assoc}
use Prim.Native.Nat.{ℕ, zero, suc, ◌+◌, ◌/◌, ◌≤◌}
use native.Mathlib.Omega.{arith}
use borrow.Author.Tests.{lt-ltb}
use lib.ListN.{length}
use Rattle.block.specs.Image.{View, capacity_of}
use Rattle.block.proofs.ImageLaws.{Stands}
use Rattle.writer.specs.declared.WriterState.{WriterState}
use Rattle.std.specs.Prelude.{Ok}
use Rattle.numbers.specs.Refusals.{number_of}
use Rattle.writer.specs.declared.Reply.TheVariants.{Plain}
use Rattle.writer.specs.Items.{Item, rec, fmark, size, blocks, sizes}
use Rattle.writer.specs.Writing.{write, close}
use Rattle.writer.proofs.Pieces.{length_blocks}
use Rattle.writer.proofs.Ready.{Ready, AllSound}
use Rattle.writer.proofs.InOrder.{size_pos}
use Rattle.writer.proofs.Rules.{refused_leaves, room_for_closing}
use Rattle.reader.specs.Walk.{End, is_end, read_at, Visit, visit, walk_from, walk}
use Rattle.cartridge.specs.Chain.{Run, left, items, shown, Proper}
use Rattle.cartridge.proofs.Laid.{outcome, shows_append, laid, read_whole}
use Rattle.cartridge.proofs.Made.{made}

-- what the walk answers: each item, then End
abbrev pub visits : ℕ → List Item → List Visit
visits s [] = visit s End ∷ []
visits s (i ∷ is) = visit s (outcome i) ∷ visits (s + size i) is

item_no_end : (i : Item) → is_end (outcome i) ≡ false
item_no_end (rec b) = refl
item_no_end fmark = refl

walk_closed : (is : List Item) (v : View) (c s n : ℕ) → AllSound is → Stands v s (laid is true) → s + sizes is + 1 ≤ c → sizes is + 1 ≤ n → walk_from n v c s ≡ visits s is
unfolding walk_from read_at
walk_closed is v c s zero d k h l = absurd (omega arith)
walk_closed [] v c s (suc n) d k h l = rw (lt-ltb s c (omega arith), k.0)
walk_closed (i ∷ is) v c s (suc n) d k h l =
    let r = shows_append (λ o. ⊥) (λ p. false) v s (blocks i) (laid is true) (rw append_assoc at k) in
    let z = size_pos i d.0 in
    let e = read_whole i v c s d.0 r.0 (omega arith) in
    rw (lt-ltb s c (omega arith), e, item_no_end i)
    (ap (λ (x : List Visit). visit s (outcome i) ∷ x) (walk_closed is v c (s + size i) n d.1 (rw length_blocks at r.1) (omega arith) (omega arith)))

pub whole_walk : (r : Run) → Proper r → (left r).state.closed ≡ true
    → walk (shown r.setup (left r).image) (capacity_of (left r).image) ≡ visits 0 (items r)
unfolding walk capacity_of
whole_walk r p k =
    let m = made r p in
    let was = (left r).image in
    let l = m.long in
    let e = m.room in
    let c = length was / 512 in
    walk_closed (items r) (shown r.setup was) c 0 c m.all_sound (rw k at m.stands) (omega arith) (omega arith)

-- a refused record leaves state and image, and where the state is lawful and open the closing is still taken
pub refused_closable : (s : WriterState) (key image : List ℕ) (i : Item) (n : ℕ) → Ready s key image → number_of (write s key image i).reply ≡ suc n
    → (close (write s key image i).state key (write s key image i).image).reply ≡ Ok Plain
refused_closable s key image i n r e = rw (refused_leaves s key image i n e) (room_for_closing s key image r).0
