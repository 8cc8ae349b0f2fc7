-- Demand 3: an image written by our writer from start to closing mark, then spoiled. A walk hands out every record and
-- mark whose blocks are unspoiled, once, in order, as written, and nothing else, in no more reads than blocks.
-- Assumes nothing.
use mathlib.Core.Path.{◌≡◌, refl, sym, ap, ◌∙◌, subst}
use mathlib.Core.Bool.{Bool, true, false, false≢true}
use mathlib.Core.List.{List, [], ◌∷◌}
use Prim.Native.Nat.{ℕ, zero, suc, ◌+◌, ◌≤◌}
use native.Mathlib.Omega.{arith}
use borrow.Author.Tests.{not-true, not-false}
use Rattle.laws.specs.Choose.{pick}
use Rattle.laws.specs.Lists.{same}
use Rattle.laws.proofs.SameLaws.{same_true, same_refl}
use Rattle.block.specs.Content.{Shut}
use Rattle.block.specs.Format.{open_block}
use Rattle.block.specs.Image.{block_at, capacity_of, view}
use Rattle.writer.specs.Items.{Item, size, sizes}
use Rattle.reader.specs.Walk.{walk}
use Rattle.cartridge.specs.Chain.{Run, left, items, shown, Proper}
use Rattle.cartridge.specs.Handed.{Handed, hand, handed}
use Rattle.cartridge.specs.Recovered.{spoiled, whole, intact, Damaged, Recovered}
use Rattle.cartridge.proofs.Survive.{Spoiled, survive}
use Rattle.cartridge.proofs.Made.{made}

-- damage to an image's bytes, as its views show it
damage : (r : Run) (now : List ℕ) → Damaged r now
    → Spoiled Shut (capacity_of now) (spoiled (left r).image now) (shown r.setup (left r).image) (shown r.setup now)
unfolding spoiled view
damage r now d =
    let was = (left r).image in
    record {
      kept = λ p h t.
          ap (open_block r.setup.key r.setup.id r.setup.recording p)
          (same_true (block_at now p) (block_at was p) (not-false (same (block_at now p) (block_at was p)) t));
      lost = λ p h t.
          d.shuts p h
          (λ q. false≢true
          (sym (not-true (same (block_at now p) (block_at was p)) t)
          ∙ subst (λ (y : List ℕ). same (block_at now p) y ≡ true) q (same_refl (block_at now p))));
    }

-- for every run, closed or still open
pub recovered : (r : Run) → Proper r → (now : List ℕ) → Damaged r now → Recovered r now
unfolding capacity_of
recovered r p now d =
    let m = made r p in
    let s = (left r).state in
    let l = d.long in
    let e = m.long in
    let cap : s.capacity ≡ capacity_of now = omega arith in
    let x = survive (capacity_of now) (spoiled (left r).image now) (shown r.setup (left r).image) (shown r.setup now) (items r) s.closed
    m.all_sound m.stands (rw (m.place, cap) at m.blank) (at_most (items r) s.closed m.room cap) (damage r now d) in
    record { gives = x.0; short = x.1 }
  where
    at_most : (is : List Item) (t : Bool) {c n : ℕ} → sizes is + 1 ≤ c → c ≡ n → sizes is + pick t 1 0 ≤ n
    at_most is true h e = omega arith
    at_most is false h e = omega arith

-- for every key, id, recording, zone, image to start from and chain that ends closed, and for every image of the same
-- length in which each block has its bytes or does not open at its place
pub demand_3 : (r : Run) → Proper r → (left r).state.closed ≡ true → (now : List ℕ) → Damaged r now → Recovered r now
demand_3 r p k now d = recovered r p now d

-- ---- the tail of the reel: with no damage all accepted items come back, none is lost
all_whole : (n : ℕ) (sp : ℕ → Bool) (s : ℕ) → ((p : ℕ) → sp p ≡ false) → whole sp s n ≡ true
all_whole zero sp s h = refl
all_whole (suc n) sp s h = rw (h s) (all_whole n sp (suc s) h)

-- the items laid one behind another from s on
abbrev pub placed : ℕ → List Item → List Handed
placed s [] = []
placed s (i ∷ is) = hand s i ∷ placed (s + size i) is

all_intact : (is : List Item) (sp : ℕ → Bool) (s : ℕ) → ((p : ℕ) → sp p ≡ false) → intact sp s is ≡ placed s is
all_intact [] sp s h = refl
all_intact (i ∷ is) sp s h = rw (all_whole (size i) sp s h, all_intact is sp (s + size i) h)

nothing_spoiled : (was : List ℕ) (p : ℕ) → spoiled was was p ≡ false
unfolding spoiled
nothing_spoiled was p = rw (same_refl (block_at was p))

-- closed or still open: over the image as it stands a walk hands out what was accepted so far
pub nothing_lost : (r : Run) → Proper r → handed (walk (shown r.setup (left r).image) (capacity_of (left r).image)) ≡ placed 0 (items r)
nothing_lost r p =
    let w = (left r).image in
    (recovered r p w (record { long = refl; shuts = λ q l n. absurd (n refl) })).gives ∙ all_intact (items r) (spoiled w w) 0 (nothing_spoiled w)
