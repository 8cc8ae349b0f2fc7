-- The walk: a read that is not End goes onward and stays on the cartridge; the walk from a place by its steps; no more
-- reads than blocks. All of it holds of every view.
-- Assumes nothing.
use borrow.Author.Tests.{lt-ltb, le-ltb, ltb-true}
use mathlib.Core.Path.{◌≡◌, refl, sym, ap}
use mathlib.Core.Bool.{Bool, true, false, true≢false}
use mathlib.Core.List.{List, [], ◌∷◌, ◌++◌}
use Prim.Native.Nat.{ℕ, zero, suc, ◌+◌, ◌-◌, ◌≤◌, ◌<◌, min}
use native.Mathlib.Omega.{arith}
use lib.Dec.{ltb}
use lib.ListN.{length}
use Rattle.laws.specs.Choose.{pick}
use Rattle.block.specs.Content.{Content, shut, more, head, first, mark, eod}
use Rattle.block.specs.Image.{View}
use Rattle.reader.specs.Walk.{Answer, inside, gather, between, read_at, is_end, visit, walk_from}

-- ---- where a read goes on: past its place, and on the cartridge
pub record Onward (q most : ℕ) (a : Answer) : Type 0 where
  pub goes : is_end a.told ≡ false
  pub passes : q ≤ a.next
  pub stays : a.next ≤ most

onward_inside : (o : Content) (q most : ℕ) (b : List ℕ) (on : List ℕ → Answer) → suc q ≤ most → ((b : List ℕ) → Onward (suc q) most (on b)) → Onward q most (inside o q b on)
onward_inside shut q most b on h k = record { goes = refl; passes = omega arith; stays = h }
onward_inside (more true d) q most b on h k = record { goes = refl; passes = omega arith; stays = h }
onward_inside (more false d) q most b on h k =
    let r = k (b ++ d) in let s = r.passes in record { goes = r.goes; passes = omega arith; stays = r.stays }
onward_inside (head d) q most b on h k = record { goes = refl; passes = omega arith; stays = omega arith }

pub gather_onward : (room : ℕ) (v : View) (q : ℕ) (b : List ℕ) (most : ℕ) → q + room ≤ most → Onward q most (gather room v q b)
unfolding gather
gather_onward zero v q b most h = record { goes = refl; passes = omega arith; stays = omega arith }
gather_onward (suc room) v q b most h =
    onward_inside (v q) q most b (λ d. gather room v (suc q) d) (omega arith) (λ d. gather_onward room v (suc q) d most (omega arith))

onward_between : (o : Content) (v : View) (c p : ℕ) → p < c → is_end (between o v c p).told ≡ false → Onward (suc p) c (between o v c p)
onward_between shut v c p h e = record { goes = refl; passes = omega arith; stays = h }
onward_between (more l b) v c p h e = record { goes = refl; passes = omega arith; stays = h }
onward_between (head (first true b)) v c p h e = record { goes = refl; passes = omega arith; stays = h }
onward_between (head (first false b)) v c p h e = gather_onward (min (c - suc p) 63) v (suc p) b c (omega arith)
onward_between (head mark) v c p h e = record { goes = refl; passes = omega arith; stays = h }
onward_between (head eod) v c p h e = absurd (true≢false e)

pub read_onward : (v : View) (c p : ℕ) → p < c → is_end (read_at v c p).told ≡ false → Onward (suc p) c (read_at v c p)
unfolding read_at
read_onward v c p h e = onward_between (v p) v c p h e

-- ---- the walk from p on, one read at a time, with n reads or more to go
pub walk_from_over : (n : ℕ) (v : View) (c p : ℕ) → c ≤ p → walk_from n v c p ≡ []
unfolding walk_from
walk_from_over zero v c p h = refl
walk_from_over (suc n) v c p h = rw (le-ltb p c h)

pub walk_from_step : (n : ℕ) (v : View) (c p : ℕ) → p < c → c - p ≤ n
    → walk_from n v c p ≡ visit p (read_at v c p).told ∷ pick (is_end (read_at v c p).told) [] (walk_from (n - 1) v c (read_at v c p).next)
unfolding walk_from
walk_from_step zero v c p h k = absurd (omega arith)
walk_from_step (suc n) v c p h k =
    let i : suc n - 1 ≡ n = omega arith in
    rw (lt-ltb p c h)
    (ap (λ (j : ℕ). visit p (read_at v c p).told ∷ pick (is_end (read_at v c p).told) [] (walk_from j v c (read_at v c p).next)) (sym i))

-- ---- however many reads are allowed, a walk takes no more than there are blocks from its place on
pub walk_stops : (n : ℕ) (v : View) (c p : ℕ) → length (walk_from n v c p) ≤ c - p
unfolding walk_from
walk_stops zero v c p = omega arith
walk_stops (suc n) v c p = go (ltb p c) (is_end (read_at v c p).told) refl refl (walk_stops n v c (read_at v c p).next)
  where
    go : (t u : Bool) → ltb p c ≡ t → is_end (read_at v c p).told ≡ u
        → length (walk_from n v c (read_at v c p).next) ≤ c - (read_at v c p).next
        → length (pick t (visit p (read_at v c p).told ∷ pick u [] (walk_from n v c (read_at v c p).next)) []) ≤ c - p
    go false u e f k = omega arith
    go true true e f k = let h = ltb-true p c e in omega arith
    go true false e f k =
        let h = ltb-true p c e in
        let s = (read_onward v c p h f).passes in
        omega arith
