-- What a read passes over: behind its first block, a read that is no End passes quiet blocks alone, at which nothing
-- begins. So a walk meets every record's first block, mark and end of data at its own place. All of it holds of every
-- view.
-- Assumes nothing.
use mathlib.Core.Path.{◌≡◌, refl}
use mathlib.Core.Bool.{true, false, true≢false}
use mathlib.Core.List.{List, ◌++◌}
use Prim.Native.Nat.{ℕ, zero, suc, ◌-◌, ◌≤◌, min}
use native.Mathlib.Nat.{le_refl}
use native.Mathlib.Omega.{arith}
use Rattle.block.specs.Content.{Content, shut, more, head, first, mark, eod}
use Rattle.block.specs.Image.{View}
use Rattle.reader.specs.Walk.{inside, gather, between, read_at, is_end}

abbrev pub Quiet : Content → Type 0
Quiet shut = Unit {0}
Quiet (more l b) = Unit {0}
Quiet (head h) = ⊥

-- the blocks from q up to e are quiet
pub data Gap (v : View) (e : ℕ) : ℕ → Type 0 where
  here : Gap v e e
  step : {q : ℕ} → Quiet (v q) → Gap v e (suc q) → Gap v e q

pub gap_le : {v : View} {e q : ℕ} → Gap v e q → q ≤ e
gap_le here = le_refl _
gap_le (step k g) = let h = gap_le g in omega arith

-- ---- a record's read, from its block q on, passes over quiet blocks alone
gather_gap : (room : ℕ) (v : View) (q : ℕ) (before : List ℕ) → Gap v (gather room v q before).next q
unfolding gather
gather_gap zero v q before = here
gather_gap (suc room) v q before = go (v q) refl (λ b. gather_gap room v (suc q) b)
  where
    go : (o : Content) → v q ≡ o → ((b : List ℕ) → Gap v (gather room v (suc q) b).next (suc q)) → Gap v (inside o q before (λ b. gather room v (suc q) b)).next q
    go shut e ih = step {q = q} (rw e tt) here
    go (more true b) e ih = step {q = q} (rw e tt) here
    go (more false b) e ih = step {q = q} (rw e tt) (ih (before ++ b))
    go (head h) e ih = here

-- so does a read that is no End, behind its first block
pub read_gap : (v : View) (c p : ℕ) → is_end (read_at v c p).told ≡ false → Gap v (read_at v c p).next (suc p)
unfolding read_at
read_gap v c p = go (v p)
  where
    go : (o : Content) → is_end (between o v c p).told ≡ false → Gap v (between o v c p).next (suc p)
    go shut k = here
    go (more l b) k = here
    go (head (first true b)) k = here
    go (head (first false b)) k = gather_gap (min (c - suc p) 63) v (suc p) b
    go (head mark) k = here
    go (head eod) k = absurd (true≢false k)
