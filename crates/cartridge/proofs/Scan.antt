-- What a walk hands out is what a read at each place in turn would hand out, up to the first end of data: a walk passes
-- over nothing but blocks at which a read answers Bad or Stray. This holds of every view.
-- Assumes nothing.
use mathlib.Core.Path.{◌≡◌, refl, sym, ap, ◌∙◌}
use mathlib.Core.Bool.{Bool, true, false}
use mathlib.Core.List.{List, [], ◌++◌}
use Prim.Native.Nat.{ℕ, zero, suc, ◌+◌, ◌-◌, ◌≤◌}
use native.Mathlib.Omega.{arith}
use borrow.Author.Tests.{lt-ltb, le-ltb}
use Rattle.laws.specs.Choose.{pick}
use Rattle.block.specs.Content.{Content, shut, more, head}
use Rattle.block.specs.Image.{View}
use Rattle.reader.specs.Walk.{is_end, read_at, walk_from, walk}
use Rattle.reader.proofs.WalkLaws.{read_onward}
use Rattle.reader.proofs.GapLaws.{Quiet, Gap, here, step, gap_le, read_gap}
use Rattle.cartridge.specs.Handed.{Handed, hands_out, handed}

-- what reads at n places from p on hand out
abbrev pub scan : ℕ → View → ℕ → ℕ → List Handed
scan zero v c p = []
scan (suc n) v c p = hands_out p (read_at v c p).told ++ pick (is_end (read_at v c p).told) [] (scan n v c (suc p))

pub quiet_scan : (v : View) (c q n : ℕ) → Quiet (v q) → scan (suc n) v c q ≡ scan n v c (suc q)
unfolding read_at
quiet_scan v c q n k = go (v q) refl k
  where
    go : (o : Content) → v q ≡ o → Quiet o → scan (suc n) v c q ≡ scan n v c (suc q)
    go shut e k = rw e
    go (more l b) e k = rw e
    go (head h) e k = absurd k

pub scan_gap : {v : View} {e q : ℕ} → Gap v e q → (c n m : ℕ) → q + n ≡ c → e + m ≡ c → scan n v c q ≡ scan m v c e
scan_gap {v} {e} here c n m hn hm = let h : n ≡ m = omega arith in rw h
scan_gap {v} {e} (step {q = q} k g) c zero m hn hm = let l = gap_le g in absurd (omega arith)
scan_gap {v} {e} (step {q = q} k g) c (suc n) m hn hm = quiet_scan v c q n k ∙ scan_gap g c n m (omega arith) hm

-- ---- the walk from p, with enough reads
pub walk_scan_from : (n : ℕ) (v : View) (c p m : ℕ) → p + m ≡ c → m ≤ n → handed (walk_from n v c p) ≡ scan m v c p
unfolding walk_from
walk_scan_from zero v c p m e h = let z : m ≡ 0 = omega arith in rw z
walk_scan_from (suc n) v c p zero e h = rw (le-ltb p c (omega arith))
walk_scan_from (suc n) v c p (suc m) e h =
    rw (lt-ltb p c (omega arith)) (go (is_end (read_at v c p).told) refl (λ r a b. walk_scan_from n v c (read_at v c p).next r a b))
  where
    go : (t : Bool) → is_end (read_at v c p).told ≡ t
        → ((r : ℕ) → (read_at v c p).next + r ≡ c → r ≤ n → handed (walk_from n v c (read_at v c p).next) ≡ scan r v c (read_at v c p).next)
        → hands_out p (read_at v c p).told ++ handed (pick t [] (walk_from n v c (read_at v c p).next)) ≡ hands_out p (read_at v c p).told ++ pick t [] (scan m v c (suc p))
    go true k ih = refl
    go false k ih =
        let o = read_onward v c p (omega arith) k in
        let s = o.stays in
        let g = o.passes in
        let r : ℕ = c - (read_at v c p).next in
        ap (λ (l : List Handed). hands_out p (read_at v c p).told ++ l)
        (ih r (omega arith) (omega arith) ∙ sym (scan_gap (read_gap v c p k) c m r (omega arith) (omega arith)))

pub walk_scan : (v : View) (c : ℕ) → handed (walk v c) ≡ scan c v c 0
unfolding walk
walk_scan v c = walk_scan_from c v c 0 c (omega arith) (omega arith)
