-- Lists of bytes: what is made of them by parts, stores and splices is of bytes.
-- Assumes nothing.
use mathlib.Core.Path.{◌≡◌}
use mathlib.Core.List.{List, [], ◌∷◌, ◌++◌}
use mathlib.Core.Logic.{⊎_elim}
use Prim.Native.Nat.{ℕ, zero, suc, ◌+◌, ◌-◌, ◌<◌}
use native.Mathlib.Omega.{arith}
use lib.Dec.{lit<}
use lib.ListN.{length, set, take, drop, replicate, length-take, get_or-append, get_or-eq_default}
use lib.Seq.{get_or-take, get_or-drop, get_or-append-add, get_or-set_same, get_or-set_other, set_out}
use Rattle.laws.specs.Lists.{AllBytes, splice}
use Rattle.laws.proofs.OrderLaws.{lt_or_ge}

pub bytes_nil : AllBytes []
bytes_nil k = lit< tt

pub bytes_cons : (x : ℕ) (s : List ℕ) → x < 256 → AllBytes s → AllBytes (x ∷ s)
bytes_cons x s h g zero = h
bytes_cons x s h g (suc k) = g k

pub bytes_zeros : (n : ℕ) → AllBytes (replicate n 0)
bytes_zeros zero = bytes_nil
bytes_zeros (suc n) = bytes_cons 0 (replicate n 0) (lit< tt) (bytes_zeros n)

pub bytes_take : (n : ℕ) (s : List ℕ) → AllBytes s → AllBytes (take n s)
bytes_take n s h k =
    ⊎_elim (λ l. rw (get_or-take n s k 0 l) (h k))
    (λ l. rw (get_or-eq_default (take n s) 0 {n = k} (omega (arith, length-take n s))) (lit< tt)) (lt_or_ge k n)

pub bytes_drop : (n : ℕ) (s : List ℕ) → AllBytes s → AllBytes (drop n s)
bytes_drop n s h k = rw (get_or-drop n s k 0) (h (n + k))

pub bytes_append : (s t : List ℕ) → AllBytes s → AllBytes t → AllBytes (s ++ t)
bytes_append s t h g k =
    ⊎_elim (λ l. rw (get_or-append s t 0 k l) (h k))
    (λ l.
    let e : k ≡ length s + (k - length s) = omega arith in
    rw e (rw (get_or-append-add s t (k - length s) 0) (g (k - length s)))) (lt_or_ge k (length s))

pub bytes_set : (s : List ℕ) (i x : ℕ) → AllBytes s → x < 256 → AllBytes (set s i x)
bytes_set s i x h b k =
    ⊎_elim (λ l. rw (get_or-set_other s i k x 0 (λ e. omega arith)) (h k))
    (λ l. ⊎_elim (λ m. rw (get_or-set_other s i k x 0 (λ e. omega arith)) (h k))
    (λ m.
    let e : k ≡ i = omega arith in
    ⊎_elim (λ n. rw e (rw (get_or-set_same s i x 0 n) b)) (λ n. rw (set_out s i x n) (h k)) (lt_or_ge i (length s)))
    (lt_or_ge i k)) (lt_or_ge k i)

pub bytes_splice : (l : List ℕ) (at : ℕ) (b : List ℕ) → AllBytes l → AllBytes b → AllBytes (splice l at b)
unfolding splice
bytes_splice l at b h g =
    bytes_append (take at l) (b ++ drop (at + length b) l) (bytes_take at l h) (bytes_append b (drop (at + length b) l) g (bytes_drop (at + length b) l h))
