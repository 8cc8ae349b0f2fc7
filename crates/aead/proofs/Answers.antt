-- Two answers of sealing: a wrong length is refused; what keeps the lengths and the limits is sealed.
-- Assumes nothing.
use mathlib.Core.Path.{◌≡◌, ◌∙◌}
use mathlib.Core.Bool.{true, false}
use mathlib.Core.List.{List}
use Prim.Native.Nat.{ℕ}
use lib.ListN.{length}
use Rattle.aead.specs.Sealing.{keyed, sealed_from, sealed, sized, limited, seal_number, seal_leaves, Sealed}

module _ {k n a t o : List ℕ} where
  pub seal_2 : sized k n (length o) (length t) ≡ false → Sealed k n a t o 2 o
  unfolding seal_number seal_leaves
  seal_2 e = record { code = rw e; bytes = rw e }

  pub seal_0 : {v o' : List ℕ} → sized k n (length o) (length t) ≡ true → limited a (length t) ≡ true → v ≡ keyed k n a → o' ≡ sealed_from v t
      → Sealed k n a t o 0 o'
  unfolding seal_number seal_leaves sealed
  seal_0 e f g h = record { code = rw (e, f); bytes = h ∙ rw (e, f, g) }
