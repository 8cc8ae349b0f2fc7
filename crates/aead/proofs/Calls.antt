-- What an accepted call says, when a call is accepted, and what open's 7 leaves.
-- Assumes nothing.
use mathlib.Core.Path.{◌≡◌, sym, ◌∙◌}
use mathlib.Core.Bool.{true}
use mathlib.Core.List.{List}
use Prim.Native.Nat.{ℕ}
use lib.ListN.{length, replicate}
use Rattle.laws.proofs.ChooseLaws.{no_refusal}
use Rattle.aead.specs.Sealing.{sealed, opened, fits, sized, limited, seal_number, open_number, seal_leaves, open_leaves, Sealed, Opened}
use Rattle.aead.proofs.Lengths.{Sizes, Limits, sizes, limits, sized_holds, limited_holds}

-- sizes and limits kept: sealing refuses nothing, opening only what does not fit
pub seal_takes : {k n a p o o' : List ℕ} {r : ℕ} → Sizes k n (length o) (length p) → Limits a (length p) → Sealed k n a p o r o' → (r ≡ 0) × (o' ≡ sealed k n a p)
unfolding seal_number seal_leaves
seal_takes {k} {n} {a} {p} {o} s l c =
    let e = sized_holds k n (length o) (length p) s in
    let f = limited_holds a (length p) l in
    (c.code ∙ rw (e, f), c.bytes ∙ rw (e, f))

pub open_takes : {k n a t q q' : List ℕ} {r : ℕ} → Sizes k n (length t) (length q) → Limits a (length q) → fits k n a t ≡ true → Opened k n a t q r q'
    → (r ≡ 0) × (q' ≡ opened k n a t)
unfolding open_number open_leaves
open_takes {k} {n} {a} {t} {q} s l g c =
    let e = sized_holds k n (length t) (length q) s in
    let f = limited_holds a (length q) l in
    (c.code ∙ rw (e, f, g), c.bytes ∙ rw (e, f, g))

pub record SealAccepted (k n a p o o' : List ℕ) : Type 0 where
  pub sizes : Sizes k n (length o) (length p)
  pub limits : Limits a (length p)
  pub bytes : o' ≡ sealed k n a p

pub record OpenAccepted (k n a t q q' : List ℕ) : Type 0 where
  pub sizes : Sizes k n (length t) (length q)
  pub limits : Limits a (length q)
  pub fit : fits k n a t ≡ true
  pub bytes : q' ≡ opened k n a t

pub seal_accepted : {k n a p o o' : List ℕ} → Sealed k n a p o 0 o' → SealAccepted k n a p o o'
unfolding seal_number seal_leaves
seal_accepted {k} {n} {a} {p} {o} c =
    let e = no_refusal (sized k n (length o) (length p)) 1 _ (sym c.code) in
    let f = no_refusal (limited a (length p)) 8 0 e.1 in
    record {
      sizes = sizes k n (length o) (length p) e.0;
      limits = limits a (length p) f.0;
      bytes = c.bytes ∙ rw (e.0, f.0);
    }

pub open_accepted : {k n a t q q' : List ℕ} → Opened k n a t q 0 q' → OpenAccepted k n a t q q'
unfolding open_number open_leaves
open_accepted {k} {n} {a} {t} {q} c =
    let e = no_refusal (sized k n (length t) (length q)) 1 _ (sym c.code) in
    let f = no_refusal (limited a (length q)) 8 _ e.1 in
    let g = no_refusal (fits k n a t) 6 0 f.1 in
    record {
      sizes = sizes k n (length t) (length q) e.0;
      limits = limits a (length q) f.0;
      fit = g.0;
      bytes = c.bytes ∙ rw (e.0, f.0, g.0);
    }

-- where the tag does not fit, all that is left is zeros
pub open_zeros : {k n a t q q' : List ℕ} → Opened k n a t q 7 q' → q' ≡ replicate (length q) 0
unfolding open_leaves
open_zeros c = c.bytes ∙ rw (sym c.code)
