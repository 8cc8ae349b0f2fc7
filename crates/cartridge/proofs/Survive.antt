-- Demand 3 over views: what a walk of a spoiled cartridge hands out.
-- Assumes nothing.
use mathlib.Core.Path.{◌≡◌, refl, ◌∙◌}
use mathlib.Core.Bool.{Bool, true, false}
use mathlib.Core.List.{List, [], ◌∷◌}
use Prim.Native.Nat.{ℕ, suc, ◌+◌, ◌≤◌, ◌<◌}
use native.Mathlib.Nat.{zero-add}
use native.Mathlib.Omega.{arith}
use lib.ListN.{length}
use Rattle.laws.specs.Choose.{pick}
use Rattle.block.specs.Content.{Content, Shut}
use Rattle.block.specs.Image.{View}
use Rattle.block.proofs.ImageLaws.{Now, ShowsBut, Stands}
use Rattle.writer.specs.Items.{Item, sizes}
use Rattle.writer.proofs.Ready.{AllSound}
use Rattle.reader.specs.Walk.{walk_from, walk}
use Rattle.reader.proofs.WalkLaws.{walk_stops}
use Rattle.cartridge.specs.Handed.{handed}
use Rattle.cartridge.specs.Recovered.{intact}
use Rattle.cartridge.proofs.Scan.{walk_scan}
use Rattle.cartridge.proofs.Laid.{Blank, laid, scan_laid, length_laid}

-- w is v, but that at the spoiled places among the c first P holds of what opens
pub record Spoiled (P : Content → Type 0) (c : ℕ) (sp : ℕ → Bool) (v w : View) : Type 0 where
  pub kept : (p : ℕ) → p < c → sp p ≡ false → w p ≡ v p
  pub lost : (p : ℕ) → p < c → sp p ≡ true → P (w p)

pub spoiled_shows : (P : Content → Type 0) (c : ℕ) (sp : ℕ → Bool) (v w : View) (s : ℕ) (bs : List Content) → Spoiled P c sp v w → Stands v s bs → s + length bs ≤ c → ShowsBut P sp w s bs
spoiled_shows P c sp v w s [] d k h = tt
spoiled_shows P c sp v w s (b ∷ bs) d k h = (go (sp s) refl, spoiled_shows P c sp v w (suc s) bs d k.1 (omega arith))
  where
    go : (t : Bool) → sp s ≡ t → Now P t (w s) b
    go true e = d.lost s (omega arith) e
    go false e = d.kept s (omega arith) e ∙ k.0

spoiled_blank : (c : ℕ) (sp : ℕ → Bool) (v w : View) (s : ℕ) → Spoiled Shut c sp v w → Blank v s c → Blank w s c
unfolding Blank
spoiled_blank c sp v w s d k p a b = go (sp p) refl
  where
    go : (t : Bool) → sp p ≡ t → Shut (w p)
    go true e = d.lost p b e
    go false e = rw (d.kept p b e) (k p a b)

-- t: whether the recording was closed
pub survive : (c : ℕ) (sp : ℕ → Bool) (v w : View) (is : List Item) (t : Bool) → AllSound is → Stands v 0 (laid is t)
    → Blank v (sizes is + pick t 1 0) c → sizes is + pick t 1 0 ≤ c → Spoiled Shut c sp v w
    → (handed (walk w c) ≡ intact sp 0 is) × ((n : ℕ) → length (walk_from n w c 0) ≤ c)
survive c sp v w is t d k b e x = (
  walk_scan w c
      ∙ scan_laid is t sp w c 0 c d (spoiled_shows Shut c sp v w 0 (laid is t) x k (omega (arith, length_laid is t)))
      (rw zero-add (spoiled_blank c sp v w (sizes is + pick t 1 0) x b)) (omega arith) e,
  λ n. let k = walk_stops n w c 0 in omega arith,
)
