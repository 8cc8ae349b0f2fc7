-- What the size of a lawful image says, and what "image, then key" says where it refuses and where it does not.
-- Assumes nothing.
use borrow.Author.Tests.{eqb-true, leb-true}
use mathlib.Core.Path.{◌≡◌, refl}
use mathlib.Core.Bool.{Bool, true, false, ◌&&◌}
use mathlib.Core.List.{List}
use Prim.Native.Nat.{ℕ, ◌*◌, ◌%◌, ◌≤◌}
use native.Mathlib.Omega.{arith}
use lib.Dec.{eqb, leb}
use lib.ListN.{length}
use Rattle.laws.specs.Choose.{first_of}
use Rattle.laws.proofs.ChooseLaws.{both_left, both_right, no_refusal}
use Rattle.numbers.proofs.RefusalLaws.{first_named}
use Rattle.aead.specs.Sealing.{key_ok}
use Rattle.aead.proofs.Lengths.{key_ok_lem, key_24}
use Rattle.block.specs.Image.{capacity_of, size_ok, image_ok, image_then_key}

-- 4 to 128 whole blocks
pub record ImageSized (image : List ℕ) : Type 0 where
  pub blocks : length image ≡ 512 * capacity_of image
  pub least : 4 ≤ capacity_of image
  pub most : capacity_of image ≤ 128

pub image_sized : (image : List ℕ) → image_ok image ≡ true → ImageSized image
unfolding image_ok size_ok capacity_of
image_sized image e =
    let n = length image in
    let a : n % 512 ≡ 0 = eqb-true (n % 512) 0 (both_left (eqb (n % 512) 0) (leb 2048 n && leb n 65536) e) in
    let f = both_right (eqb (n % 512) 0) (leb 2048 n && leb n 65536) e in
    let b : 2048 ≤ n = leb-true 2048 n (both_left (leb 2048 n) (leb n 65536) f) in
    let d : n ≤ 65536 = leb-true n 65536 (both_right (leb 2048 n) (leb n 65536) f) in
    record { blocks = omega arith; least = omega arith; most = omega arith }

-- ---- image, then key
pub record Asked (key image : List ℕ) : Type 0 where
  pub image_holds : image_ok image ≡ true
  pub key24 : length key ≡ 24

module _ (key image : List ℕ) where
  -- a refusal is the same whatever comes after
  pub asks_refused : (rest : ℕ) → (image_then_key key image 0 ≡ 0 → ⊥) → image_then_key key image rest ≡ image_then_key key image 0
  unfolding image_then_key
  asks_refused rest = go (image_ok image) (key_ok key)
    where
      go : (a b : Bool) → (first_of a 1 (first_of b 2 0) ≡ 0 → ⊥) → first_of a 1 (first_of b 2 rest) ≡ first_of a 1 (first_of b 2 0)
      go false b n = refl
      go true false n = refl
      go true true n = absurd (n refl)

  -- with none the rest decides
  pub asks_rest : Asked key image → (rest : ℕ) → image_then_key key image rest ≡ rest
  unfolding image_then_key
  asks_rest a rest = rw (a.image_holds, key_ok_lem key a.key24)

  pub asked : (rest : ℕ) → image_then_key key image rest ≡ 0 → Asked key image × (rest ≡ 0)
  unfolding image_then_key
  asked rest e =
      let a = no_refusal (image_ok image) 0 _ e in
      let b = no_refusal (key_ok key) 1 rest a.1 in
      (record { image_holds = a.0; key24 = key_24 key b.0 }, b.1)

  -- what it gives is 0 or the number of a cause, where the rest is
  pub asks_named : (rest : ℕ) → rest ≤ 9 → image_then_key key image rest ≤ 9
  unfolding image_then_key
  asks_named rest h = first_named (image_ok image) 1 _ (omega arith) (first_named (key_ok key) 2 rest (omega arith) h)
