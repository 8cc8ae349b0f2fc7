-- Eight words, each below 2^64, are known by their 64 bytes, and so by the state whose planes they are.
-- Assumes nothing.
use mathlib.Core.Path.{◌≡◌, sym, ap, ap₂, ◌∙◌}
use mathlib.Core.List.{List, [], ◌∷◌}
use Prim.Native.Nat.{ℕ, zero, suc, ◌+◌, ◌*◌, ◌/◌, ◌%◌, ◌^◌, ◌<◌}
use native.Mathlib.Nat.{mod-one, mod-eq_of_lt}
use native.Mathlib.Omega.{arith}
use lib.Dec.{lit<}
use lib.ListN.{length, get_or}
use lib.Pow.{mod-pow-add}
use lib.Seq.{ext_get_or}
use mir.Val.{Val}
use denote.Array.{each}
use denote.Builtin.{u64}
use denote.Laws.{Is}
use denote.Shadow.{shadow}
use Rattle.planes.specs.Planes.{flipped, word, bytes_of}
use Rattle.planes.specs.declared.Planes.{Planes}
use Rattle.planes.proofs.RowLaws.{word_at}
use Rattle.planes.specs.contracts.Planes.{the_row}
use Rattle.planes.proofs.FlipLaws.{flip_flip, bytes_of_full, bytes_of_at}

-- ---- a number by its lowest n bytes
byte_on_top : (n x : ℕ) → x % 2 ^ (8 * suc n) ≡ x / 2 ^ (8 * n) % 256 * 2 ^ (8 * n) + x % 2 ^ (8 * n)
byte_on_top n x = let e : 8 * suc n ≡ 8 + 8 * n = omega arith in ap (λ (m : ℕ). x % 2 ^ m) e ∙ mod-pow-add x 8 (8 * n)

same_low : (n x y : ℕ) → ((j : ℕ) → j < n → x / 2 ^ (8 * j) % 256 ≡ y / 2 ^ (8 * j) % 256) → x % 2 ^ (8 * n) ≡ y % 2 ^ (8 * n)
same_low zero x y e = mod-one x ∙ sym (mod-one y)
same_low (suc n) x y e =
    byte_on_top n x
    ∙ ap₂ (λ (h l : ℕ). h * 2 ^ (8 * n) + l) (e n (omega arith)) (same_low n x y (λ j h. e j (omega arith)))
    ∙ sym (byte_on_top n y)

same_word : (x y : ℕ) → x < 2 ^ 64 → y < 2 ^ 64 → ((j : ℕ) → j < 8 → x / 2 ^ (8 * j) % 256 ≡ y / 2 ^ (8 * j) % 256) → x ≡ y
same_word x y hx hy e = sym (mod-eq_of_lt hx) ∙ same_low 8 x y e ∙ mod-eq_of_lt hy

-- ---- eight words
pub record Words (p : Planes) : Type 0 where
  pub long : length p.words ≡ 8
  pub below : (i : ℕ) → word p i < 2 ^ 64

each_below : (l : List ℕ) (us : List Val) → shadow (each ℕ u64.own_val l us) → (i : ℕ) → get_or l i 0 < 2 ^ 64
each_below [] us s i = lit< tt
each_below (x ∷ l) [] s i = absurd s
each_below (x ∷ l) (u ∷ us) s zero = s.0.1
each_below (x ∷ l) (u ∷ us) s (suc i) = each_below l us s.1 i

-- what the type says of a value
pub fit : (p : Planes) (vs : List Val) → Is the_row p vs → Words p
unfolding word
fit p vs u =
    let t = u.1.1.0.1 in
    record { long = t.0.1; below = λ i. each_below p.words _ t.1 _ }

module _ (p q : Planes) (u : Words p) (v : Words q) where
  each_same : bytes_of p ≡ bytes_of q → (i : ℕ) → i < 8 → word p i ≡ word q i
  each_same e i h =
      same_word (word p i) (word q i) (u.below i) (v.below i)
      (λ j l. sym (bytes_of_at p i j h l) ∙ ap (λ t. get_or t (8 * i + j) 0) e ∙ bytes_of_at q i j h l)

  pub same_words : bytes_of p ≡ bytes_of q → p ≡ q
  same_words e =
      let s : p.words ≡ q.words =
      ext_get_or 0 p.words q.words (u.long ∙ sym v.long) (λ i h.
      let l : i < 8 = omega (arith, u.long) in
      sym (word_at p i) ∙ each_same e i l ∙ word_at q i) in
      λ k. record { words = s k }

  pub same_flipped : flipped (bytes_of p) ≡ flipped (bytes_of q) → p ≡ q
  same_flipped e = same_words (sym (flip_flip (bytes_of p) (bytes_of_full p)) ∙ ap flipped e ∙ flip_flip (bytes_of q) (bytes_of_full q))
