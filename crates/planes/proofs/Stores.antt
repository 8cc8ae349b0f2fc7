-- Eight words, each stored byte by byte behind the one before, are the planes' 64 bytes.
-- Assumes nothing.
use mathlib.Core.Path.{◌≡◌, refl, sym, ap, ap₂, subst, ◌∙◌}
use mathlib.Core.List.{List}
use mathlib.Core.Logic.{⊎_elim}
use Prim.Native.Nat.{ℕ, ◌+◌, ◌*◌, ◌/◌, ◌%◌, ◌^◌, ◌<◌}
use native.Mathlib.Nat.{div-one, not-suc-le-zero}
use native.Mathlib.Omega.{arith}
use lib.Dec.{lit<}
use lib.ListN.{length, get_or, set, length-set}
use lib.Seq.{get_or-set_same, get_or-set_other}
use Rattle.laws.proofs.OrderLaws.{lt_or_ge}
use Rattle.planes.specs.Planes.{word, bytes_of}
use Rattle.planes.specs.Packing.{stored}
use Rattle.planes.specs.declared.Planes.{Planes}
use Rattle.planes.proofs.RowLaws.{There, Put, put_all}

-- ---- a word's bytes, one by one
pub stored_is : (s : List ℕ) (at w : ℕ) {a b c d e f g h : ℕ}
    → a ≡ w % 256 → b ≡ w / 2 ^ 8 % 256 → c ≡ w / 2 ^ 16 % 256 → d ≡ w / 2 ^ 24 % 256 → e ≡ w / 2 ^ 32 % 256 → f ≡ w / 2 ^ 40 % 256 → g ≡ w / 2 ^ 48 % 256 → h ≡ w / 2 ^ 56 % 256
    → set (set (set (set (set (set (set (set s at a) (at + 1) b) (at + 2) c) (at + 3) d) (at + 4) e) (at + 5) f) (at + 6) g) (at + 7) h ≡ stored s at w
unfolding stored
stored_is s at w ea eb ec ed ee ef eg eh = cc

-- ---- byte m of word i behind the bytes before it, and so eight of them, a word
there_more : (p : Planes) (s : List ℕ) (m : ℕ) {i k n v : ℕ} → i < 8 → m < 8 → k ≡ 8 * i + m → n ≡ k + 1 → v ≡ word p i / 2 ^ (8 * m) % 256
    → There p k s → There p n (set s k v)
there_more p s m {i} {k} {n} {v} h hm e f g q = (
  length-set s k v ∙ q.0,
  λ j l.
      ⊎_elim
      (λ o. q.1 j o ∙ sym (get_or-set_other s k j v 0 (λ x. omega arith)))
      (λ o.
      let d : (j / 8 ≡ i) × (j % 8 ≡ m) = (omega arith, omega arith) in
      let x : j ≡ k = omega arith in
      ap₂ (λ (a b : ℕ). word p a / 2 ^ (8 * b) % 256) d.0 d.1 ∙ sym g
      ∙ sym (ap (λ (y : ℕ). get_or (set s k v) y 0) x ∙ get_or-set_same s k v 0 (omega (arith, q.0))))
      (lt_or_ge j k),
)

pub put_stored : (p : Planes) (n : ℕ) (s t : List ℕ) → n < 8 → t ≡ stored s (8 * n) (word p n) → Put p n s → Put p (n + 1) t
unfolding stored
put_stored p n s t h e q =
    subst (Put p (n + 1)) (sym e)
    (there_more p _ 7 h (lit< tt) refl (omega arith) refl
    (there_more p _ 6 h (lit< tt) refl (omega arith) refl
    (there_more p _ 5 h (lit< tt) refl (omega arith) refl
    (there_more p _ 4 h (lit< tt) refl (omega arith) refl
    (there_more p _ 3 h (lit< tt) refl (omega arith) refl
    (there_more p _ 2 h (lit< tt) refl (omega arith) refl
    (there_more p _ 1 h (lit< tt) refl (omega arith) refl
    (there_more p _ 0 h (lit< tt) (omega arith) (omega arith) (ap (λ (y : ℕ). y % 256) (sym (div-one (word p n)))) q))))))))

-- ---- eight words
pub put_words_is : (p : Planes) (s s₁ s₂ s₃ s₄ s₅ s₆ s₇ s₈ : List ℕ) → length s ≡ 64
    → s₁ ≡ stored s 0 (word p 0) → s₂ ≡ stored s₁ 8 (word p 1) → s₃ ≡ stored s₂ 16 (word p 2) → s₄ ≡ stored s₃ 24 (word p 3)
    → s₅ ≡ stored s₄ 32 (word p 4) → s₆ ≡ stored s₅ 40 (word p 5) → s₇ ≡ stored s₆ 48 (word p 6) → s₈ ≡ stored s₇ 56 (word p 7)
    → s₈ ≡ bytes_of p
put_words_is p s s₁ s₂ s₃ s₄ s₅ s₆ s₇ s₈ l e₁ e₂ e₃ e₄ e₅ e₆ e₇ e₈ =
    put_all p 8 s₈ (lit< tt)
    (put_stored p 7 s₇ s₈ (lit< tt) e₈
    (put_stored p 6 s₆ s₇ (lit< tt) e₇
    (put_stored p 5 s₅ s₆ (lit< tt) e₆
    (put_stored p 4 s₄ s₅ (lit< tt) e₅
    (put_stored p 3 s₃ s₄ (lit< tt) e₄
    (put_stored p 2 s₂ s₃ (lit< tt) e₃
    (put_stored p 1 s₁ s₂ (lit< tt) e₂
    (put_stored p 0 s s₁ (lit< tt) e₁ (l, λ k h. absurd (not-suc-le-zero h))))))))))
