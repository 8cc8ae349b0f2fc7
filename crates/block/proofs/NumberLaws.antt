-- Numbers, big-endian, read back from their bytes; the lengths of header and nonce.
-- Assumes nothing.
use mathlib.Core.Path.{◌≡◌, refl, sym, ap, ap₂, ◌∙◌}
use mathlib.Core.List.{List, [], ◌∷◌, ◌++◌}
use Prim.Native.Nat.{ℕ, ◌+◌, ◌*◌, ◌/◌, ◌%◌, ◌≤◌, ◌<◌}
use native.Mathlib.Nat.{div-div-eq-div-mul, div-add-mod', mod-eq_of_lt}
use native.Mathlib.Omega.{arith}
use lib.ListN.{length, get_or, take}
use Rattle.laws.specs.Lists.{listed, AllBytes}
use Rattle.laws.proofs.ListLaws.{listed_own}
use Rattle.block.specs.Format.{be2, be4, number4, number2, nonce_at, header}

digits : (p a b c t r₂ r₁ r₀ : ℕ) → a * 256 + r₀ ≡ p → b * 256 + r₁ ≡ a → c * 256 + r₂ ≡ b → t ≡ c → t * 16777216 + r₂ * 65536 + r₁ * 256 + r₀ ≡ p
digits p a b c t r₂ r₁ r₀ h i j k = omega arith

-- four bytes hold a number below 2³², two one below 2¹⁶
pub four_hold : (p : ℕ) → p < 4294967296 → p / 16777216 % 256 * 16777216 + p / 65536 % 256 * 65536 + p / 256 % 256 * 256 + p % 256 ≡ p
four_hold p h =
    digits p (p / 256) (p / 65536) (p / 16777216) (p / 16777216 % 256) (p / 65536 % 256) (p / 256 % 256) (p % 256) (div-add-mod' p 256)
    (ap (λ (x : ℕ). x * 256 + p / 256 % 256) (sym (div-div-eq-div-mul p 256 256)) ∙ div-add-mod' (p / 256) 256)
    (ap (λ (x : ℕ). x * 256 + p / 65536 % 256) (sym (div-div-eq-div-mul p 65536 256)) ∙ div-add-mod' (p / 65536) 256)
    (mod-eq_of_lt (omega arith))

pub two_hold : (n : ℕ) → n < 65536 → n / 256 % 256 * 256 + n % 256 ≡ n
two_hold n h = omega arith

pub length_nonce : (id recording p : ℕ) → length (nonce_at id recording p) ≡ 16
unfolding nonce_at
length_nonce id recording p = refl

-- ---- the fields of a header, whatever stands behind it
module _ (p kind last used : ℕ) (t : List ℕ) where
  pub length_header : length (header p kind last used) ≡ 8
  unfolding header
  length_header = refl

  pub header_number : p < 4294967296 → number4 (header p kind last used ++ t) 0 ≡ p
  unfolding header
  header_number h = four_hold p h

  pub header_kind : get_or (header p kind last used ++ t) 4 0 ≡ kind
  unfolding header
  header_kind = refl

  pub header_last : get_or (header p kind last used ++ t) 5 0 ≡ last
  unfolding header
  header_last = refl

  pub header_used : used < 65536 → number2 (header p kind last used ++ t) 6 ≡ used
  unfolding header
  header_used h = two_hold used h

-- ---- and of any 8 bytes: the header of what they say
four_back : (a b c d : ℕ) → a < 256 → b < 256 → c < 256 → d < 256
    → be4 (a * 16777216 + b * 65536 + c * 256 + d) ≡ a ∷ b ∷ c ∷ d ∷ []
four_back a b c d ha hb hc hd =
    let n = a * 16777216 + b * 65536 + c * 256 + d in
    let e₃ : n / 16777216 % 256 ≡ a = omega arith in
    let e₂ : n / 65536 % 256 ≡ b = omega arith in
    let e₁ : n / 256 % 256 ≡ c = omega arith in
    let e₀ : n % 256 ≡ d = omega arith in
    rw (e₃, e₂, e₁, e₀)

two_back : (a b : ℕ) → a < 256 → b < 256 → be2 (a * 256 + b) ≡ a ∷ b ∷ []
two_back a b ha hb =
    let e₁ : (a * 256 + b) / 256 % 256 ≡ a = omega arith in
    let e₀ : (a * 256 + b) % 256 ≡ b = omega arith in
    rw (e₁, e₀)

pub header_back : (b : List ℕ) → AllBytes b → 8 ≤ length b
    → header (number4 b 0) (get_or b 4 0) (get_or b 5 0) (number2 b 6) ≡ take 8 b
unfolding header listed
header_back b h l =
    ap₂ (λ (x y : List ℕ). x ++ (get_or b 4 0 ∷ get_or b 5 0 ∷ y))
    (four_back (get_or b 0 0) (get_or b 1 0) (get_or b 2 0) (get_or b 3 0) (h 0) (h 1) (h 2) (h 3))
    (two_back (get_or b 6 0) (get_or b 7 0) (h 6) (h 7))
    ∙ listed_own 8 b l
