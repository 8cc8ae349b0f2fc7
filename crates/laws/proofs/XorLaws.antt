-- Xor: its group laws, bytes, and sums of many.
-- Assumes nothing.
use mathlib.Core.Path.{◌≡◌, refl, sym, ap, ap₂, ◌∙◌}
use Prim.Native.Nat.{ℕ, zero, suc, ◌+◌, ◌*◌, ◌/◌, ◌%◌, ◌<◌, suc-le-suc, zero-le}
use native.Mathlib.Nat.{mod-lt}
use lib.Dec.{lit<}
use lib.Arith.{bin_ind}
use lib.Bits.{bit_xor, differ, xor_step, xor_shr, xor_mod, xor_comm, xor_self, xor_zero_r, xor_lt}
use Rattle.laws.specs.Xor.{xor, xor_all}
use Rattle.laws.proofs.OrderLaws.{below2}

bits : (x y z : ℕ) → x < 2 → y < 2 → z < 2 → differ (bit_xor x y) z ≡ differ x (bit_xor y z)
bits x y z hx hy hz =
    below2 (λ (x : ℕ). differ (bit_xor x y) z ≡ differ x (bit_xor y z))
    (below2 (λ (y : ℕ). differ y z ≡ bit_xor y z)
    refl
    (below2 (λ (z : ℕ). differ 1 z ≡ bit_xor 1 z) refl refl z hz)
    y hy)
    (below2 (λ (y : ℕ). differ (bit_xor 1 y) z ≡ differ 1 (bit_xor y z))
    refl
    (below2 (λ (z : ℕ). differ (bit_xor 1 1) z ≡ differ 1 (bit_xor 1 z)) refl refl z hz)
    y hy)
    x hx

pub low : (n : ℕ) → n % 2 < 2
low n = mod-lt n (lit< tt)

assoc : (a b c : ℕ) → bit_xor (bit_xor a b) c ≡ bit_xor a (bit_xor b c)
assoc a =
    bin_ind (λ (n : ℕ). (b c : ℕ) → bit_xor (bit_xor n b) c ≡ bit_xor n (bit_xor b c))
    (λ b c. refl)
    (λ n ih b c.
    xor_step (bit_xor n b) c
    ∙ ap₂ (λ (x y : ℕ). x * 2 + y)
    (ap (λ (x : ℕ). bit_xor x (c / 2)) (xor_shr n b 1) ∙ ih (b / 2) (c / 2) ∙ ap (λ (x : ℕ). bit_xor (n / 2) x) (sym (xor_shr b c 1)))
    (ap (λ (x : ℕ). differ x (c % 2)) (xor_mod n b 1) ∙ bits (n % 2) (b % 2) (c % 2) (low n) (low b) (low c) ∙ ap (λ (x : ℕ). differ (n % 2) x) (sym (xor_mod b c 1)))
    ∙ sym (xor_step n (bit_xor b c)))
    a

pub xor_assoc : (a b c : ℕ) → xor (xor a b) c ≡ xor a (xor b c)
unfolding xor
xor_assoc a b c = assoc a b c

pub xor_swap : (a b : ℕ) → xor a b ≡ xor b a
unfolding xor
xor_swap a b = xor_comm a b

pub xor_left : (a b c : ℕ) → xor a (xor b c) ≡ xor b (xor a c)
xor_left a b c = sym (xor_assoc a b c) ∙ ap (λ (x : ℕ). xor x c) (xor_swap a b) ∙ xor_assoc b a c

pub xor_zero : (a : ℕ) → xor a 0 ≡ a
unfolding xor
xor_zero a = xor_zero_r a

pub zero_xor : (a : ℕ) → xor 0 a ≡ a
unfolding xor
zero_xor a = refl

pub xor_same : (a : ℕ) → xor a a ≡ 0
unfolding xor
xor_same a = xor_self a

pub ruleset ac = (xor_assoc, xor_swap, xor_left)

-- what is added twice is gone
pub xor_undone : (a b : ℕ) → xor (xor a b) b ≡ a
xor_undone a b = xor_assoc a b b ∙ ap (xor a) (xor_same b) ∙ xor_zero a

pub xor_back : (a b : ℕ) → xor a (xor a b) ≡ b
xor_back a b = xor_swap a (xor a b) ∙ ap (λ (x : ℕ). xor x a) (xor_swap a b) ∙ xor_undone b a

pub xor_byte : (a b : ℕ) → a < 256 → b < 256 → xor a b < 256
unfolding xor
xor_byte a b ha hb = xor_lt 8 a b ha hb

-- ---- sums by xor: term by term, of sums, in either order, one more at the end
pub all_same : (n : ℕ) (f g : ℕ → ℕ) → ((i : ℕ) → i < n → f i ≡ g i) → xor_all n f ≡ xor_all n g
unfolding xor_all
all_same zero f g e = refl
all_same (suc n) f g e = ap₂ xor (e 0 (suc-le-suc zero-le)) (all_same n (λ i. f (suc i)) (λ i. g (suc i)) (λ i h. e (suc i) (suc-le-suc h)))

pub all_zero_lem : (n : ℕ) → xor_all n (λ i. 0) ≡ 0
unfolding xor_all
all_zero_lem zero = refl
all_zero_lem (suc n) = ap (xor 0) (all_zero_lem n) ∙ zero_xor 0

pub all_sum : (n : ℕ) (f g : ℕ → ℕ) → xor_all n (λ i. xor (f i) (g i)) ≡ xor (xor_all n f) (xor_all n g)
unfolding xor_all
all_sum zero f g = sym (zero_xor 0)
all_sum (suc n) f g = rw (all_sum n (λ i. f (suc i)) (λ i. g (suc i))) (simp ac)

pub all_swap : (n m : ℕ) (f : ℕ → ℕ → ℕ) → xor_all n (λ i. xor_all m (λ j. f i j)) ≡ xor_all m (λ j. xor_all n (λ i. f i j))
unfolding xor_all
all_swap zero m f = sym (all_zero_lem m)
all_swap (suc n) m f =
    ap (xor (xor_all m (λ j. f 0 j))) (all_swap n m (λ i j. f (suc i) j))
    ∙ sym (all_sum m (λ j. f 0 j) (λ j. xor_all n (λ i. f (suc i) j)))

pub all_byte : (n : ℕ) (f : ℕ → ℕ) → ((i : ℕ) → f i < 256) → xor_all n f < 256
unfolding xor_all
all_byte zero f h = lit< tt
all_byte (suc n) f h = xor_byte (f 0) (xor_all n (λ i. f (suc i))) (h 0) (all_byte n (λ i. f (suc i)) (λ i. h (suc i)))
