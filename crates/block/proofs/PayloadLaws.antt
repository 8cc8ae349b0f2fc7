-- The payload of a block: 488 bytes, the unused ones zero.
-- Assumes nothing.
use mathlib.Core.Path.{◌≡◌, refl, sym, ap, ◌∙◌}
use mathlib.Core.Bool.{true}
use mathlib.Core.List.{List, [], ◌++◌}
use Prim.Native.Nat.{ℕ, ◌+◌, ◌-◌, ◌≤◌}
use native.Mathlib.Nat.{zero-add}
use native.Mathlib.Omega.{arith}
use lib.ListN.{length, take, drop, replicate, length-append, length-replicate, length-drop, take-append-drop}
use lib.Seq.{take_all, take-append-add, length-take-le, drop_at}
use Rattle.laws.specs.Lists.{splice}
use Rattle.laws.proofs.ListLaws.{take_zeros, drop_zeros}
use Rattle.block.specs.Format.{payload, all_zero}
use Rattle.block.proofs.ZeroLaws.{zeros_pass, passes_zeros}

-- ---- of any length n: b and zeros behind it
padded_is : (n : ℕ) (b : List ℕ) → length b ≤ n → take n (b ++ replicate n 0) ≡ b ++ replicate (n - length b) 0
padded_is n b h =
    let e : n ≡ length b + (n - length b) = omega arith in
    let f : n ≡ (n - length b) + length b = omega arith in
    ap (λ (k : ℕ). take k (b ++ replicate n 0)) e
    ∙ take-append-add b (replicate n 0) (n - length b)
    ∙ ap (λ (k : ℕ). b ++ take (n - length b) (replicate k 0)) f
    ∙ ap (λ (r : List ℕ). b ++ r) (take_zeros (n - length b) (length b))

padded_laid : (n : ℕ) (b : List ℕ) → length b ≤ n → splice (replicate n 0) 0 b ≡ b ++ replicate (n - length b) 0
unfolding splice
padded_laid n b h =
    let e : n ≡ length b + (n - length b) = omega arith in
    ap (λ (k : ℕ). b ++ drop k (replicate n 0)) (zero-add (length b))
    ∙ ap (λ (k : ℕ). b ++ drop (length b) (replicate k 0)) e
    ∙ ap (λ (r : List ℕ). b ++ r) (drop_zeros (length b) (n - length b))

padded_back : (n : ℕ) (m : List ℕ) (k : ℕ) → length m ≡ n → k ≤ n → all_zero (drop k m) ≡ true → take n (take k m ++ replicate n 0) ≡ m
padded_back n m k h l e =
    let t : length (take k m) ≡ k = length-take-le k m (omega arith) in
    let d : length (drop k m) ≡ n - length (take k m) = length-drop k m ∙ omega arith in
    padded_is n (take k m) (omega arith)
    ∙ ap (λ (r : List ℕ). take k m ++ r) (ap (λ (j : ℕ). replicate j 0) (sym d) ∙ sym (passes_zeros (drop k m) e))
    ∙ take-append-drop k m

-- ---- of 488
pub length_payload : (b : List ℕ) → length (payload b) ≡ 488
unfolding payload
length_payload b = length-take-le 488 (b ++ replicate 488 0) (omega (arith, length-append b (replicate 488 0), length-replicate {A = ℕ} 488 0))

pub payload_is : (b : List ℕ) → length b ≤ 488 → payload b ≡ b ++ replicate (488 - length b) 0
unfolding payload
payload_is b h = padded_is 488 b h

-- where nothing is used it is zeros
pub payload_nil : payload [] ≡ replicate 488 0
unfolding payload
payload_nil = take_zeros 488 0

-- the bytes laid over zeros
pub payload_laid : (b : List ℕ) → length b ≤ 488 → splice (replicate 488 0) 0 b ≡ payload b
payload_laid b h = padded_laid 488 b h ∙ sym (payload_is b h)

pub payload_copied : (b : List ℕ) {m : List ℕ} → length b ≤ 488 → m ≡ splice (replicate 488 0) 0 (take (length (replicate {A = ℕ} 488 0)) b) → m ≡ payload b
payload_copied b h e =
    e
    ∙ ap (λ (k : ℕ). splice (replicate 488 0) 0 (take k b)) (length-replicate {A = ℕ} 488 0)
    ∙ ap (splice (replicate 488 0) 0) (take_all 488 b h)
    ∙ payload_laid b h

-- behind the bytes there is nothing but zeros
pub payload_rest : (b : List ℕ) → length b ≤ 488 → all_zero (drop (length b) (payload b)) ≡ true
payload_rest b h = rw (payload_is b h, drop_at b (replicate (488 - length b) 0) (length b) refl) (zeros_pass (488 - length b))

-- 488 bytes that are zero from k on are the payload of the first k
pub payload_back : (m : List ℕ) (k : ℕ) → length m ≡ 488 → k ≤ 488 → all_zero (drop k m) ≡ true → payload (take k m) ≡ m
unfolding payload
payload_back m k h l e = padded_back 488 m k h l e
