-- The lent buffer: a block opened into it, and zeros behind what is kept.
-- Assumes nothing.
use mathlib.Core.Path.{◌≡◌, refl, sym, ap, ◌∙◌}
use mathlib.Core.List.{List, ◌∷◌, ◌++◌, append_assoc}
use Prim.Native.Nat.{ℕ, zero, suc, ◌+◌, ◌-◌, ◌*◌, ◌≤◌}
use native.Mathlib.Nat.{zero-add, suc-add}
use native.Mathlib.Omega.{arith}
use lib.ListN.{length, take, drop, replicate, length-append, length-take, length-drop, length-replicate}
use lib.Seq.{take_at, take-take, drop-drop, length-take-le}
use Rattle.std.specs.Prelude.{Result, Ok}
use Rattle.laws.specs.Lists.{splice}
use Rattle.numbers.specs.declared.Refusal.{Refusal}
use Rattle.laws.proofs.ListLaws.{drop_behind}
use Rattle.laws.proofs.SpliceLaws.{splice_mid}
use Rattle.block.specs.declared.Seen.{Seen}
use Rattle.block.specs.Content.{Content, bytes_of}
use Rattle.block.specs.Format.{payload, open_block}
use Rattle.block.specs.Image.{block_at, view}
use Rattle.block.specs.Calls.{seen_of, OpenedAt}
use Rattle.block.proofs.OpenLaws.{may_open}
use Rattle.block.proofs.PayloadLaws.{length_payload}

-- ---- zeros
zeros_join : (n k : ℕ) → replicate {A = ℕ} n 0 ++ replicate k 0 ≡ replicate (n + k) 0
zeros_join zero k = rw zero-add
zeros_join (suc n) k = rw suc-add (ap (λ (l : List ℕ). 0 ∷ l) (zeros_join n k))

-- a part that comes back as zeros
pub zeros_back : (l : List ℕ) (k n : ℕ) {x : List ℕ} → k + n ≤ length l → x ≡ replicate (length (take n (drop k l))) 0
    → take k l ++ (x ++ drop n (drop k l)) ≡ splice l k (replicate n 0)
zeros_back l k n h e =
    let m : length (take n (drop k l)) ≡ n = length-take-le n (drop k l) (omega (arith, length-drop k l)) in
    ap (λ (y : List ℕ). take k l ++ (y ++ drop n (drop k l))) (e ∙ ap (λ (i : ℕ). replicate i 0) m)
    ∙ splice_mid l k n (replicate n 0) (length-replicate {A = ℕ} n 0)

-- ---- what is laid
pub drop_splice : (l : List ℕ) (at : ℕ) (x : List ℕ) (j : ℕ) → at ≤ length l → at + length x ≤ j → drop j (splice l at x) ≡ drop j l
unfolding splice
drop_splice l at x j h k =
    let n = length-take-le at l h in
    let e : at + length x + (j - (at + length x)) ≡ j = omega arith in
    drop_behind (take at l) x (drop (at + length x) l) j (j - (at + length x)) (omega arith)
    ∙ drop-drop (j - (at + length x)) (at + length x) l
    ∙ ap (λ (i : ℕ). drop i l) e

pub take_laid : (l : List ℕ) (at : ℕ) (x : List ℕ) (j : ℕ) → at ≤ length l → at + length x ≡ j → take j (splice l at x) ≡ take at l ++ x
unfolding splice
take_laid l at x j h k =
    let n = length-take-le at l h in
    ap (take j) (sym (append_assoc (take at l) x (drop (at + length x) l)))
    ∙ take_at (take at l ++ x) (drop (at + length x) l) j (length-append (take at l) x ∙ omega arith)

front_is : (l x : List ℕ) → splice l 0 x ≡ x ++ drop (0 + length x) l
unfolding splice
front_is l x = refl

-- a longer list laid over a shorter one
pub splice_over : (l x y : List ℕ) → length x ≤ length y → splice (splice l 0 x) 0 y ≡ splice l 0 y
splice_over l x y h =
    front_is (splice l 0 x) y ∙ ap (λ (t : List ℕ). y ++ t) (drop_splice l 0 x (0 + length y) (omega arith) (omega arith)) ∙ sym (front_is l y)

-- r and zeros, and zeros behind them
zeros_behind : (r t : List ℕ) (i j n : ℕ) → i + j ≡ n → (r ++ replicate i 0) ++ (replicate j 0 ++ t) ≡ (r ++ replicate n 0) ++ t
zeros_behind r t i j n e =
    append_assoc r (replicate i 0) (replicate j 0 ++ t)
    ∙ ap (λ (u : List ℕ). r ++ u) (sym (append_assoc (replicate i 0) (replicate j 0) t))
    ∙ sym (append_assoc r (replicate i 0 ++ replicate j 0) t)
    ∙ ap (λ (u : List ℕ). (r ++ u) ++ t) (zeros_join i j ∙ ap (λ (k : ℕ). replicate k 0) e)

-- zeros behind the first k bytes of b, which are r and zeros: r fills the front of b₀, zeros are behind it up to n
pub cleared : (n : ℕ) (b₀ b r : List ℕ) (k : ℕ) → length r ≤ k → k ≤ n → take k b ≡ r ++ replicate (k - length r) 0 → drop n b ≡ drop n b₀
    → splice b k (replicate (n - k) 0) ≡ splice b₀ 0 (r ++ replicate (n - length r) 0)
unfolding splice
cleared n b₀ b r k h m e f =
    let i : k + length (replicate {A = ℕ} (n - k) 0) ≡ n = omega (arith, length-replicate {A = ℕ} (n - k) 0) in
    let j : 0 + length (r ++ replicate (n - length r) 0) ≡ n = omega (arith, length-append r (replicate (n - length r) 0), length-replicate {A = ℕ} (n - length r) 0) in
    rw (e, i, f, j) (zeros_behind r (drop n b₀) (k - length r) (n - k) (n - length r) (omega arith))

-- ---- a block opened into its place
module _ (key : List ℕ) (id recording : ℕ) (image : List ℕ) (q : ℕ) {part out out' : List ℕ} {r : Result Seen Refusal} (hk : length key ≡ 24)
    (hi : q * 512 + 512 ≤ length image) (hp : part ≡ take (length image - 512 * q) (drop (512 * q) image)) (ho : length out ≡ 488)
    (c : OpenedAt key id recording q part out r out') where
  part_length : 512 ≤ length part
  part_length = rw hp (simp (length-take, length-drop) (omega arith))

  shown : open_block key id recording q (take 512 part) ≡ view key id recording image q
  unfolding view block_at
  shown = ap (λ (x : List ℕ). open_block key id recording q x) (ap (take 512) hp ∙ take-take 512 (length image - 512 * q) (drop (512 * q) image) (omega arith))

  pub opened_says : r ≡ Ok (seen_of (view key id recording image q))
  opened_says = c.says ∙ rw (may_open key part out hk part_length ho) (ap (λ (o : Content). Ok (seen_of o)) shown)

  opened_bytes : out' ≡ payload (bytes_of (view key id recording image q))
  opened_bytes = c.bytes ∙ rw (may_open key part out hk part_length ho) (ap (λ (o : Content). payload (bytes_of o)) shown)

  -- into n bytes of a buffer, from `at` on
  pub opened_leaves : (buffer : List ℕ) (at n : ℕ) → n ≡ 488 → take at buffer ++ (out' ++ drop n (drop at buffer)) ≡ splice buffer at (payload (bytes_of (view key id recording image q)))
  opened_leaves buffer at n hn =
      let y = payload (bytes_of (view key id recording image q)) in
      ap (λ (x : List ℕ). take at buffer ++ (x ++ drop n (drop at buffer))) {x = out'} {y = y} opened_bytes
      ∙ splice_mid buffer at n y (length_payload (bytes_of (view key id recording image q)) ∙ sym hn)
