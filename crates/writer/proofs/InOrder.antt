-- Items one behind another: how many blocks they take, one item more, and the payloads that make up a record.
-- Assumes nothing.
use mathlib.Core.Path.{◌≡◌, refl, sym}
use mathlib.Core.List.{List, [], ◌∷◌, ◌++◌, append-nil, append_assoc}
use Prim.Native.Nat.{ℕ, zero, suc, ◌+◌, ◌*◌, ◌≤◌}
use native.Mathlib.Nat.{add-zero, zero-add}
use native.Mathlib.Omega.{arith}
use lib.ListN.{length, drop, length-append, length-drop, take-append-drop}
use Rattle.writer.specs.Items.{Item, rec, fmark, blocks_for, size, pieces, blocks, layout, sizes, file_marks, file_marks_in}
use Rattle.writer.proofs.Pieces.{length_pieces, length_blocks}
use Rattle.writer.proofs.Ready.{Lengthy, Sound, AllSound}

pub length_layout : (is : List Item) → length (layout is) ≡ sizes is
length_layout [] = refl
length_layout (i ∷ is) = rw (length-append, length_blocks, length_layout is)

-- ---- one item more
pub sizes_snoc : (is : List Item) (i : Item) → sizes (is ++ (i ∷ [])) ≡ sizes is + size i
sizes_snoc [] i = simp (add-zero, zero-add)
sizes_snoc (j ∷ is) i = rw (sizes_snoc is i) (omega arith)

pub layout_snoc : (is : List Item) (i : Item) → layout (is ++ (i ∷ [])) ≡ layout is ++ blocks i
layout_snoc [] i = append-nil (blocks i)
layout_snoc (j ∷ is) i = rw (layout_snoc is i) (sym (append_assoc (blocks j) (layout is) (blocks i)))

pub sound_snoc : (is : List Item) (i : Item) → AllSound is → Sound i → AllSound (is ++ (i ∷ []))
sound_snoc [] i h k = (k, tt)
sound_snoc (j ∷ is) i h k = (h.0, sound_snoc is i h.1 k)

pub marks_snoc : (is : List Item) (i : Item) → file_marks_in (is ++ (i ∷ [])) ≡ file_marks_in is + file_marks i
marks_snoc [] i = simp (add-zero, zero-add)
marks_snoc (j ∷ is) i = rw (marks_snoc is i) (omega arith)

-- ---- no more file marks than blocks
pub marks_fit : (i : Item) → file_marks i ≤ size i
marks_fit (rec b) = omega arith
marks_fit fmark = omega arith

pub all_marks_fit : (is : List Item) → file_marks_in is ≤ sizes is
all_marks_fit [] = omega arith
all_marks_fit (i ∷ is) = let a = marks_fit i in let b = all_marks_fit is in omega arith

pub size_pos : (i : Item) → Sound i → 1 ≤ size i
size_pos (rec b) d = d.some
size_pos fmark d = omega arith

-- ---- a record's payloads: one at least and 64 at the most, and together they are the record
abbrev pub joined_up : List (List ℕ) → List ℕ
joined_up [] = []
joined_up (x ∷ xs) = x ++ joined_up xs

pieces_joined : (k : ℕ) (b : List ℕ) → length b ≤ 488 * k → joined_up (pieces k b) ≡ b
unfolding pieces
pieces_joined zero [] h = refl
pieces_joined zero (x ∷ b) h = absurd (omega arith)
pieces_joined (suc k) b h = rw (pieces_joined k (drop 488 b) (simp length-drop (omega arith))) (take-append-drop 488 b)

pub record Cutting (b : List ℕ) (xs : List (List ℕ)) : Type 0 where
  pub joined : joined_up xs ≡ b
  pub count : length xs ≡ size (rec b)
  pub some : 1 ≤ length xs
  pub few : length xs ≤ 64

pub cutting : (b : List ℕ) → Lengthy b → Cutting b (pieces (size (rec b)) b)
unfolding blocks_for
cutting b d =
    let l = length_pieces (size (rec b)) b in
    let s = d.some in
    let f = d.few in
    record { joined = pieces_joined (size (rec b)) b (omega arith); count = l; some = omega arith; few = omega arith }
