-- A read, and the walk (FORMAT, "Reading"), over what the places of a cartridge of c blocks show.
use Rattle.std.specs.Prelude.{Bool, true, false, List, [], ◌∷◌, ◌++◌, ℕ, zero, suc, ◌-◌, min, ltb}
use Rattle.laws.specs.Choose.{pick}
use Rattle.block.specs.Content.{Content, shut, more, head, Head, first, mark, eod}
use Rattle.block.specs.Image.{View}

-- an outcome, a record with its bytes
pub data Told : Type 0 where
  Record : List ℕ → Told
  Mark End Bad Stray : Told
  Cut : ℕ → Told

-- by the outcome: the first for Mark, the second for End, the third for any other
abbrev pub mark_or_end : {A : Type 0} → Told → A → A → A → A
mark_or_end (Record b) m e other = other
mark_or_end Mark m e other = m
mark_or_end End m e other = e
mark_or_end Bad m e other = other
mark_or_end Stray m e other = other
mark_or_end (Cut q) m e other = other

pub record Answer : Type 0 where
  pub told : Told
  pub next : ℕ

abbrev pub answer : Told → ℕ → Answer
answer t n = record { told = t; next = n }

-- ---- inside a record. Block q shows `o`; `before` are the bytes before it, `on` goes on with the block after it
abbrev pub inside : Content → ℕ → List ℕ → (List ℕ → Answer) → Answer
inside shut q before on = answer (Cut q) (suc q)
inside (more true b) q before on = answer (Record (before ++ b)) (suc q)
inside (more false b) q before on = on (before ++ b)
inside (head h) q before on = answer (Cut q) q

-- the rest of a record from block q on, where `room` more blocks may belong to it
unfoldable pub gather : ℕ → View → ℕ → List ℕ → Answer
gather zero v q before = answer (Cut q) q
gather (suc room) v q before = inside (v q) q before (λ b. gather room v (suc q) b)

-- ---- between records. Block p shows `o`; a record has at most 64 blocks
abbrev pub begins : Head → View → ℕ → ℕ → Answer
begins (first true b) v c p = answer (Record b) (suc p)
begins (first false b) v c p = gather (min (c - suc p) 63) v (suc p) b
begins mark v c p = answer Mark (suc p)
begins eod v c p = answer End p

abbrev pub between : Content → View → ℕ → ℕ → Answer
between shut v c p = answer Bad (suc p)
between (more l b) v c p = answer Stray (suc p)
between (head h) v c p = begins h v c p

-- a read at p
unfoldable pub read_at : View → ℕ → ℕ → Answer
read_at v c p = between (v p) v c p

-- ---- the walk: reads that begin at 0, follow next, and stop after End or at next = c
abbrev pub is_end : Told → Bool
is_end t = mark_or_end t false true false

-- an answer, with the place where it was asked for
pub record Visit : Type 0 where
  pub at : ℕ
  pub says : Told

abbrev pub visit : ℕ → Told → Visit
visit p t = record { at = p; says = t }

-- n reads at most, from p on; c of them are enough from 0
unfoldable pub walk_from : ℕ → View → ℕ → ℕ → List Visit
walk_from zero v c p = []
walk_from (suc n) v c p =
    pick (ltb p c) (visit p (read_at v c p).told ∷ pick (is_end (read_at v c p).told) [] (walk_from n v c (read_at v c p).next)) []

unfoldable pub walk : View → ℕ → List Visit
walk v c = walk_from c v c 0
