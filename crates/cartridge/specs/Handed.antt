-- What a walk hands out: records and marks, each with its place.
use Rattle.std.specs.Prelude.{List, [], ◌∷◌, ◌++◌, ℕ}
use Rattle.writer.specs.Items.{Item, rec, fmark}
use Rattle.reader.specs.Walk.{Told, Record, Mark, End, Bad, Stray, Cut, Visit}

pub record Handed : Type 0 where
  pub place : ℕ
  pub item : Item

abbrev pub hand : ℕ → Item → Handed
hand p i = record { place = p; item = i }

-- an answer at p
abbrev pub hands_out : ℕ → Told → List Handed
hands_out p (Record b) = hand p (rec b) ∷ []
hands_out p Mark = hand p fmark ∷ []
hands_out p End = []
hands_out p Bad = []
hands_out p Stray = []
hands_out p (Cut q) = []

-- the answers of a walk
abbrev pub handed : List Visit → List Handed
handed [] = []
handed (x ∷ xs) = hands_out x.at x.says ++ handed xs
