-- Spacing over file marks (FORMAT, "Reading"; NUMBERS): read after read from a place, the marks among them counted.
use Rattle.std.specs.Prelude.{◌≡◌, List, ℕ, zero, suc, ◌+◌, ◌-◌, eqb, ltb, Ok, Err}
use Rattle.laws.specs.Choose.{pick, first_of}
use Rattle.numbers.specs.Refusals.{number_of, cause_of}
use Rattle.block.specs.Image.{View, capacity_of, image_then_key, view}
use Rattle.reader.specs.Walk.{mark_or_end, read_at}
use Rattle.survey.specs.declared.Spaced.{Spaced}
use Rattle.survey.specs.declared.Reach.TheVariants as reach

-- ---- the answers: at the place behind the marks; short of them, with the marks passed and the place of the end;
-- refused by the number n
abbrev pub spaced_at : ℕ → Spaced
spaced_at p = record { reach = Ok reach.There; position = p }

abbrev pub spaced_short : ℕ → ℕ → Spaced
spaced_short m p = record { reach = Ok (reach.Short m); position = p }

abbrev pub spaced_refused : ℕ → ℕ → Spaced
spaced_refused n p = record { reach = Err (cause_of n); position = p }

-- ---- spacing over n marks, with m passed: f reads at most
unfoldable pub space_from : ℕ → View → ℕ → ℕ → ℕ → ℕ → Spaced
space_from zero v c p n m = pick (eqb n 0) (spaced_at p) (spaced_short m p)
space_from (suc f) v c p n m =
    pick (eqb n 0) (spaced_at p)
    (pick (ltb p c)
    (mark_or_end (read_at v c p).told (space_from f v c (read_at v c p).next (n - 1) (m + 1)) (spaced_short m p) (space_from f v c (read_at v c p).next n m))
    (spaced_short m p))

unfoldable pub space_number : List ℕ → List ℕ → ℕ → ℕ
space_number key image p = image_then_key key image (first_of (ltb p (capacity_of image)) 8 0)

unfoldable pub spacing : List ℕ → ℕ → ℕ → List ℕ → ℕ → ℕ → Spaced
spacing key id recording image p n =
    pick (eqb (space_number key image p) 0)
    (space_from (capacity_of image - p) (view key id recording image) (capacity_of image) p n 0)
    (spaced_refused (space_number key image p) p)

pub record SpacedOver (key : List ℕ) (id recording : ℕ) (image : List ℕ) (p n : ℕ) (r : Spaced) : Type 0 where
  pub says : r ≡ spacing key id recording image p n
  pub number : number_of r.reach ≡ space_number key image p
