-- Calls of the writer's `nb_` functions, one after the other: each is given the state that the last one returned.
use Rattle.std.specs.Prelude.{List, [], ◌∷◌, ℕ}
use Rattle.writer.specs.declared.Wrote.{Wrote}
use Rattle.cartridge.specs.Chain.{Call, call}
use Rattle.notchbadger.specs.declared.writing.NbState.{NbState}
use Rattle.notchbadger.specs.declared.writing.NbWrote.{NbWrote}
use Rattle.notchbadger.specs.FlatWriter.{state_of, flat_wrote, FlatDid}

-- the answers rs of the calls xs from a state and an image, and the state and image at the end
pub data NbWrites (key : List ℕ) : NbState → List ℕ → List Call → List NbWrote → NbState → List ℕ → Type 0 where
  last : {s : NbState} {image : List ℕ} → NbWrites key s image [] [] s image
  next : {s s'' : NbState} {image image' image'' : List ℕ} {x : Call} {xs : List Call} {r : NbWrote} {rs : List NbWrote}
      → FlatDid s key image (call key (state_of s) image x) r image' → NbWrites key r.state image' xs rs s'' image''
      → NbWrites key s image (x ∷ xs) (r ∷ rs) s'' image''

-- the writer's answers as they cross
abbrev pub all_flat : List Wrote → List NbWrote
all_flat [] = []
all_flat (w ∷ ws) = flat_wrote w ∷ all_flat ws
