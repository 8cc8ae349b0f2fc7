-- The state that comes back from an `nb_` call, given to the next one, is the state: a chain of `nb_` calls is a chain.
-- Assumes nothing.
use mathlib.Core.Path.{◌≡◌, refl, ap, ap₂, ◌∙◌, subst}
use mathlib.Core.Bool.{Bool, true, false}
use mathlib.Core.List.{List, [], ◌∷◌}
use Prim.Native.Nat.{ℕ}
use lib.Dec.{eqb, leb}
use Rattle.numbers.specs.Refusals.{number_of}
use Rattle.block.specs.Content.{flag}
use Rattle.writer.specs.declared.WriterState.{WriterState}
use Rattle.writer.specs.declared.Wrote.{Wrote}
use Rattle.writer.specs.Writing.{wrote_of}
use Rattle.writer.proofs.Rules.{write_says, close_says}
use Rattle.cartridge.specs.Chain.{Call, item, closing, call}
use Rattle.cartridge.specs.ByCalls as by-calls
use Rattle.cartridge.specs.ByCalls.{Writes}
use Rattle.notchbadger.specs.declared.writing.NbState.{NbState}
use Rattle.notchbadger.specs.declared.writing.NbWrote.{NbWrote}
use Rattle.notchbadger.specs.FlatWriter.{flat_state, state_of, flat_wrote, FlatDid}
use Rattle.notchbadger.specs.NbChain.{NbWrites, last, next, all_flat}

flag_back : (b : Bool) → eqb (flag b) 1 ≡ b
flag_back true = refl
flag_back false = refl

flag_small : (b : Bool) → leb (flag b) 1 ≡ true
flag_small true = refl
flag_small false = refl

-- out and in again
pub crosses_back : (s : WriterState) → state_of (flat_state s) ≡ s
crosses_back s = rw (flag_back s.closed)

-- a call on a state that came back answers as the writer's call on the state does
answers : {n : NbState} (s : WriterState) (key image : List ℕ) (x : Call) {r : NbWrote} {image' : List ℕ} → n ≡ flat_state s
    → FlatDid n key image (call key (state_of n) image x) r image'
    → let d = call key s image x in (r ≡ flat_wrote (wrote_of d)) × (image' ≡ d.image)
answers s key image x {r} {image'} e c =
    let f = subst (λ (m : NbState). FlatDid m key image (call key (state_of m) image x) r image') e c in
    let g = subst (λ (t : WriterState). FlatDid (flat_state s) key image (call key t image x) r image') (crosses_back s) f in
    (g.says ∙ rw (flag_small s.closed), g.leaves ∙ rw (flag_small s.closed))

call_number_lem : (key : List ℕ) (s : WriterState) (image : List ℕ) (x : Call) → number_of (call key s image x).reply ≡ (call key s image x).number
call_number_lem key s image (item i) = write_says s key image i
call_number_lem key s image closing = close_says s key image

-- the chain of calls that a chain of `nb_` calls is
pub record AsWritten (key : List ℕ) (s : WriterState) (image : List ℕ) (xs : List Call) (rs : List NbWrote) (n'' : NbState) (image'' : List ℕ)
    : Type 0 where
  pub ws : List Wrote
  pub s'' : WriterState
  pub writes : Writes key s image xs ws s'' image''
  pub says : rs ≡ all_flat ws
  pub ends : n'' ≡ flat_state s''

pub nb_chain : {key : List ℕ} {n n'' : NbState} {image image'' : List ℕ} {xs : List Call} {rs : List NbWrote} (s : WriterState) → n ≡ flat_state s
    → NbWrites key n image xs rs n'' image'' → AsWritten key s image xs rs n'' image''
nb_chain s e last = record { ws = []; s'' = s; writes = by-calls.last; says = refl; ends = e }
nb_chain {key} {n} {n''} {image} {image''} s e (next {image' = image'} {x = x} {xs = xs} {r = r} {rs = rs} c k) =
    let d = call key s image x in
    let a = answers s key image x e c in
    let i = nb_chain {key = key} {image = image'} d.state (ap (λ (y : NbWrote). y.state) a.0) k in
    record {
      ws = wrote_of d ∷ i.ws;
      s'' = i.s'';
      writes = by-calls.next (record { says = refl; number = call_number_lem key s image x; leaves = a.1 }) i.writes;
      says = ap₂ (λ (y : NbWrote) (ys : List NbWrote). y ∷ ys) a.0 i.says;
      ends = i.ends;
    }
