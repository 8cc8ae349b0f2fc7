-- The hypotheses of demand 3 can be met: under a key of 24 bytes every run can be closed, and a block of zeros is
-- damage that it admits.
-- Assumes nothing.
use borrow.Author.Tests.{eq-eqb, le-leb, lt-ltb}
use mathlib.Core.Path.{◌≡◌, refl, sym, ap, ◌∙◌, subst}
use mathlib.Core.Logic.{◌⊎◌, ⊎_elim}
use mathlib.Core.Bool.{Bool, true, false}
use mathlib.Core.List.{List, [], ◌∷◌, ◌++◌}
use Prim.Native.Nat.{ℕ, ◌%◌, ◌<◌}
use native.Mathlib.Omega.{arith}
use lib.ListN.{length, replicate}
use Rattle.block.specs.Content.{Shut}
use Rattle.block.specs.Format.{open_block}
use Rattle.block.specs.Image.{block_at, capacity_of, size_ok, image_ok, view}
use Rattle.block.proofs.RoundTrip.{zeros_shut}
use Rattle.numbers.specs.Refusals.{number_of}
use Rattle.writer.specs.declared.Reply.{Reply}
use Rattle.writer.specs.declared.WriterState.{WriterState}
use Rattle.writer.specs.Items.{Item}
use Rattle.writer.specs.Writing.{zone_ok, place_ok, close, close_number, ended}
use Rattle.writer.proofs.Judged.{judged_either}
use Rattle.writer.proofs.InOrder.{all_marks_fit}
use Rattle.writer.proofs.Ready.{Ready, lawful_holds}
use Rattle.writer.proofs.Rules.{room_for_closing, closing_moves_by_1}
use Rattle.cartridge.specs.Chain.{Call, closing, call, chain, Setup, Run, begun, left, items, Proper}
use Rattle.cartridge.specs.Recovered.{Damaged}
use Rattle.cartridge.proofs.Made.{Made, made}

-- a state that a chain left open is ready for a call
module _ (a : Setup) (s : WriterState) (img : List ℕ) (is : List Item) (m : Made a s img is) (k : length a.key ≡ 24) where
  pub image_holds : image_ok img ≡ true
  unfolding image_ok size_ok
  image_holds =
      let l = m.long in
      let g = m.large in
      let h = m.small in
      let e : length img % 512 ≡ 0 = omega arith in
      rw (eq-eqb (length img % 512) 0 e, le-leb 2048 (length img) (omega arith), le-leb (length img) 65536 (omega arith))

  ready : s.closed ≡ false → Ready s a.key img
  unfolding zone_ok place_ok capacity_of
  ready o =
      let z = m.zone_in in
      let l = m.long in
      let r = m.room in
      let g = m.large in
      let p : s.position < s.capacity = omega (arith, rw o at m.place) in
      let f = all_marks_fit is in
      record {
        asked = record { image_holds = image_holds; key24 = k };
        is_lawful = lawful_holds s (capacity_of img) (record {
          capacity_is = omega arith;
          zone_holds = rw (le-leb 1 s.zone z.0, lt-ltb s.zone s.capacity (omega arith));
          marks_low = omega (arith, rw o at m.place, m.counts);
          place_holds = rw o (lt-ltb s.position s.capacity p);
        });
        is_open = o;
      }

  -- so a closing leaves it closed, whether it was or not
  ends_closed : (close s a.key img).state.closed ≡ true
  unfolding close
  ends_closed = go s.closed refl
    where
      go : (t : Bool) → s.closed ≡ t → (close s a.key img).state.closed ≡ true
      go false o = ap (λ (x : WriterState). x.closed) (closing_moves_by_1 s a.key img (ap (number_of {A = Reply}) (room_for_closing s a.key img (ready o)).0))
      go true o = judged_either (ended s a.key img) s img (λ d. d.state.closed ≡ true) (λ k. o) (close_number s a.key img) (λ e. refl)

-- a closing behind any calls
abbrev pub then_closed : Run → Run
then_closed r = record { setup = r.setup; calls = r.calls ++ (closing ∷ []) }

chain_then : (key : List ℕ) (s : WriterState) (img : List ℕ) (xs : List Call) (x : Call)
    → (chain key s img (xs ++ (x ∷ []))).state ≡ (call key (chain key s img xs).state (chain key s img xs).image x).state
chain_then key s img [] x = refl
chain_then key s img (y ∷ xs) x = chain_then key (call key s img y).state (call key s img y).image xs x

-- under a key of 24 bytes every accepted start and any calls, then a closing, end closed
pub can_be_closed : (r : Run) → Proper r → length r.setup.key ≡ 24 → (left (then_closed r)).state.closed ≡ true
can_be_closed r p k =
    ap (λ (x : WriterState). x.closed) (chain_then r.setup.key (begun r.setup).state (begun r.setup).image r.calls closing)
    ∙ ends_closed r.setup (left r).state (left r).image (items r) (made r p) k

-- an image in which each block has its bytes or is zeros is damaged as demand 3 asks
pub zeros_are_damage : (r : Run) (now : List ℕ) → length now ≡ length (left r).image
    → ((p : ℕ) → p < capacity_of now → (block_at now p ≡ block_at (left r).image p) ⊎ (block_at now p ≡ replicate 512 0)) → Damaged r now
unfolding view
zeros_are_damage r now l h =
    let a = r.setup in
    record {
      long = l;
      shuts = λ p b n.
          ⊎_elim (λ e. absurd (n e))
          (λ e. subst (λ (x : List ℕ). Shut (open_block a.key a.id a.recording p x)) (sym e) (zeros_shut a.key a.id a.recording p)) (h p b);
    }
