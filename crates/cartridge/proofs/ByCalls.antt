-- Demand 3 at the calls: a run by the writer's promises is the run of the definitions, and a walk by calls of `read`
-- hands out what the walk of the definitions does, in as many reads.
-- Assumes nothing.
use mathlib.Core.Path.{◌≡◌, refl, sym, ap, ap₂, ◌∙◌, subst}
use mathlib.Core.Bool.{true, false}
use mathlib.Core.List.{List, [], ◌∷◌, ◌++◌, append_assoc}
use Prim.Native.Nat.{ℕ, suc, ◌+◌, ◌-◌, ◌≤◌, ◌<◌}
use native.Mathlib.Omega.{arith}
use borrow.Author.Tests.{eq-eqb, le-leb, lt-ltb}
use Rattle.std.specs.Prelude.{Result, Ok}
use Rattle.numbers.specs.declared.Refusal.{Refusal}
use lib.ListN.{length, take, drop, replicate, length-append}
use lib.Seq.{take_at}
use Rattle.laws.specs.Lists.{splice}
use Rattle.block.specs.Image.{capacity_of, image_ok, view}
use Rattle.block.proofs.ImageSize.{Asked, asks_rest}
use Rattle.writer.specs.declared.WriterState.{WriterState}
use Rattle.writer.specs.declared.Reply.TheVariants.{Plain}
use Rattle.writer.specs.declared.Wrote.{Wrote}
use Rattle.writer.specs.Items.{Item}
use Rattle.writer.specs.Writing.{Did}
use Rattle.reader.specs.declared.Outcome.{Outcome}
use Rattle.reader.specs.declared.Outcome.TheVariants as o
use Rattle.reader.specs.declared.Got.{Got}
use Rattle.reader.specs.Walk.{Told, Record, Mark, End, Bad, Stray, Cut, is_end, read_at, walk_from, walk}
use Rattle.reader.specs.Reading.{read_number, read_answer, outcome_of, got_of, filled, Read, part_of}
use Rattle.reader.proofs.GatherLaws.{filled_least}
use Rattle.reader.proofs.WalkLaws.{read_onward, walk_from_over, walk_from_step}
use Rattle.cartridge.specs.Chain.{Call, call, took, chain, accepted, AllCallBytes, Run, begun, left, items, Proper}
use Rattle.cartridge.specs.Handed.{Handed, hands_out, handed}
use Rattle.cartridge.specs.Recovered.{spoiled, intact, Damaged}
use Rattle.cartridge.specs.ByCalls.{Writes, last, next, taken_by, Step, Reads, over, stop, goes, in_hand, all_in_hand}
use Rattle.cartridge.proofs.Made.{made}
use Rattle.cartridge.proofs.CanBeMet.{image_holds}
use Rattle.cartridge.proofs.Demand3.{demand_3}

-- ---- writing: what the calls leave is what the chain leaves, and what their answers say was taken is what it accepted
pub record AsChained (key : List ℕ) (s : WriterState) (image : List ℕ) (xs : List Call) (ws : List Wrote) (s'' : WriterState) (image'' : List ℕ) : Type 0 where
  pub state : s'' ≡ (chain key s image xs).state
  pub bytes : image'' ≡ (chain key s image xs).image
  pub taken : taken_by xs ws ≡ accepted key s image xs

pub chained : {key : List ℕ} {s s'' : WriterState} {image image'' : List ℕ} {xs : List Call} {ws : List Wrote}
    → Writes key s image xs ws s'' image'' → AsChained key s image xs ws s'' image''
chained last = record { state = refl; bytes = refl; taken = refl }
chained {key} {s} {s''} {image} {image''} (next {image' = image'} {x = x} {xs = xs} {w = w} {ws = ws} c r) =
    let d = call key s image x in
    let i = subst (λ (v : Wrote). AsChained key v.state image' xs ws s'' image'') c.says (chained r) in
    let j = subst (λ (b : List ℕ). AsChained key d.state b xs ws s'' image'') c.leaves i in
    record { state = j.state; bytes = j.bytes; taken = ap₂ (λ (v : Wrote) (is : List Item). took v.reply x ++ is) c.says j.taken }

-- a start that was taken and the calls behind it are a run: `w₀` and `z` are what the start answered and left, `ws`
-- what the calls answered, `s` and `was` the state and image at their end
pub record AsRun (r : Run) (ws : List Wrote) (s : WriterState) (was : List ℕ) : Type 0 where
  pub proper : Proper r
  pub state : s ≡ (left r).state
  pub bytes : was ≡ (left r).image
  pub taken : taken_by r.calls ws ≡ items r

pub as_run : (r : Run) {w₀ : Wrote} {z : List ℕ} {ws : List Wrote} {s : WriterState} {was : List ℕ} → Did (begun r.setup) w₀ z
    → w₀.reply ≡ Ok Plain → AllCallBytes r.calls → Writes r.setup.key w₀.state z r.calls ws s was → AsRun r ws s was
as_run r {w₀} {z} {ws} {s} {was} c e b ch =
    let a = r.setup in
    let i = subst (λ (v : Wrote). AsChained a.key v.state z r.calls ws s was) c.says (chained ch) in
    let j = subst (λ (y : List ℕ). AsChained a.key (begun a).state y r.calls ws s was) c.leaves i in
    record {
      proper = record { starts = sym (ap (λ (v : Wrote). v.reply) c.says) ∙ e; bytes = b };
      state = j.state;
      bytes = j.bytes;
      taken = j.taken;
    }

-- ---- reading: the buffer
front_is : (b x : List ℕ) → splice b 0 x ≡ x ++ drop (0 + length x) b
unfolding splice
front_is b x = refl

splice_least : (b x : List ℕ) → length x ≤ length (splice b 0 x)
splice_least b x = omega (arith, ap length (front_is b x) ∙ length-append x (drop (0 + length x) b))

-- the part of a record is the record
part_is : (b d : List ℕ) → part_of (splice b 0 (filled (Record d))) (length d) ≡ d
unfolding part_of filled
part_is b d =
    let z = replicate {A = ℕ} (31232 - length d) 0 in
    let t = drop (0 + length (d ++ z)) b in
    let e : splice b 0 (d ++ z) ≡ d ++ (z ++ t) = front_is b (d ++ z) ∙ append_assoc d z t in
    let h : length d ≤ length (splice b 0 (d ++ z)) = omega (arith, ap length e ∙ length-append d (z ++ t)) in
    rw (le-leb (length d) (length (splice b 0 (d ++ z))) h) (ap (take (length d)) e ∙ take_at d (z ++ t) (length d) refl)

hand_is : (p : ℕ) (t : Told) (b : List ℕ) → in_hand p (Ok (outcome_of t)) (splice b 0 (filled t)) ≡ hands_out p t
hand_is p (Record d) b = rw (part_is b d)
hand_is p Mark b = refl
hand_is p End b = refl
hand_is p Bad b = refl
hand_is p Stray b = refl
hand_is p (Cut q) b = refl

-- ---- End
ends : (t : Told) → ◌≡◌ {A = Result Outcome Refusal} (Ok (outcome_of t)) (Ok o.End) → is_end t ≡ true
ends (Record b) e = cc
ends Mark e = cc
ends End e = refl
ends Bad e = cc
ends Stray e = cc
ends (Cut q) e = cc

not_ends : (t : Told) → (◌≡◌ {A = Result Outcome Refusal} (Ok (outcome_of t)) (Ok o.End) → ⊥) → is_end t ≡ false
not_ends (Record b) e = refl
not_ends Mark e = refl
not_ends End e = absurd (e refl)
not_ends Bad e = refl
not_ends Stray e = refl
not_ends (Cut q) e = refl

module _ (key : List ℕ) (id recording : ℕ) (image : List ℕ) (a : Asked key image) where
  number_0 : (p room : ℕ) → p < capacity_of image → 31232 ≤ room → read_number key image p room ≡ 0
  unfolding read_number
  number_0 p room h k = asks_rest key image a _ ∙ rw (le-leb 31232 room k, lt-ltb p (capacity_of image) h)

  answered : (p : ℕ) (b : List ℕ) (g : Got) (b' : List ℕ) → p < capacity_of image → 31232 ≤ length b → Read key id recording image p b g b'
      → let t = read_at (view key id recording image) (capacity_of image) p in (g ≡ got_of t) × (b' ≡ splice b 0 (filled t.told))
  unfolding read_answer
  answered p b g b' h k c = let z = eq-eqb _ 0 (number_0 p (length b) h k) in (c.says ∙ rw z, c.leaves ∙ rw z)

  abbrev Alike : ℕ → ℕ → List Step → Type 0
  Alike n p xs =
      let w = walk_from n (view key id recording image) (capacity_of image) p in (all_in_hand xs ≡ handed w) × (length xs ≡ length w)

  pub by_reads : (n p : ℕ) (b : List ℕ) (xs : List Step) → capacity_of image - p ≤ n → 31232 ≤ length b → Reads key id recording image p b xs → Alike n p xs
  by_reads n p b [] m k (over h) = rw (walk_from_over n (view key id recording image) (capacity_of image) p h) (refl, refl)
  by_reads n p b (x ∷ []) m k (stop {b' = b'} {g = g} h c e) =
      let v = view key id recording image in
      let w = capacity_of image in
      let a = answered p b g b' h k c in
      let q = ap (λ (y : Got). y.outcome) a.0 in
      let f = ends (read_at v w p).told (sym q ∙ e) in
      rw (walk_from_step n v w p h m, f, a.0, a.1, hand_is p (read_at v w p).told b) (refl, refl)
  by_reads n p b (x ∷ xs) m k (goes {b' = b'} {g = g} h c e r) =
      let v = view key id recording image in
      let w = capacity_of image in
      let a = answered p b g b' h k c in
      let q = ap (λ (y : Got). y.outcome) a.0 in
      let f = not_ends (read_at v w p).told (λ z. e (q ∙ z)) in
      let on = (read_onward v w p h f).passes in
      let j = ap (λ (y : Got). y.next) a.0 in
      let l : 31232 ≤ length b' = omega (arith, ap length a.1, splice_least b (filled (read_at v w p).told), filled_least (read_at v w p).told) in
      let i = by_reads (n - 1) g.next b' xs (omega arith) l r in
      rw (walk_from_step n v w p h m, f) (
        ap₂ (λ (y z : List Handed). y ++ z) (ap₂ (λ (y : Got) (z : List ℕ). in_hand p y.outcome z) a.0 a.1 ∙ hand_is p (read_at v w p).told b)
            (i.0 ∙ ap (λ (y : ℕ). handed (walk_from (n - 1) v w y)) j),
        ap suc (i.1 ∙ ap (λ (y : ℕ). length (walk_from (n - 1) v w y)) j),
      )

-- ---- an image of the same length
same_size : (now was : List ℕ) → length now ≡ length was → image_ok was ≡ true → image_ok now ≡ true
unfolding image_ok
same_size now was e h = rw e h

-- ---- demand 3, said of the calls; `xs` are the calls of `read` over `now`
pub demand_3_by_calls : (r : Run) {w₀ : Wrote} {z : List ℕ} {ws : List Wrote} {s : WriterState} {was : List ℕ}
    → Did (begun r.setup) w₀ z → w₀.reply ≡ Ok Plain → AllCallBytes r.calls → Writes r.setup.key w₀.state z r.calls ws s was
    → s.closed ≡ true → length r.setup.key ≡ 24 → (now : List ℕ) → Damaged r now
    → (buffer : List ℕ) → 31232 ≤ length buffer → (xs : List Step) → Reads r.setup.key r.setup.id r.setup.recording now 0 buffer xs
    → (all_in_hand xs ≡ intact (spoiled was now) 0 (taken_by r.calls ws)) × (length xs ≤ capacity_of now)
unfolding walk
demand_3_by_calls r c e b ch k hk now d buffer hb xs rs =
    let a = r.setup in
    let j = as_run r c e b ch in
    let p = j.proper in
    let shut = sym (ap (λ (v : WriterState). v.closed) j.state) ∙ k in
    let x = demand_3 r p shut now d in
    let ok = same_size now (left r).image d.long (image_holds a (left r).state (left r).image (items r) (made r p) hk) in
    let y = by_reads a.key a.id a.recording now (record { image_holds = ok; key24 = hk }) (capacity_of now) 0 buffer xs (omega arith) hb rs in (
      y.0 ∙ x.gives ∙ ap₂ (λ (w : List ℕ) (is : List Item). intact (spoiled w now) 0 is) (sym j.bytes) (sym j.taken),
      rw y.1 (x.short (capacity_of now)),
    )
