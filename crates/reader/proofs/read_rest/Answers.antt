-- `reader::read_rest` meets its contract: a turn for each block, and an answer for each way to leave.
-- Assumes nothing.
use mathlib.Core.Path.{◌≡◌, refl, sym, ap, ◌∙◌}
use mathlib.Core.Bool.{Bool}
use Prim.Native.Nat.{ℕ, ◌+◌, ◌-◌, ◌*◌, min}
use native.Mathlib.Omega.{arith}
use lib.ListN.{take}
use Rattle.block.specs.declared.Seen.TheVariants as seen
use Rattle.reader.specs.Walk.{Cut, answer, gather}
use Rattle.reader.specs.Steps.{shown, rest_answer}
use Rattle.block.proofs.ViewLaws.{view_sized}
use Rattle.reader.proofs.GatherLaws.{Turn, turn_shut, turn_head, turn_last, turn_more, turn_used, turn_back, gather_end, nothing_kept, rest_room}
use Rattle.reader.proofs.read_rest.Goals as goal
use Rattle.reader.proofs.read_rest.Goals.{After-open_at}

-- one turn, with its block opened
turn : (c : After-open_at)
    → let l = c.loop-q in
    let a = c.args in
    Turn (shown a.cartridge) c.min-end.result l.q ((l.q - a.p) * 488) (rest_answer a.cartridge a.p a.buffer.now) a.buffer.now l.buffer c.open_at.new.buffer c.open_at.result
turn c =
    let l = c.loop-q in
    let a = c.args in
    let t = a.cartridge in
    record {
      on = omega arith;
      room = omega arith;
      long = omega arith;
      left = l.invariant.left;
      back = l.invariant.back;
      sized = view_sized t.key.now t.id t.recording t.image.now l.q (omega arith);
      says = c.open_at.ensures.says;
      leaves = c.open_at.ensures.leaves;
    }

pub loop-q-init : goal.loop-q-init
loop-q-init c =
    let a = c.args in
    record { back = refl; left = rest_room a.cartridge.image.now a.p c.min-end.result (shown a.cartridge) a.buffer.now (c.min-end.ensures ∙ ap (λ (n : ℕ). min n (a.p + 64)) c.capacity.ensures) c.requires.place }

pub returns-in-Shut : goal.returns-in-Shut
returns-in-Shut c = turn_shut (turn (goal.at.returns-in-Shut c).After-open_at) c.in-Shut.is c.answer_with.ensures

-- a record's first block, a mark or end of data: the record is cut,
-- and what cut it is read next
pub returns-in-First : goal.returns-in-First
returns-in-First c = turn_head (turn (goal.at.returns-in-First c).After-open_at) c.in-First.is c.answer_with-in-First.ensures

pub overflow_add-at : goal.overflow_add-at
overflow_add-at c =
    let m = c.in-More-true-default in
    let h = turn_used (turn (goal.at.overflow_add-at c).After-open_at) m.is in
    omega arith

pub returns-in-More-true-default : goal.returns-in-More-true-default
returns-in-More-true-default c =
    let m = c.in-More-true-default in
    turn_last (turn (goal.at.returns-in-More-true-default c).After-open_at) (m.is ∙ ap (λ (x : Bool). seen.More x m.used) m.field-0-test) c.answer_with-in-More-true-default.ensures

pub loop-q-preserved : goal.loop-q-preserved
loop-q-preserved c =
    let l = c.loop-q in
    let a = c.args in
    let t = turn (goal.at.loop-q-preserved c).After-open_at in
    let m = c.in-More-false-default in
    let k : (l.q + 1 - a.p) * 488 ≡ (l.q - a.p) * 488 + 488 = omega arith in record {
      back = turn_back t;
      left = ap (λ (n : ℕ). gather (c.min-end.result - (l.q + 1)) (shown a.cartridge) (l.q + 1) (take n c.open_at.new.buffer)) k
          ∙ turn_more t (m.is ∙ ap (λ (x : Bool). seen.More x m.field-1) m.field-0-test);
    }

pub returns : goal.returns
returns c =
    let l = c.loop-q in
    let a = c.args in
    let e : l.q ≡ c.min-end.result = omega (arith, c.loop-q.auto.q-end (omega arith)) in
    nothing_kept a.buffer.now l.buffer l.invariant.back (Cut c.min-end.result) c.min-end.result
    (sym l.invariant.left ∙ gather_end _ _ l.q _ (omega arith) ∙ ap (λ (n : ℕ). answer (Cut n) n) e) refl c.answer_with-2.ensures
