-- `sponge::absorb` meets its contract.
-- Assumes nothing.
use mathlib.Core.Path.{◌≡◌, sym, ap, ◌∙◌}
use mathlib.Core.List.{List, [], ◌∷◌, ◌++◌, append_assoc}
use Prim.Native.Nat.{ℕ, ◌+◌, ◌-◌, ◌*◌, ◌≤◌}
use native.Mathlib.Omega.{arith}
use lib.ListN.{length, take, drop, length-append, length-drop, take-append-drop}
use lib.Seq.{length-take-le, take_all}
use Rattle.pi.proofs.Build.{added_is}
use Rattle.sponge.specs.Blink.{put, kept, met}
use Rattle.sponge.proofs.Steps.{met_none, met_more, met_last, front_is, behind_is, rest_is_group}
use Rattle.sponge.proofs.absorb.Goals as goal

pub loop-group-init : goal.loop-group-init
loop-group-init c =
    let a = c.args.bytes.now in
    let at = c.last-at.result * 32 in
    let few : at ≤ length a = omega arith in
    let left : c.into_iter-group-iterator.result.rest.now ≡ take at a = cc in
    record {
      size = cc;
      state = met_none _ _ _ _;
      left = sym (ap (λ (t : List ℕ). t ++ drop at a) left ∙ take-append-drop at a);
      count = omega (arith, ap length left, length-take-le at a few);
    }

pub loop-group-preserved : goal.loop-group-preserved
unfolding kept
loop-group-preserved c =
    let a = c.args in
    let l = c.loop-group in
    let k = length l.yielded in
    let s = c.in-Some.ensures.steps in
    let g = c.in-Some.group.now in
    let n = c.next.new.self.rest.now in
    let r = drop (c.last-at.result * 32) a.bytes.now in
    let y : length (l.yielded ++ (c.in-Some.group ∷ [])) ≡ k + 1 = length-append l.yielded _ in
    let full : length g ≡ 32 = s.1.1 ∙ l.invariant.size in
    let e : drop (k * 32) a.bytes.now ≡ g ++ (n ++ r) =
    l.invariant.left ∙ ap (λ (t : List ℕ). t ++ r) s.1.0 ∙ append_assoc g n r in
    let more : length l.group-iterator.rest.now ≡ length g + length n = ap length s.1.0 ∙ length-append g n in
    rw y (record {
      size = s.0 ∙ l.invariant.size;
      state =
          met_more put a.domain a.state.now a.bytes.now k _ _ _ _ l.invariant.state (front_is a.bytes.now k g (n ++ r) full e) (c.add.ensures ∙ added_is _ _ (omega arith))
          (omega arith) c.between.ensures;
      left = behind_is a.bytes.now k g (n ++ r) full e;
      count = omega arith;
    })

pub returns : goal.returns
unfolding kept
returns c =
    let a = c.args in
    let l = c.loop-group in
    let s = c.in-None.ensures.steps in
    let m = c.last-at.ensures in
    let k = c.last-at.result in
    let b = a.bytes.now in
    let h : length l.yielded ≡ k = omega arith in
    let n : length (drop (k * 32) b) ≡ length b - k * 32 = length-drop (k * 32) b in
    let r : take (length b - k * 32) (drop (k * 32) b) ≡ drop (k * 32) b = take_all _ (drop (k * 32) b) (omega (arith, n)) in
    let few : length (take (length b - k * 32) (drop (k * 32) b)) ≡ length b - k * 32 = ap length r ∙ n in
    met_last put a.domain a.state.now b k _ _ _ _ (l.invariant.state ∙ ap (met put a.domain a.state.now b) h)
    (rest_is_group b k _ (omega (arith, few)) (sym r)) (c.add-2.ensures ∙ added_is _ _ (omega (arith, few))) _ (sym few) m c.close.ensures
