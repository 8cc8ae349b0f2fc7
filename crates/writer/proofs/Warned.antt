-- When an item is warned, of the definition `warns`: by the position after it alone.
-- Assumes nothing.
use borrow.Author.Tests.{lt-ltb, ltb-true}
use mathlib.Core.Path.{◌≡◌, refl}
use mathlib.Core.Bool.{Bool, true, false}
use Prim.Native.Nat.{ℕ, ◌+◌, ◌-◌, ◌<◌}
use native.Mathlib.Omega.{arith}
use lib.Dec.{ltb}
use Rattle.laws.specs.Choose.{pick}
use Rattle.writer.specs.declared.WriterState.{WriterState}
use Rattle.writer.specs.declared.Reply.{Reply}
use Rattle.writer.specs.declared.Reply.TheVariants.{Plain, Warned}
use Rattle.writer.specs.Items.{Item, size}
use Rattle.writer.specs.Writing.{answer_at, warns}

warned_so : (t : Bool) → pick t Warned Plain ≡ Warned → t ≡ true
warned_so true e = refl
warned_so false e = let z : ◌≡◌ {A = ℕ} 0 1 = cc in absurd (omega arith)

pub warns_exactly : (s : WriterState) (i : Item) → (warns s i ≡ Warned → s.capacity - s.zone < s.position + size i)
    × (s.capacity - s.zone < s.position + size i → warns s i ≡ Warned)
warns_exactly s i =
    let p = s.position + size i in (
      λ r. ltb-true (s.capacity - s.zone) p (warned_so (ltb (s.capacity - s.zone) p) r),
      λ h. rw (lt-ltb (s.capacity - s.zone) p h),
    )

-- what holds of Plain and of Warned holds of the answer
pub either_answer : (P : Reply → Type 0) → P Plain → P Warned → (s : WriterState) (p : ℕ) → P (answer_at s p)
either_answer P plain warned s p = go (ltb (s.capacity - s.zone) p)
  where
    go : (t : Bool) → P (pick t Warned Plain)
    go true = warned
    go false = plain
