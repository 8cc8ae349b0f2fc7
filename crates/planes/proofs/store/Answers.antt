use mathlib.Core.Path.{◌≡◌, ap}
use mathlib.Core.List.{List}
use Prim.Native.Nat.{ℕ}
use lib.ListN.{get_or}
use Rattle.std.specs.Int.{w64, to_le_bytes}
use Rattle.planes.proofs.Stores.{stored_is}
use Rattle.planes.proofs.store.Goals as goal

pub returns : goal.returns
returns c =
    let x = c.args in
    let e : (j : ℕ) → get_or c.to_le_bytes-bytes.result j 0 ≡ get_or (to_le_bytes w64 x.w) j 0 =
    λ j. ap (λ (l : List ℕ). get_or l j 0) c.to_le_bytes-bytes.ensures in
    stored_is x.s.now x.at x.w (e 0) (e 1) (e 2) (e 3) (e 4) (e 5) (e 6) (e 7)
