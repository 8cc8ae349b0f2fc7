-- `permutation::add_key` meets its contract: `buffer::add` of 64 bytes.
-- Assumes nothing.
use mathlib.Core.Path.{◌∙◌}
use native.Mathlib.Omega.{arith}
use Rattle.pi.proofs.Build.{added_is}
use Rattle.permutation.proofs.add_key.Goals as goal

pub returns : goal.returns
returns c =
    let a = c.args in
    c.add.ensures ∙ added_is a.key.now a.state.now (omega arith)
