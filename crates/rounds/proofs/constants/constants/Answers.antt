-- The code's table is Table 1.1, entry by entry: with this answer a wrong entry fails at the first call.
use mathlib.Core.Path.{refl}
use lib.Dec.{lit<}
use Rattle.pi.specs.Table.{table}
use Rattle.rounds.proofs.ConstantLaws.{none_made}
use Rattle.rounds.proofs.constants.constants.Goals as goal

pub put_round-requires : goal.put_round-requires
unfolding table
put_round-requires c = (refl, lit< tt, none_made)
