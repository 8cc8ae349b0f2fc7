-- `rounds::constants::entries` meets its contract.
-- Assumes nothing.
use Rattle.rounds.proofs.ConstantLaws.{entries_are}
use Rattle.rounds.proofs.constants.entries.Goals as goal

pub returns : goal.returns
returns c = entries_are c.args.t.now c.args.at _ c.requires.0 c.from_le_bytes.ensures
