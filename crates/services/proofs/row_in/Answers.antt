-- `services::row_in` meets its contract: the rule of the whole table, at one row.
-- Assumes nothing.
use Rattle.services.proofs.Rule.{rule-at}
use Rattle.services.proofs.row_in.Goals as goal

pub returns : goal.returns
returns c = rule-at c.requires.0 c.args.service c.requires.1
