-- `id_list::state_ids_keep` meets its contract: the state has room for the most ids, and they decide.
-- Assumes nothing.
use Rattle.id_list.proofs.state_ids_keep.Goals as goal

pub returns : goal.returns
returns c = c.keep_rules.ensures
