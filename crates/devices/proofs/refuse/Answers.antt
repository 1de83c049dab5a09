-- `devices::refuse` meets its contract: the response, and its entry.
-- Assumes nothing.
use Rattle.devices.proofs.Laws.{refuse-handles}
use Rattle.devices.proofs.refuse.Goals as goal

pub returns : goal.returns
returns c = λ s. refuse-handles s _ _ _ _ _ c.put_response.ensures c.answered.ensures
