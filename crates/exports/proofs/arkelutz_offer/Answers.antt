-- `exports::arkelutz_offer` meets its contract: it is the agent's.
-- The fact is named, so that a wrong version is refused at once. Assumes nothing.

use Rattle.exports.proofs.arkelutz_offer.Goals as goal

pub returns : goal.returns
returns c = c.offer.ensures
