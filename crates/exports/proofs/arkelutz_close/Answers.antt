-- `exports::arkelutz_close` meets its contract: it is the agent's.
-- The fact is named, so that a wrong version is refused at once. Assumes nothing.

use Rattle.exports.proofs.arkelutz_close.Goals as goal

pub returns : goal.returns
returns c = c.close.ensures
