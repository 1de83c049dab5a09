-- `exports::arkelutz_setup` meets its contract: it is the agent's.
-- The fact is named, so that a wrong version is refused at once. Assumes nothing.

use Rattle.exports.proofs.arkelutz_setup.Goals as goal

pub returns : goal.returns
returns c = c.setup-started.ensures
