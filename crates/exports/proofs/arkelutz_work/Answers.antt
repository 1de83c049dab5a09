-- `exports::arkelutz_work` meets its contract: it is the agent's.
-- The fact is named, so that a wrong version is refused at once. Assumes nothing.

use Rattle.exports.proofs.arkelutz_work.Goals as goal

pub returns : goal.returns
returns c = c.work-worked.ensures
