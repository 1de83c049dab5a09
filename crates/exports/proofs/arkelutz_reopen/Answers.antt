-- `exports::arkelutz_reopen` meets its contract: it is the front's.
-- The fact is named, so that a wrong version is refused at once. Assumes nothing.

use Rattle.exports.proofs.arkelutz_reopen.Goals as goal

pub returns : goal.returns
returns c = c.reopen.ensures
