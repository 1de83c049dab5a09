-- `devices::ask` meets its contract: the device as it is after the request, its response, and its entry.
-- Assumes nothing.
use Rattle.devices.proofs.Laws.{ask-handles}
use Rattle.devices.proofs.ask.Goals as goal

pub returns : goal.returns
returns c = search (ask-handles)
