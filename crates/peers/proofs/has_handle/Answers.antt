-- `peers::has_handle` meets its contract: the search's answer is `Some`.
-- Assumes nothing.
use mathlib.Core.Path.{ap, ◌∙◌}
use Rattle.basics.specs.Choice.{is_found}
use Rattle.peers.proofs.Laws.{some_found}
use Rattle.peers.proofs.has_handle.Goals as goal

pub returns : goal.returns
returns c = c.is_some.ensures ∙ some_found c.find_peer.result ∙ ap is_found c.find_peer.ensures
