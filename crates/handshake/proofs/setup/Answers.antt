-- `handshake::setup` meets its contract: an accepted list fits an end.
-- Assumes nothing.
use mathlib.Core.Path.{sym, ◌∙◌}
use native.Mathlib.Omega.{arith}
use Rattle.vio_model.proofs.Versions.{list-rules}
use Rattle.handshake.proofs.setup.Goals as goal

pub new_end-requires : goal.new_end-requires
new_end-requires c = let r = list-rules _ (sym c.accepted_list.ensures ∙ c.if-accepted_list.true) in omega arith
