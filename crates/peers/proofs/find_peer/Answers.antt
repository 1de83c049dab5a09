-- `peers::find_peer` meets its contract: no id passed is registered under the handle.
-- Assumes nothing.
use mathlib.Core.Path.{sym, ◌∙◌}
use Rattle.basics.proofs.Loops.{none_first, none_more, found_here, found_nowhere}
use Rattle.peers.proofs.find_peer.Goals as goal

pub returns-then-peered_as : goal.returns-then-peered_as
returns-then-peered_as c =
    found_here _ _ _ c.loop-p.invariant c.loop-p-test.true
    (sym c.peered_as.ensures ∙ c.if-peered_as.true)

pub loop-p-preserved : goal.loop-p-preserved
loop-p-preserved c =
    none_more _ _ c.loop-p.invariant (sym c.peered_as.ensures ∙ c.if-peered_as.false)

pub returns : goal.returns
returns c = found_nowhere _ _ _ c.loop-p.invariant c.loop-p-test.false

pub loop-p-init : goal.loop-p-init
loop-p-init c = none_first _
