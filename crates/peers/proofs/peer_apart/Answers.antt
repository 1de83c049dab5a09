-- `peers::peer_apart` meets its contract: no handle passed is the same.
-- Assumes nothing.
use mathlib.Core.Path.{ap}
use mathlib.Core.Bool.{not}
use mathlib.Core.Path.{◌≡◌, sym, ◌∙◌}
use lib.Dec.{eqb}
use Rattle.basics.specs.Choice.{◌or◌, every}
use Rattle.model.specs.Layout.{peered_at, peer_handle_at}
use Rattle.model.specs.Peers.{peer_apart}
use Rattle.basics.proofs.Loops.{no, yes, every-none, every_more, every-fails, every-all}
use Rattle.peers.proofs.Laws.{apart-unmarked, apart-marked}
use Rattle.peers.proofs.peer_apart.Goals as goal
use Rattle.peers.proofs.peer_apart.Lts as lts
use Rattle.peers.proofs.peer_apart.Reads as reads
use Rattle.peers.proofs.peer_apart.Tie as tie

pub returns-then-mark_of-eq0 : goal.returns-then-mark_of-eq0
returns-then-mark_of-eq0 c = sym (apart-unmarked _ _ _ (sym c.mark_of.ensures ∙ c.if-mark_of-eq0.true))

-- past the first test
marked : (c : (lts.After-handle_of tie.the-claims reads.Pre reads.Post goal.the-invariant-loop-q goal.the-decreases-loop-q)) → every c.args.p (λ q. eqb (peered_at c.args.state.now c.args.channel q) 0 or not (eqb (peer_handle_at c.args.state.now c.args.channel q) c.handle_of-handle.result)) ≡ peer_apart c.args.state.now c.args.channel c.args.p
marked c = sym (apart-marked _ _ _ _ c.handle_of-handle.ensures (λ e. c.if-mark_of-eq0.false (c.mark_of.ensures ∙ e)))

pub returns-then-not-differs : goal.returns-then-not-differs
returns-then-not-differs c =
    every-fails _ _ _ c.loop-q-test.true (no _ c.differs.ensures (ap not c.if-not-differs.true)) ∙ marked (search)

pub loop-q-preserved : goal.loop-q-preserved
loop-q-preserved c = every_more _ _ c.loop-q.invariant (yes _ c.differs.ensures (ap not c.if-not-differs.false))

pub returns : goal.returns
returns c =
    every-all _ _ _ c.loop-q.auto.q-end c.loop-q-test.false c.loop-q.invariant ∙ marked (search)

pub loop-q-init : goal.loop-q-init
loop-q-init c = every-none _
