-- `peers::peers_sound` meets its contract: each early answer breaks a rule, and past them the count decides.
-- Assumes nothing.
use mathlib.Core.Path.{ap}
use mathlib.Core.Bool.{not}
use mathlib.Core.Bool.{true}
use mathlib.Core.Path.{◌≡◌, sym}
use Rattle.basics.specs.Choice.{every}
use Rattle.model.specs.Layout.{most_ids, ready_at}
use Rattle.model.specs.Peers.{peer_sound}
use Rattle.basics.proofs.Choice.{clash}
use Rattle.basics.proofs.Loops.{refute, no, yes}
use Rattle.model.proofs.Peers.{unmarked-sound}
use Rattle.peers.proofs.Laws.{each_part, apart-part, count_left}
use Rattle.peers.proofs.peers_sound.Goals as goal
use Rattle.peers.proofs.peers_sound.Lts as lts
use Rattle.peers.proofs.peers_sound.Reads as reads
use Rattle.peers.proofs.peers_sound.Tie as tie

pub returns-then-none_marked : goal.returns-then-none_marked
returns-then-none_marked c = sym (unmarked-sound _ _ _ (λ p _. c.none_marked.ensures c.if-none_marked.true p))

pub returns-then-not-each_sound : goal.returns-then-not-each_sound
returns-then-not-each_sound c = refute _ (λ t. clash _ (no _ c.each_sound.ensures (ap not c.if-not-each_sound.true)) (each_part _ _ _ t))

-- each registration is sound
each : (c : (lts.Else2 tie.the-claims reads.Pre reads.Post)) → every most_ids (peer_sound c.args.state.now (ready_at c.args.state.now c.args.channel) c.args.channel) ≡ true
each c = yes _ c.each_sound.ensures (ap not c.if-not-each_sound.false)

pub returns-then-not-handles_apart : goal.returns-then-not-handles_apart
returns-then-not-handles_apart c = refute _ (λ t. clash _ (no _ c.handles_apart.ensures (ap not c.if-not-handles_apart.true)) (apart-part _ _ _ t))

pub returns : goal.returns
returns c =
    rw c.count.ensures
    (sym (count_left _ _ _ (each (search)) (yes _ c.handles_apart.ensures (ap not c.if-not-handles_apart.false))))
