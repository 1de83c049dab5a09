-- `peers::peer_sound` meets its contract: each early answer breaks a rule, and past them the minor decides.
-- Assumes nothing.
use native.Mathlib.Omega.{arith}
use mathlib.Core.Path.{◌≡◌, sym, ◌∙◌}
use Rattle.model.specs.Layout.{id_in, peered_at}
use Rattle.basics.proofs.Loops.{refute}
use Rattle.peers.proofs.Laws.{Registered, unmarked, registered, minor-left}
use Rattle.peers.proofs.peer_sound.Goals as goal
use Rattle.peers.proofs.peer_sound.Lts as lts
use Rattle.peers.proofs.peer_sound.Reads as reads
use Rattle.peers.proofs.peer_sound.Tie as tie

pub returns-then-mark_of-eq0 : goal.returns-then-mark_of-eq0
returns-then-mark_of-eq0 c = sym (unmarked _ _ _ _ (sym c.mark_of.ensures ∙ c.if-mark_of-eq0.true))

-- past the first test
marked : (c : (lts.Else1 tie.the-claims reads.Pre reads.Post)) → peered_at c.args.state.now c.args.channel c.args.p ≡ 0 → ⊥
marked c e = c.if-mark_of-eq0.false (c.mark_of.ensures ∙ e)

pub returns-then-ready-ne1 : goal.returns-then-ready-ne1
returns-then-ready-ne1 c = refute _ (λ t. let r = registered _ _ _ _ (marked (search)) t in omega (arith, r.is_ready))

pub returns-then-state-p : goal.returns-then-state-p
returns-then-state-p c = refute _ (λ t. let r = registered _ _ _ _ (marked (search)) t in omega (arith, r.listed))

pub returns-then-handle_of-ge-TOP_BIT : goal.returns-then-handle_of-ge-TOP_BIT
returns-then-handle_of-ge-TOP_BIT c = refute _ (λ t. let r = registered _ _ _ _ (marked (search)) t in omega (arith, r.handle, c.handle_of.ensures))

-- past the tests of a registration
abbrev start : (lts.Else4 tie.the-claims reads.Pre reads.Post) → (lts.Start tie.the-claims reads.Pre reads.Post)
start c = (search)

all : (c : (lts.Else4 tie.the-claims reads.Pre reads.Post)) → let a = (start (search)).args in Registered a.state.now a.ready a.channel a.p
all c = record {
  marked = marked (search);
  is_ready = omega arith;
  listed = omega arith;
  handle = omega (arith, c.handle_of.ensures);
}

pub returns : goal.returns
unfolding id_in
returns c = rw c.minor_of.ensures (sym (minor-left _ _ _ _ (all (search))))
