-- `peers::count` meets its contract: the marks passed are counted, one at most for each.
-- Assumes nothing.
use Prim.Native.Nat.{ℕ}
use native.Mathlib.Omega.{arith}
use mathlib.Core.Path.{sym, ap, ◌∙◌}
use native.Mathlib.Nat.{le_antisymm}
use Rattle.model.specs.Layout.{marks_at}
use Rattle.model.specs.Peers.{peers_below}
use Rattle.model.proofs.Marks.{bit-few}
use Rattle.peers.proofs.Laws.{none-counted, one-counted}
use Rattle.peers.proofs.count.Goals as goal

pub overflow_add-n : goal.overflow_add-n
overflow_add-n c =
    omega (arith, c.mark_of-n.ensures, bit-few (marks_at c.args.state.now c.args.channel) c.loop-p.p)

pub loop-p-preserved : goal.loop-p-preserved
loop-p-preserved c =
    let l = c.loop-p in
    (omega (arith, c.mark_of-n.ensures, bit-few (marks_at c.args.state.now c.args.channel) l.p), rw (l.invariant.1, c.mark_of-n.ensures) (sym (one-counted _ _ _)))

pub returns : goal.returns
returns c =
    c.loop-p.invariant.1 ∙ ap (λ (k : ℕ). peers_below c.args.state.now c.args.channel k) (le_antisymm c.loop-p.auto.p-end c.loop-p-test.false)

pub loop-p-init : goal.loop-p-init
loop-p-init c = (omega arith, sym (none-counted _ _))
