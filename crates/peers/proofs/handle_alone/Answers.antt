-- `peers::handle_alone` meets its contract: no handle passed is the same, so that none of a registration is.
-- Assumes nothing.
use mathlib.Core.Bool.{false}
use mathlib.Core.Path.{refl, sym, ◌∙◌}
use borrow.Author.Tests.{ne_eqb}
use Rattle.basics.proofs.Choice.{clash, or-true}
use Rattle.basics.proofs.Loops.{every-none, every_more, every-all}
use Rattle.peers.proofs.Laws.{apart-unmarked, apart-marked}
use Rattle.peers.proofs.handle_alone.Goals as goal

pub returns-then-mark_of-eq0 : goal.returns-then-mark_of-eq0
returns-then-mark_of-eq0 c e = apart-unmarked _ _ _ (sym c.mark_of.ensures ∙ c.if-mark_of-eq0.true)

pub loop-j-preserved : goal.loop-j-preserved
loop-j-preserved c =
    every_more _ _ c.loop-j.invariant (rw (← c.handle_of.ensures, ne_eqb _ _ c.if-handle_of-handle.false) (or-true _))

pub returns : goal.returns
returns c e =
    apart-marked _ _ _ _ c.handle_of-handle.ensures (λ z. c.if-mark_of-eq0.false (c.mark_of.ensures ∙ z))
    ∙ sym (every-all _ _ _ c.loop-j.auto.j-end c.loop-j-test.false c.loop-j.invariant)

pub loop-j-init : goal.loop-j-init
loop-j-init c = every-none _

pub returns-then-handle_of-handle : goal.returns-then-handle_of-handle
returns-then-handle_of-handle c e = absurd (clash false refl e)
