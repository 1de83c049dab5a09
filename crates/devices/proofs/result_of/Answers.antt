-- `devices::result_of` meets its contract: the cases of the definition.
-- Assumes nothing.
use borrow.Author.Tests.{not-true, not-false}
use Rattle.devices.proofs.Laws.{result-status, result-already, result-blocked, result-forced, result-free}
use Rattle.devices.proofs.result_of.Goals as goal

pub returns-then-configured-o : goal.returns-then-configured-o
returns-then-configured-o c = result-already _ _ _ c.if-not-o.false c.if-configured-o.true

pub returns-then-not-o-2 : goal.returns-then-not-o-2
returns-then-not-o-2 c =
    result-forced _ _ _ c.if-not-o.false c.if-configured-o.false (not-true _ c.if-not-o-2.true)

pub returns-then-busy-eq1 : goal.returns-then-busy-eq1
returns-then-busy-eq1 c =
    result-blocked _ _ _ c.if-not-o.false c.if-configured-o.false (not-false _ c.if-not-o-2.false) c.if-busy-eq1.true

pub returns : goal.returns
returns c =
    result-free _ _ _ c.if-not-o.false c.if-configured-o.false c.if-busy-eq1.false

pub returns-then-not-o : goal.returns-then-not-o
returns-then-not-o c = result-status _ _ _ c.if-not-o.true
