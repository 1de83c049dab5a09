-- `devices::configured_after` meets its contract: the cases of the definition.
-- Assumes nothing.
use mathlib.Core.Path.{sym}
use borrow.Author.Tests.{eq-eqb, ne_eqb, not-true, not-false}
use Rattle.basics.proofs.Choice.{and-false, and-false-right, join, pick_true, pick-false}
use Rattle.devices.proofs.configured_after.Goals as goal

pub returns-then-not-o : goal.returns-then-not-o
returns-then-not-o c = sym (pick-false _ _ _ (and-false _ _ (not-true _ c.if-not-o.true)))

pub returns-then-res-eq-DR_VIO_RES_OK : goal.returns-then-res-eq-DR_VIO_RES_OK
returns-then-res-eq-DR_VIO_RES_OK c = sym (pick_true _ _ _ (join _ _ (not-false _ c.if-not-o.false) (eq-eqb _ _ c.if-res-eq-DR_VIO_RES_OK.true)))

pub returns : goal.returns
returns c = sym (pick-false _ _ _ (and-false-right _ _ (ne_eqb _ _ c.if-res-eq-DR_VIO_RES_OK.false)))
