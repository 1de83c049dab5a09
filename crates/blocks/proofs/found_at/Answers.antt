-- `blocks::found_at` meets its contract: the cases of the definition.
-- Assumes nothing.
use mathlib.Core.Path.{sym}
use borrow.Author.Tests.{eq-eqb, ne_eqb}
use Rattle.basics.proofs.Choice.{pick_true, pick-false}
use Rattle.blocks.proofs.found_at.Goals as goal

pub returns-then-pages-size : goal.returns-then-pages-size
returns-then-pages-size c = sym (pick_true _ _ _ (eq-eqb _ _ c.if-pages-size.true))

pub returns : goal.returns
returns c = sym (pick-false _ _ _ (ne_eqb _ _ c.if-pages-size.false))
