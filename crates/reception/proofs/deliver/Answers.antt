-- `reception::deliver` meets its contract: each way by its own function.
-- Assumes nothing.
use mathlib.Core.Path.{sym, ◌∙◌}
use native.Mathlib.Omega.{arith}
use Rattle.reception.proofs.Laws.{orders-services}
use borrow.Author.Rules.{rules}
use Rattle.reception.proofs.deliver.Goals as goal

pub answer-requires-in-Orders : goal.answer-requires-in-Orders
answer-requires-in-Orders c = let v = orders-services _ (sym c.route.ensures ∙ c.in-Orders.is) in (omega arith, omega arith, search rules)
