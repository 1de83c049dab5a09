use mathlib.Core.Path.{ap}
use mathlib.Core.Bool.{not}
use mathlib.Core.Path.{sym, ◌∙◌}
use Rattle.basics.proofs.Loops.{no, yes}
use Rattle.orders.proofs.Laws.{wrong-length, denied, pending, left}
use Rattle.orders.proofs.answer.Goals as goal

pub returns-then-b-bytes_of : goal.returns-then-b-bytes_of
returns-then-b-bytes_of c =
    rw (wrong-length _ _ _ _ _ (λ e. c.if-b-bytes_of.true (e ∙ sym c.bytes_of.ensures)), ← c.number_of-request.ensures) (c.refuse.ensures _)

pub returns-then-not-is_permitted : goal.returns-then-not-is_permitted
returns-then-not-is_permitted c =
    rw (denied _ _ _ _ _ (c.if-b-bytes_of.false ∙ c.bytes_of.ensures) (no _ c.is_permitted.ensures (ap not c.if-not-is_permitted.true)), ← c.number_of-request.ensures) (c.fail.ensures _)

pub returns-then-order_of-ne-ORDER_NONE : goal.returns-then-order_of-ne-ORDER_NONE
returns-then-order_of-ne-ORDER_NONE c =
    rw (pending _ _ _ _ _ (c.if-b-bytes_of.false ∙ c.bytes_of.ensures) (yes _ c.is_permitted.ensures (ap not c.if-not-is_permitted.false)) (λ e. c.if-order_of-ne-ORDER_NONE.true (c.order_of.ensures ∙ e)), ← c.number_of-request.ensures)
    (c.fail-then-order_of-ne-ORDER_NONE.ensures _)

pub returns : goal.returns
returns c =
    rw (left _ _ _ _ _ (c.if-b-bytes_of.false ∙ c.bytes_of.ensures) (yes _ c.is_permitted.ensures (ap not c.if-not-is_permitted.false)) (sym c.order_of.ensures ∙ c.if-order_of-ne-ORDER_NONE.false))
    c.leave_for.ensures
