-- `reception::is_shown` meets its contract: the cases of the definition.
-- Assumes nothing.
use mathlib.Core.Path.{sym, ap, ◌∙◌}
use Rattle.basics.specs.Choice.{◌or◌}
use Rattle.model.specs.Calls.{goes_to_host}
use Rattle.reception.proofs.is_shown.Goals as goal

pub returns-then-goes_to_host : goal.returns-then-goes_to_host
unfolding ◌or◌
returns-then-goes_to_host c =
    let e = ap goes_to_host (sym c.find_staged.ensures) ∙ sym c.goes_to_host.ensures ∙ c.if-goes_to_host.true in
    rw (e, c.if-goes_to_host.true)

pub returns-else-goes_to_host : goal.returns-else-goes_to_host
unfolding ◌or◌
returns-else-goes_to_host c =
    let e = ap goes_to_host (sym c.find_staged.ensures) ∙ sym c.goes_to_host.ensures ∙ c.if-goes_to_host.false in
    rw e c.has_handle.ensures
