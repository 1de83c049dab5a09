use Rattle.basics.specs.Choice.{pick}
use Rattle.model.specs.Calls.{receiving}
use Rattle.model.proofs.Handlers.{silent-handles}
use Rattle.reception.proofs.take.Goals as goal

pub returns-else-hears : goal.returns-else-hears
unfolding receiving pick
returns-else-hears c =
    rw (← c.decode-decoded.ensures, ← c.is_ready-ready.ensures, ← c.hears.ensures, c.if-hears.false)
    (silent-handles _ c.close.ensures)
