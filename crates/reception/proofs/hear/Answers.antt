use native.Mathlib.Omega.{arith}
use mathlib.Core.Path.{◌∙◌, sym}
use Rattle.model.specs.Calls.{heard}
use Rattle.messages.proofs.Rules.{data-there, reg-there}
use Rattle.model.proofs.Handlers.{silent-handles}
use Rattle.reception.proofs.hear.Goals as goal

pub register_peer-requires : goal.register_peer-requires
register_peer-requires c =
    (c.requires.0, omega arith, reg-there _ _ (sym c.requires.3 ∙ c.in-RegReq.is), c.requires.2)

pub payload-requires : goal.payload-requires
payload-requires c = data-there _ _ (sym c.requires.3 ∙ c.in-Data.is)

pub returns-in-RegAck : goal.returns-in-RegAck
unfolding heard
returns-in-RegAck c = rw c.in-RegAck.is (silent-handles _ c.acknowledge.ensures)

pub returns-in-RegNack : goal.returns-in-RegNack
unfolding heard
returns-in-RegNack c = rw c.in-RegNack.is (silent-handles _ c.not_acknowledge.ensures)

pub returns-in-UnregAck : goal.returns-in-UnregAck
unfolding heard
returns-in-UnregAck c = rw c.in-UnregAck.is (silent-handles _ c.only_noted.ensures)

pub returns-in-UnregNack : goal.returns-in-UnregNack
unfolding heard
returns-in-UnregNack c = rw c.in-UnregNack.is (silent-handles _ c.only_noted-in-UnregNack.ensures)

pub returns-in-Nack : goal.returns-in-Nack
unfolding heard
returns-in-Nack c = rw c.in-Nack.is (silent-handles _ c.only_noted-in-Nack.ensures)

pub returns-in-Bad : goal.returns-in-Bad
unfolding heard
returns-in-Bad c = rw c.in-Bad.is (silent-handles _ c.close.ensures)
