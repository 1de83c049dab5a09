-- `memory::dispatch` meets its contract: each request by its own function; a request with records has at most 64, and all their bytes.
-- Assumes nothing.
use native.Mathlib.Omega.{arith}
use Rattle.basics.specs.Choice.{pick}
use Rattle.model.specs.declared.Request.TheVariants.{Configure, Unconfigure, Query}
use Rattle.model.specs.Memory.{requested}
use Rattle.model.proofs.Search.{sound-in-order}
use Rattle.model.proofs.Handlers.{silent-handles}
use Rattle.memory.proofs.Laws.{formed}
use Rattle.memory.proofs.dispatch.Goals as goal

pub new-requires : goal.new-requires
new-requires c = formed _ (Configure _) c.requires.2 c.in-Configure.is

pub new-requires-in-Configure-2 : goal.new-requires-in-Configure-2
new-requires-in-Configure-2 c = formed _ (Configure _) c.requires.2 c.in-Configure-2.is

pub new-requires-in-Unconfigure : goal.new-requires-in-Unconfigure
new-requires-in-Unconfigure c = formed _ (Unconfigure _) c.requires.2 c.in-Unconfigure.is

pub new-requires-in-Unconfigure-2 : goal.new-requires-in-Unconfigure-2
new-requires-in-Unconfigure-2 c = formed _ (Unconfigure _) c.requires.2 c.in-Unconfigure-2.is

pub new-requires-in-Query : goal.new-requires-in-Query
new-requires-in-Query c = formed _ (Query _) c.requires.2 c.in-Query.is

pub block-requires : goal.block-requires
block-requires c = (sound-in-order _ c.requires.0, omega arith)

pub configure-requires : goal.configure-requires
configure-requires c = (sound-in-order _ c.requires.0, omega arith)

pub block-requires-in-Unconfigure : goal.block-requires-in-Unconfigure
block-requires-in-Unconfigure c = (sound-in-order _ c.requires.0, omega arith)

pub returns-in-Configure : goal.returns-in-Configure
unfolding requested pick
returns-in-Configure c = rw (c.in-Configure.is, ← c.if-is_outstanding.ensures, ← c.new.ensures.0, ← c.new.ensures.1) c.block.ensures

pub returns-in-Configure-2 : goal.returns-in-Configure-2
unfolding requested pick
returns-in-Configure-2 c = rw (c.in-Configure-2.is, ← c.if-is_outstanding.ensures, ← c.new-in-Configure-2.ensures.0, ← c.new-in-Configure-2.ensures.1) c.configure.ensures

pub returns-in-Unconfigure : goal.returns-in-Unconfigure
unfolding requested pick
returns-in-Unconfigure c = rw (c.in-Unconfigure.is, ← c.if-is_outstanding-2.ensures, ← c.new-in-Unconfigure.ensures.0, ← c.new-in-Unconfigure.ensures.1) c.block-in-Unconfigure.ensures

pub returns-in-Unconfigure-2 : goal.returns-in-Unconfigure-2
unfolding requested pick
returns-in-Unconfigure-2 c = rw (c.in-Unconfigure-2.is, ← c.if-is_outstanding-2.ensures, ← c.new-in-Unconfigure-2.ensures.0, ← c.new-in-Unconfigure-2.ensures.1) (silent-handles _ c.begin.ensures)

pub returns-in-Query : goal.returns-in-Query
unfolding requested
returns-in-Query c = rw (c.in-Query.is, ← c.new-in-Query.ensures.0, ← c.new-in-Query.ensures.1) c.query.ensures

pub returns-in-Status : goal.returns-in-Status
unfolding requested
returns-in-Status c = rw c.in-Status.is c.report.ensures

pub returns-in-Cancel : goal.returns-in-Cancel
unfolding requested
returns-in-Cancel c = rw c.in-Cancel.is c.cancel.ensures

pub returns-in-Malformed : goal.returns-in-Malformed
unfolding requested
returns-in-Malformed c = rw c.in-Malformed.is (c.error.ensures _)
