-- `service_soundness::handles_apart` meets its contract: by the quick test or by the exact one.
-- Assumes nothing.
use mathlib.Core.Path.{sym, ◌∙◌}
use Rattle.service_soundness.proofs.handles_apart.Goals as goal

pub returns-then-handles_alone : goal.returns-then-handles_alone
returns-then-handles_alone c = c.if-handles_alone.true ∙ sym (c.handles_alone.ensures c.if-handles_alone.true)

pub returns-else-handles_alone : goal.returns-else-handles_alone
returns-else-handles_alone c = c.live_handles_apart.ensures
