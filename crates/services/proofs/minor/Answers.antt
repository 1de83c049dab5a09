-- `services::minor` meets its contract, by the table's rule.
-- Assumes nothing.
use mathlib.Core.Path.{ap, ◌∙◌}
use Rattle.model.specs.Messages.{Service}
use Rattle.services.proofs.minor.Goals as goal

pub returns : goal.returns
returns c = c.from.ensures ∙ ap (λ (s : Service). s.minor) c.row_of.ensures.same
