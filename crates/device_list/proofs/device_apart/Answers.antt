-- `device_list::device_apart` meets its contract: devices whose ids differ are apart.
-- Assumes nothing.
use mathlib.Core.Path.{sym, ◌∙◌}
use Rattle.device_list.proofs.Rising.{ids-apart}
use Rattle.device_list.proofs.device_apart.Goals as goal

pub returns-then-id_apart : goal.returns-then-id_apart
returns-then-id_apart c = c.if-id_apart.true ∙ sym (ids-apart _ _ _ (sym c.id_apart.ensures ∙ c.if-id_apart.true))

pub returns-else-id_apart : goal.returns-else-id_apart
returns-else-id_apart c = c.name_apart.ensures
