-- `device_list::all_apart` meets its contract: where the ids rise no two devices are alike.
-- Assumes nothing.
use mathlib.Core.Path.{sym, ◌∙◌}
use Rattle.device_list.proofs.Rising.{rising-apart}
use Rattle.device_list.proofs.all_apart.Goals as goal

pub returns-then-ids_rise : goal.returns-then-ids_rise
returns-then-ids_rise c = c.if-ids_rise.true ∙ sym (rising-apart _ _ _ (sym c.ids_rise.ensures ∙ c.if-ids_rise.true))

pub returns-else-ids_rise : goal.returns-else-ids_rise
returns-else-ids_rise c = c.each_apart.ensures
