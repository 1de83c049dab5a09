-- `device_list::keep_rules` meets its contract: a device that breaks its rules decides, and past them the devices must be apart.
-- Assumes nothing.
use mathlib.Core.Path.{sym, ◌∙◌}
use Rattle.basics.proofs.Choice.{clash}
use Rattle.basics.proofs.Loops.{refute}
use Rattle.device_list.proofs.Names.{devices-each, devices-last}
use Rattle.device_list.proofs.keep_rules.Goals as goal

pub all_apart-requires : goal.all_apart-requires
all_apart-requires c = (c.requires.1, sym c.each_keeps.ensures ∙ c.if-each_keeps.true)

pub returns-then-each_keeps : goal.returns-then-each_keeps
returns-then-each_keeps c =
    c.all_apart.ensures ∙ sym (devices-last _ _ _ c.requires.0 (sym c.each_keeps.ensures ∙ c.if-each_keeps.true))

pub returns-else-each_keeps : goal.returns-else-each_keeps
returns-else-each_keeps c =
    c.if-each_keeps.false
    ∙ refute _ (λ t. clash _ (sym c.each_keeps.ensures ∙ c.if-each_keeps.false) (devices-each _ _ _ t))
