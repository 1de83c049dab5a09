-- `registration::register_listed` meets its contract: the cases of the definition.
-- Assumes nothing.
use mathlib.Core.Path.{sym, ◌∙◌}
use Rattle.basics.proofs.Choice.{pick_true, pick-false}
use Rattle.registration.proofs.register_listed.Goals as goal

pub returns-then-is_peered : goal.returns-then-is_peered
returns-then-is_peered c =
    rw (pick_true _ _ _ (sym c.is_peered.ensures ∙ c.if-is_peered.true), ← c.get64.ensures) (c.refuse.ensures _)

pub returns : goal.returns
returns c = rw (pick-false _ _ _ (sym c.is_peered.ensures ∙ c.if-is_peered.false)) c.register_id.ensures
