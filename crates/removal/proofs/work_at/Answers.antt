use mathlib.Core.Path.{refl, sym, ◌∙◌}
use Rattle.removal.proofs.Laws.{goes_on_lem, at-permanent, at-movable}
use Rattle.removal.proofs.work_at.Goals as goal

pub permanent_of-requires : goal.permanent_of-requires
permanent_of-requires c = let p = c.requires in (goes_on_lem _ _ p.0 p.1).known

pub returns-then-permanent_of-ne0 : goal.returns-then-permanent_of-ne0
returns-then-permanent_of-ne0 c = at-permanent _ _ _ _ _ (λ e. c.if-permanent_of-ne0.true (c.permanent_of.ensures ∙ e)) c.end_step.ensures

pub work_on-requires : goal.work_on-requires
work_on-requires c = let p = c.requires in (p.0.held, goes_on_lem _ _ p.0 p.1)

pub returns-else-permanent_of-ne0 : goal.returns-else-permanent_of-ne0
returns-else-permanent_of-ne0 c = at-movable _ _ _ _ _ (sym c.permanent_of.ensures ∙ c.if-permanent_of-ne0.false) refl c.work_on.ensures
