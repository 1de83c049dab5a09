use mathlib.Core.Path.{sym, ◌∙◌}
use Rattle.configuration.proofs.Laws.{unchanged-at, configured-at}
use Rattle.configuration.proofs.configure_at.Goals as goal

pub returns-then-configured_of-ne0 : goal.returns-then-configured_of-ne0
returns-then-configured_of-ne0 c = unchanged-at _ _ (λ e. c.if-configured_of-ne0.true (c.configured_of.ensures ∙ e))

pub returns : goal.returns
returns c = let p = c.requires in configured-at _ _ c.told-state p.1 p.0 (sym c.configured_of.ensures ∙ c.if-configured_of-ne0.false) c.set_configured.ensures c.bit.ensures
