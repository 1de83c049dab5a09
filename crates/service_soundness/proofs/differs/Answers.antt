use Rattle.model.specs.Layout.{stage_at}
use Rattle.service_soundness.proofs.Rules.{differs-other, differs-same}
use mathlib.Core.Path.{sym, ap, ◌∙◌}
use mathlib.Core.Bool.{not}
use borrow.Author.Tests.{ne_eqb}
use Rattle.service_soundness.proofs.differs.Goals as goal

pub returns-then-state-at : goal.returns-then-state-at
returns-then-state-at c =
    ap not (ne_eqb _ _ c.if-state-at.true) ∙ sym (differs-other (stage_at c.args.state.now c.args.j) _ _ c.if-state-at.true)

pub returns-else-state-at : goal.returns-else-state-at
returns-else-state-at c =
    sym (differs-same (stage_at c.args.state.now c.args.j) _ _ c.if-state-at.false)
