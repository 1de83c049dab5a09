use Rattle.model.specs.Layout.{removal_of}
use native.Mathlib.Omega.{arith}
use mathlib.Core.Path.{sym, ◌∙◌}
use Rattle.removal_state.proofs.Laws.{collected-is}
use Rattle.removal.proofs.Laws.{works-nowork, works-collects}
use Rattle.removal.proofs.work_on.Goals as goal

pub returns-then-configured_of-eq0 : goal.returns-then-configured_of-eq0
returns-then-configured_of-eq0 c = works-nowork _ _ _ _ (sym c.configured_of.ensures ∙ c.if-configured_of-eq0.true) c.settle.ensures

pub pages_moved-n-requires : goal.pages_moved-n-requires
unfolding removal_of
pages_moved-n-requires c =
    omega (arith, c.collected_of.ensures, c.pages_of.ensures, c.requires.1.remain)

pub collect-requires : goal.collect-requires
unfolding removal_of
collect-requires c = let p = c.requires in (p.0, p.1.known, p.1.place, omega (arith, c.collected_of.ensures, c.pages_of.ensures, c.pages_moved-n.ensures, p.1.remain))

pub returns : goal.returns
returns c = works-collects _ _ _ _ _ (λ e. c.if-configured_of-eq0.false (c.configured_of.ensures ∙ e)) c.pages_of.ensures (collected-is _ c.collected_of.ensures) c.pages_moved-n.ensures c.collect.ensures
