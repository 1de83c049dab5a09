use mathlib.Core.Path.{ap}
use mathlib.Core.Bool.{not}
use mathlib.Core.Path.{sym, ◌∙◌}
use Rattle.basics.proofs.Loops.{no, yes, every-none, every_more, every-fails, every-all}
use Rattle.service_soundness.proofs.Rules.{apart-idle, apart-live}
use Rattle.service_soundness.proofs.handle_apart.Goals as goal

pub returns-then-not-differs : goal.returns-then-not-differs
returns-then-not-differs c = every-fails _ _ _ c.loop-j-test.true (no _ c.differs.ensures (ap not c.if-not-differs.true))
    ∙ sym (apart-live _ _ c.if-state-k-eq-IDLE.false)

pub loop-j-preserved : goal.loop-j-preserved
loop-j-preserved c = every_more _ _ c.loop-j.invariant (yes _ c.differs.ensures (ap not c.if-not-differs.false))

pub returns : goal.returns
returns c = every-all _ _ _ c.loop-j.auto.j-end c.loop-j-test.false c.loop-j.invariant
    ∙ sym (apart-live _ _ c.if-state-k-eq-IDLE.false)

pub returns-then-state-k-eq-IDLE : goal.returns-then-state-k-eq-IDLE
returns-then-state-k-eq-IDLE c = sym (apart-idle _ _ c.if-state-k-eq-IDLE.true)

pub loop-j-init : goal.loop-j-init
loop-j-init c = every-none _
