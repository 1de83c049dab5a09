use mathlib.Core.Bool.{false}
use mathlib.Core.Path.{refl, sym, ◌∙◌}
use Rattle.basics.proofs.Loops.{every-none, every-all}
use Rattle.basics.proofs.Choice.{clash}
use Rattle.service_soundness.proofs.Rules.{apart-idle, apart-live, apart_more}
use Rattle.service_soundness.proofs.handle_alone.Goals as goal

pub loop-j-preserved : goal.loop-j-preserved
loop-j-preserved c =
    apart_more c.args.state.now c.args.k _ c.loop-j.invariant c.if-state-j.false

pub returns : goal.returns
returns c e =
    apart-live _ _ c.if-state-k-eq-IDLE.false
    ∙ sym (every-all _ _ _ c.loop-j.auto.j-end c.loop-j-test.false c.loop-j.invariant)

pub returns-then-state-k-eq-IDLE : goal.returns-then-state-k-eq-IDLE
returns-then-state-k-eq-IDLE c e = apart-idle _ _ c.if-state-k-eq-IDLE.true

pub loop-j-init : goal.loop-j-init
loop-j-init c = every-none _

pub returns-then-state-j : goal.returns-then-state-j
returns-then-state-j c e = absurd (clash false refl e)
