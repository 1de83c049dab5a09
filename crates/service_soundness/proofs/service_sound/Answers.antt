use mathlib.Core.Path.{ap}
use mathlib.Core.Bool.{not}
use native.Mathlib.Omega.{arith}
use mathlib.Core.Path.{sym, ◌∙◌}
use borrow.Author.Tests.{eq-eqb, ne_eqb}
use Rattle.basics.specs.Choice.{◌or◌}
use Rattle.basics.proofs.Choice.{clash}
use Rattle.basics.proofs.Loops.{refute, no, yes}
use Rattle.model.proofs.Rules.{Live, ours-facts, ours-test, service-idle, live-rules, live-last}
use Rattle.service_soundness.proofs.service_sound.Goals as goal
use Rattle.service_soundness.proofs.service_sound.Lts as lts
use Rattle.service_soundness.proofs.service_sound.Reads as reads
use Rattle.service_soundness.proofs.service_sound.Tie as tie

pub returns-then-stage-gt-REGISTERED : goal.returns-then-stage-gt-REGISTERED
returns-then-stage-gt-REGISTERED c = refute _ (λ t. let r = live-rules _ _ _ _ _ (λ e. omega arith) t in omega (arith, r.stages))

pub returns-then-ready-ne1 : goal.returns-then-ready-ne1
returns-then-ready-ne1 c = refute _ (λ t. let r = live-rules _ _ _ _ _ (λ e. omega arith) t in omega (arith, r.is_ready))

pub returns-then-not-is_ours : goal.returns-then-not-is_ours
returns-then-not-is_ours c = refute _ (λ t. let r = live-rules _ _ _ _ _ (λ e. omega arith) t in clash _ (no _ c.is_ours.ensures (ap not c.if-not-is_ours.true)) (ours-test _ _ _ r.ours))

-- past the tests of a live service
live : (c : (lts.Else4 tie.the-claims reads.Pre reads.Post)) → Live c.args.stage c.args.handle c.args.ready c.args.last
live c = record {
  stages = omega arith;
  is_ready = omega arith;
  ours = ours-facts _ _ _ (yes _ c.is_ours.ensures (ap not c.if-not-is_ours.false));
}

pub returns-then-stage-eq-OFFERED : goal.returns-then-stage-eq-OFFERED
unfolding ◌or◌
returns-then-stage-eq-OFFERED c = sym (live-last _ _ _ _ _ (λ e. omega arith) (live (search)) ∙ rw (eq-eqb _ _ c.if-stage-eq-OFFERED.true))

pub returns : goal.returns
unfolding ◌or◌
returns c = sym (live-last _ _ _ _ _ (λ e. omega arith) (live (search)) ∙ rw (ne_eqb _ _ c.if-stage-eq-OFFERED.false))

pub returns-then-stage-eq-IDLE : goal.returns-then-stage-eq-IDLE
returns-then-stage-eq-IDLE c = sym (service-idle _ _ _ _ _ c.if-stage-eq-IDLE.true)
