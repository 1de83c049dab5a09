-- `removal_soundness::results_sound` meets its contract: every result passed is OK or NOWORK.
-- Assumes nothing.
use mathlib.Core.Path.{ap}
use mathlib.Core.Bool.{not}
use mathlib.Core.Path.{sym, ◌∙◌}
use native.Mathlib.Omega.{arith}
use Rattle.model.specs.Layout.{removal_of}
use Rattle.basics.proofs.Loops.{no, yes, every-none, every_more, every-fails, every-all}
use Rattle.removal_soundness.proofs.Rules.{results-words}
use Rattle.removal_soundness.proofs.results_sound.Goals as goal

pub returns-then-not-result_sound : goal.returns-then-not-result_sound
unfolding removal_of
returns-then-not-result_sound c =
    every-fails _ _ _ c.loop-i-test.true (no _ c.result_sound.ensures (ap not c.if-not-result_sound.true))
    ∙ sym (results-words c.args.state.now (omega arith))

pub loop-i-preserved : goal.loop-i-preserved
loop-i-preserved c =
    let l = c.loop-i in
    every_more _ _ l.invariant (yes _ c.result_sound.ensures (ap not c.if-not-result_sound.false))

pub returns : goal.returns
unfolding removal_of
returns c =
    every-all _ _ _ c.loop-i.auto.i-end c.loop-i-test.false c.loop-i.invariant
    ∙ sym (results-words c.args.state.now (omega arith))

pub loop-i-init : goal.loop-i-init
unfolding removal_of
loop-i-init c = every-none _

pub overflow_add-i : goal.overflow_add-i
unfolding removal_of
overflow_add-i c = omega arith

pub offset_bounds-state-i : goal.offset_bounds-state-i
unfolding removal_of
offset_bounds-state-i c = omega arith

pub bounds-state-i : goal.bounds-state-i
unfolding removal_of
bounds-state-i c = omega arith
