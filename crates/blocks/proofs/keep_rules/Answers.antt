-- `blocks::keep_rules` meets its contract: every block passed keeps the rules, and the floor is the end of the last of them.
-- Assumes nothing.
use mathlib.Core.Path.{ap}
use mathlib.Core.Bool.{not}
use mathlib.Core.Path.{refl}
use native.Mathlib.Numerals.{add-one}
use native.Mathlib.Omega.{arith}
use Rattle.model.proofs.Rules.{block-rules}
use Rattle.model.specs.Blocks.{end_before}
use Rattle.model.specs.Layout.{block_in}
use Rattle.basics.proofs.Loops.{no, yes, every-none, every_more, every-fails, every-all}
use Rattle.blocks.proofs.keep_rules.Goals as goal

pub returns-then-not-block_keeps : goal.returns-then-not-block_keeps
unfolding block_in
returns-then-not-block_keeps c =
    every-fails _ _ _ c.loop-i-test.true
    (rw (← c.loop-i.invariant.0) (no _ c.block_keeps.ensures (ap not c.if-not-block_keeps.true)))

pub overflow_mul-floor : goal.overflow_mul-floor
overflow_mul-floor c = let r = (block-rules _ _ (yes _ c.block_keeps.ensures (ap not c.if-not-block_keeps.false))).0 in omega arith

pub overflow_add-floor : goal.overflow_add-floor
overflow_add-floor c = let r = (block-rules _ _ (yes _ c.block_keeps.ensures (ap not c.if-not-block_keeps.false))).0 in omega arith

pub loop-i-preserved : goal.loop-i-preserved
unfolding block_in end_before
loop-i-preserved c =
    let l = c.loop-i in (
      rw (add-one l.i),
      every_more _ _ l.invariant.1 (rw (← l.invariant.0) (yes _ c.block_keeps.ensures (ap not c.if-not-block_keeps.false))),
    )

pub returns : goal.returns
returns c = every-all _ _ _ c.loop-i.auto.i-end c.loop-i-test.false c.loop-i.invariant.1

pub loop-i-init : goal.loop-i-init
unfolding end_before
loop-i-init c = (refl, every-none _)
