use Rattle.model.specs.Layout.{removal_of}
use native.Mathlib.Omega.{arith}
use mathlib.Core.Path.{sym, ap, ◌∙◌}
use Rattle.model.specs.Work.{failing_code}
use Rattle.removal_state.proofs.Laws.{cancelled-is}
use Rattle.removal.proofs.Laws.{code-cancelled, code-settled, code-failing}
use Rattle.removal.proofs.end_code.Goals as goal

pub returns-then-is_cancelled : goal.returns-then-is_cancelled
returns-then-is_cancelled c = sym (code-cancelled _ _ (cancelled-is _ c.is_cancelled.ensures c.if-is_cancelled.true))

pub returns-then-count_of-position_of : goal.returns-then-count_of-position_of
unfolding removal_of
returns-then-count_of-position_of c = let s = c.args.state.now in sym (code-settled s (removal_of s) (cancelled-is s c.is_cancelled.ensures c.if-is_cancelled.false) (omega arith))

pub block_now-requires : goal.block_now-requires
unfolding removal_of
block_now-requires c = let p = c.requires in (p.blocks, omega (arith, p.records))

pub returns-else-count_of-position_of : goal.returns-else-count_of-position_of
unfolding removal_of
returns-else-count_of-position_of c = let s = c.args.state.now in c.failing_code.ensures ∙ ap failing_code c.block_now.ensures ∙ sym (code-failing s (removal_of s) (cancelled-is s c.is_cancelled.ensures c.if-is_cancelled.false) (omega arith))
