-- `front::copy` meets its contract: the bytes passed are stored.
-- Assumes nothing.
use mathlib.Core.Path.{refl, ap, ◌∙◌}
use native.Mathlib.Omega.{arith}
use lib.Seq.{sets, take_all}
use Rattle.wire.proofs.Laws.{sets_more}
use Rattle.front.proofs.copy.Goals as goal

pub loop-i-preserved : goal.loop-i-preserved
loop-i-preserved c = sets_more _ _ _ _ c.loop-i-test.true c.loop-i.invariant

pub returns : goal.returns
returns c = c.loop-i.invariant ∙ ap (sets _ _) (take_all c.loop-i.i c.args.piece.now (omega arith))

pub loop-i-init : goal.loop-i-init
loop-i-init c = refl
