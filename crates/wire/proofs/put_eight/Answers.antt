-- `wire::put_eight` meets its contract. The loop's invariant: the bytes passed are stored.
-- Assumes nothing.
use mathlib.Core.Path.{refl, ap, ◌∙◌}
use native.Mathlib.Omega.{arith}
use lib.ListN.{length-set}
use lib.Seq.{sets, take_all}
use Rattle.wire.proofs.Laws.{sets_more}
use Rattle.wire.proofs.put_eight.Goals as goal

pub loop-i-preserved : goal.loop-i-preserved
loop-i-preserved c =
    let inv = c.loop-i.invariant in
    (rw length-set inv.0, sets_more _ _ _ _ (omega arith) inv.1)

pub returns : goal.returns
returns c =
    let l = c.loop-i in
    l.invariant.1 ∙ ap (sets _ _) (take_all l.i c.args.bytes (omega arith))

pub loop-i-init : goal.loop-i-init
loop-i-init c = (refl, refl)
