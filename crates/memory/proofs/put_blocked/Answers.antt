use Rattle.memory.proofs.Laws.{pair_same}
use mathlib.Core.Path.{refl}
use native.Mathlib.Omega.{arith}
use Rattle.basics.specs.Choice.{joined}
use Rattle.model.specs.Memory.{DR-MEM-RES-BLOCKED}
use Rattle.model.proofs.Replies.{result-length}
use Rattle.records.proofs.Parts.{result-more}
use Rattle.memory.proofs.put_blocked.Goals as goal

pub loop-i-preserved : goal.loop-i-preserved
loop-i-preserved c =
    let a = c.args in
    (omega arith, result-more _ (λ i. result-length _ _ _ _) _ _ c.loop-i.invariant.1 c.put_result.ensures (pair_same a.state.now a.records.now.bytes.now c.loop-i.i DR-MEM-RES-BLOCKED c.pair-addr.ensures.0 c.pair-addr.ensures.1))

pub loop-i-init : goal.loop-i-init
unfolding joined
loop-i-init c = (refl, refl)
