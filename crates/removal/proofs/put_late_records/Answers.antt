use native.Mathlib.Omega.{arith}
use mathlib.Core.Path.{refl}
use Rattle.basics.specs.Choice.{joined}
use Rattle.model.proofs.Replies.{result-length}
use Rattle.records.proofs.Parts.{result-more}
use Rattle.removal.proofs.Laws.{late-record}
use Rattle.removal.proofs.put_late_records.Goals as goal

pub loop-i-preserved : goal.loop-i-preserved
loop-i-preserved c =
    (omega arith, result-more _ (λ i. result-length _ _ _ _) _ _ c.loop-i.invariant.1 c.put_result.ensures (late-record c.args.state.now c.loop-i.i (omega arith) c.address_of-addr.ensures c.size_of-size.ensures c.result_at-result.ensures))

pub loop-i-init : goal.loop-i-init
unfolding joined
loop-i-init c = (refl, refl)
