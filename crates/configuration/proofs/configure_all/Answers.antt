use native.Mathlib.Omega.{arith}
use mathlib.Core.Path.{refl}
use Rattle.configuration.proofs.Laws.{passed_none, passed-more, passes, mask_fits, order-next}
use Rattle.configuration.proofs.configure_all.Goals as goal

pub loop-i-init : goal.loop-i-init
loop-i-init c = (refl, passed_none _ _ _ c.told-state c.requires.0)

pub put_result-requires : goal.put_result-requires
put_result-requires c =
    (omega arith, order-next _ _ _ _ c.loop-i.invariant.1 c.pair-addr.ensures.0 c.pair-addr.ensures.1 c.configure_one-step.ensures, omega arith)

pub overflow_add-mask : goal.overflow_add-mask
overflow_add-mask c =
    omega (arith, mask_fits _ _ _ _ c.loop-i.invariant.1 c.pair-addr.ensures.0 c.pair-addr.ensures.1 c.configure_one-step.ensures)

pub loop-i-preserved : goal.loop-i-preserved
loop-i-preserved c =
    (omega arith, passed-more _ _ _ _ c.loop-i.invariant.1 c.pair-addr.ensures.0 c.pair-addr.ensures.1 c.configure_one-step.ensures c.put_result.ensures)

pub returns : goal.returns
returns c = passes _ _ _ _ _ (omega arith) (omega arith) c.loop-i.invariant.1
