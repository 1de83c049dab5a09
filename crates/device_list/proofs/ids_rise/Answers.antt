-- `device_list::ids_rise` meets its contract: each id passed is below the next.
-- Assumes nothing.
use mathlib.Core.Path.{◌≡◌, refl, ◌∙◌}
use Prim.Native.Nat.{◌-◌}
use native.Mathlib.Omega.{arith}
use Rattle.basics.specs.Choice.{every}
use Rattle.device_list.specs.Rising.{ids_rise}
use Rattle.device_list.proofs.Rising.{rises-next}
use Rattle.device_list.proofs.ids_rise.Goals as goal

pub loop-j-preserved : goal.loop-j-preserved
loop-j-preserved c =
    (omega arith, rises-next c.args.words.now c.args.at c.loop-j.j c.loop-j.rise c.loop-j.auto.j c.loop-j.invariant.1)

pub returns : goal.returns
unfolding ids_rise
returns c =
    let l = c.loop-j in
    let past : l.j - 1 ≡ c.args.n - 1 = omega arith in
    l.invariant.1 ∙ rw past

pub loop-j-init : goal.loop-j-init
unfolding every
loop-j-init c = (omega arith, refl)
