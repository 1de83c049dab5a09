-- `id_list::each_apart` meets its contract: every id passed is apart from those before it.
-- Assumes nothing.
use mathlib.Core.Path.{ap}
use mathlib.Core.Bool.{not}
use native.Mathlib.Omega.{arith}
use Rattle.basics.proofs.Choice.{every-at, every-make}
use Rattle.basics.proofs.Loops.{no, yes, every-none, every_more, every-fails, every-all}
use Rattle.id_list.proofs.each_apart.Goals as goal

pub id_apart-requires : goal.id_apart-requires
id_apart-requires c =
    let each = c.requires.1 in
    let here = c.loop-p-test.true in
    (omega arith, every-make _ _ (λ k h. every-at _ _ k each (omega arith)), every-at _ _ _ each here)

pub returns-then-not-id_apart : goal.returns-then-not-id_apart
returns-then-not-id_apart c =
    every-fails _ _ _ c.loop-p-test.true (no _ c.id_apart.ensures (ap not c.if-not-id_apart.true))

pub loop-p-preserved : goal.loop-p-preserved
loop-p-preserved c =
    every_more _ _ c.loop-p.invariant (yes _ c.id_apart.ensures (ap not c.if-not-id_apart.false))

pub returns : goal.returns
returns c = let l = c.loop-p in every-all _ _ _ l.auto.p-end c.loop-p-test.false l.invariant

pub loop-p-init : goal.loop-p-init
loop-p-init c = every-none _
