-- `devices::none_is_zero` meets its contract: no byte passed is 0.
-- Assumes nothing.
use mathlib.Core.Bool.{not}
use mathlib.Core.Path.{◌≡◌, refl, ◌∙◌}
use Prim.Native.Nat.{◌+◌, ◌-◌}
use native.Mathlib.Numerals.{add-one}
use native.Mathlib.Nat.{le_antisymm}
use native.Mathlib.Omega.{arith}
use lib.ListN.{get_or}
use lib.Dec.{eqb}
use Rattle.wire.specs.BigEndian.{byte_at}
use Rattle.wire.proofs.Laws.{byte-at}
use Rattle.basics.specs.Choice.{every}
use Rattle.names.proofs.Bytes.{both-pass}
use Rattle.devices.proofs.none_is_zero.Goals as goal

pub loop-k-preserved : goal.loop-k-preserved
unfolding every
loop-k-preserved c =
    let l = c.loop-k in
    let a = c.args in
    let is_byte : get_or a.b.now (a.from + l.k) 0 ≡ byte_at a.b.now (a.from + l.k) = byte-at _ _ (omega (arith, c.requires, c.loop-k-test.true)) in
    both-pass l.none (not (eqb (get_or a.b.now (a.from + l.k) 0) 0)) ∙ rw (l.invariant, is_byte, add-one)

pub returns : goal.returns
returns c = rw (le_antisymm c.loop-k.auto.k-end c.loop-k-test.false) at c.loop-k.invariant

pub loop-k-init : goal.loop-k-init
unfolding every
loop-k-init c = refl
