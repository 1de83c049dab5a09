-- `front::part_of` meets its contract: the bytes from the room's start.
-- Assumes nothing.
use native.Mathlib.Omega.{arith}
use mathlib.Core.Path.{◌≡◌}
use Prim.Native.Nat.{◌+◌, ◌-◌, ◌*◌}
use Rattle.front_model.specs.Front.{most_message}
use Rattle.front.proofs.part_of.Goals as goal

pub returns : goal.returns
returns c =
    let a = c.args in
    let e : a.channel * most_message + a.count - a.channel * most_message ≡ a.count = omega arith in
    rw e
