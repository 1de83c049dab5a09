-- `wire::get16` meets its contract: the sum is the number's definition, written out.
-- Assumes nothing.
use mathlib.Core.Path.{ap}
use native.Mathlib.Nat.{add-zero}
use native.Mathlib.Omega.{arith}
use Rattle.wire.specs.BigEndian.{byte_at, number_at}
use Rattle.wire.proofs.get16.Goals as goal

pub returns : goal.returns
unfolding number_at
returns c =
    let args : _ = c.before.before.before.args in omega (arith, ap (byte_at args.m.now) (add-zero args.at))
