-- `wire::get64` meets its contract, by the law of a number in two parts.
-- Assumes nothing.
use native.Mathlib.Omega.{arith}
use Rattle.wire.proofs.Laws.{number-split}
use Rattle.wire.proofs.get64.Goals as goal

pub returns : goal.returns
returns c =
    let args : _ = c.before.before.before.args in omega (arith, number-split args.m.now args.at 4 4)
