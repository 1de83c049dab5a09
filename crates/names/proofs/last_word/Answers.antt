-- `names::last_word` meets its contract, by the law of a number in two parts.
-- Assumes nothing.
use Rattle.wire.proofs.Laws.{number-split}
use native.Mathlib.Omega.{arith}
use Rattle.names.proofs.last_word.Goals as goal

pub returns : goal.returns
returns c =
    omega (arith, number-split c.args.b.now c.args.at 4 4)
