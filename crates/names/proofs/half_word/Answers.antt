-- `names::half_word` meets its contract: the sum is the number's definition, written out.
-- Assumes nothing.
use mathlib.Core.Path.{ap}
use native.Mathlib.Nat.{add-zero}
use Rattle.wire.specs.BigEndian.{byte_at, number_at}
use native.Mathlib.Omega.{arith}
use Rattle.names.proofs.half_word.Goals as goal

pub returns : goal.returns
unfolding number_at
returns c =
    omega (arith, ap (byte_at c.args.b.now) (add-zero c.args.at))
