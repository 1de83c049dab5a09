-- `names::byte_or_zero` meets its contract: an element of a slice of bytes is below 256, and past the end there is none.
-- Assumes nothing.
use mathlib.Core.Path.{sym}
use Rattle.wire.proofs.Laws.{byte-at}
use Rattle.names.proofs.Names.{byte_past}
use native.Mathlib.Omega.{arith}
use Rattle.names.proofs.byte_or_zero.Goals as goal

pub overflow_cast-result : goal.overflow_cast-result
overflow_cast-result c = omega (arith, c.type_inv.b c.args.i)

pub returns-then-i-b : goal.returns-then-i-b
returns-then-i-b c =
    let below : _ = c.type_inv.b c.args.i in
    (byte-at _ _ (omega arith), omega arith)

pub returns : goal.returns
returns c = (sym (byte_past _ _ c.if-i-b.false), omega arith)
