-- `wire::byte` meets its contract: an element of a slice of bytes is below 256.
-- Assumes nothing.
use native.Mathlib.Omega.{arith}
use Rattle.wire.proofs.Laws.{byte-at}
use Rattle.wire.proofs.byte.Goals as goal

pub returns : goal.returns
returns c = let small = c.type_inv.m c.args.at in (byte-at _ _ (omega arith), omega arith)
