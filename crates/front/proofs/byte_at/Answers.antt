-- `front::byte_at` meets its contract: the byte of the part, or of the piece behind it.
-- Assumes nothing.
use native.Mathlib.Omega.{arith}
use Rattle.front.proofs.Joined.{byte-before, byte-behind}
use Prim.Native.Nat.{◌-◌}
use lib.ListN.{length}
use Rattle.front.proofs.byte_at.Goals as goal

pub overflow_cast-result : goal.overflow_cast-result
overflow_cast-result c = omega (arith, c.shared_slice_known-1.given c.args.i)

pub returns-then-i-kept : goal.returns-then-i-kept
returns-then-i-kept c =
    let a = c.args in
    let below : _ = c.shared_slice_known-1.given a.i in
    (byte-before a.part.now a.piece.now a.i c.if-i-kept.true (omega arith), omega arith)

pub overflow_cast-result-2 : goal.overflow_cast-result-2
overflow_cast-result-2 c = let a = c.args in omega (arith, c.shared_slice_known-2-1.given (a.i - length a.part.now))

pub returns : goal.returns
returns c =
    let a = c.args in
    let below : _ = c.shared_slice_known-2-1.given (a.i - length a.part.now) in
    (byte-behind a.part.now a.piece.now a.i c.if-i-kept.false (omega arith), omega arith)
