-- `names::zero_bytes` meets its contract, by the law of a word's bytes that are 0.
-- Assumes nothing.
use native.Mathlib.Omega.{arith}
use Rattle.names.proofs.Zeros.{low-most, zeros_law}
use Rattle.names.proofs.zero_bytes.Goals as goal

pub overflow_add-other : goal.overflow_add-other
overflow_add-other c = omega (arith, low-most c.args.w)

pub returns : goal.returns
returns c = zeros_law _
