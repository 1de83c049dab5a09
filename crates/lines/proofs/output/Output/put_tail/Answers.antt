-- `lines::output::Output::put_tail` meets its contract, part by part.
-- Assumes nothing.
use Rattle.std.proofs.Common.{arith, ne_eqb}
use Rattle.basics.specs.Choice.{pick}
use Rattle.lines.specs.Forms.{tail_of}
use Rattle.lines.proofs.Puts.{puts_then, puts-within}
use native.Mathlib.Omega.{arith}
use Rattle.lines.proofs.output.Output.put_tail.Goals as goal

pub returns-then-bytes-eq0 : goal.returns-then-bytes-eq0
unfolding tail_of pick
returns-then-bytes-eq0 c = rw c.if-bytes-eq0.true (puts-within _ (omega arith) c.put_byte.ensures)

pub returns : goal.returns
unfolding tail_of pick
returns c =
    rw (ne_eqb _ 0 c.if-bytes-eq0.false)
    (puts-within _ (omega arith) (puts_then c.put_byte-2.ensures (puts_then c.put_hex.ensures c.put_byte-3.ensures)))
