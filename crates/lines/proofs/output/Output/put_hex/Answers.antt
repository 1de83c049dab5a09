-- `lines::output::Output::put_hex` meets its contract: the digits of the bytes passed are put.
-- Assumes nothing.
use Rattle.std.proofs.Common.{◌≡◌, length, arith}
use Rattle.basics.specs.Choice.{joined}
use Rattle.lines.specs.Forms.{hex_of}
use Rattle.lines.proofs.Puts.{puts-joined, puts_none, puts-within}
use native.Mathlib.Omega.{arith}
use Rattle.lines.proofs.output.Output.put_hex.Goals as goal

pub loop-b-init : goal.loop-b-init
unfolding joined
loop-b-init c = puts_none

pub put_pair-next-requires : goal.put_pair-next-requires
put_pair-next-requires c = omega (arith, c.loop-b.invariant.fits)

pub loop-b-preserved : goal.loop-b-preserved
loop-b-preserved c = puts-within _ (omega arith) (puts-joined _ c.loop-b.b-index c.loop-b.invariant c.put_pair-next.ensures)

pub returns : goal.returns
unfolding hex_of
returns c =
    let e : c.loop-b.b-index ≡ length c.args.bytes.now = omega arith in
    rw e at c.loop-b.invariant
