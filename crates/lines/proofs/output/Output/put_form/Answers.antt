-- `lines::output::Output::put_form` meets its contract: what the bytes passed show is put.
-- Assumes nothing.
use Rattle.std.proofs.Common.{◌≡◌, length, arith}
use Rattle.basics.specs.Choice.{joined}
use Rattle.lines.specs.Forms.{filled}
use Rattle.lines.proofs.Puts.{puts-joined, puts_none, puts-within}
use native.Mathlib.Omega.{arith}
use Rattle.lines.proofs.output.Output.put_form.Goals as goal

pub loop-b-init : goal.loop-b-init
unfolding joined
loop-b-init c = puts_none

pub loop-b-preserved : goal.loop-b-preserved
loop-b-preserved c = puts-within _ (omega arith) (puts-joined _ c.loop-b.b-index c.loop-b.invariant c.put_shown.ensures)

pub returns : goal.returns
unfolding filled
returns c =
    let e : c.loop-b.b-index ≡ length c.args.form.now = omega arith in
    rw e at c.loop-b.invariant
