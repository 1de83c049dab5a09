-- `lines::output::Output::put_whole` meets its contract: the form, then the bytes and the line's end.
-- Assumes nothing.
use Rattle.std.proofs.Common.{arith, length-take}
use Rattle.lines.specs.Forms.{line_of}
use Rattle.lines.proofs.Puts.{puts_then, puts-within}
use native.Mathlib.Omega.{arith}
use Rattle.lines.proofs.output.Output.put_whole.Goals as goal

pub put_tail-requires : goal.put_tail-requires
put_tail-requires c = simp length-take (omega (arith, c.put_form.ensures.fits, c.min-end.ensures))

pub returns : goal.returns
unfolding line_of
returns c =
    rw (← c.min-end.ensures)
    (puts-within _ (simp length-take (omega (arith, c.min-end.ensures))) (puts_then c.put_form.ensures c.put_tail.ensures))
