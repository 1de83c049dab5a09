-- `lines::output::Output::put_form` meets its contract: what the bytes passed show is put.
-- Assumes nothing.
use Rattle.std.proofs.Common.{◌*◌, get_or}
use Rattle.basics.specs.Choice.{joined}
use Rattle.lines.specs.Forms.{shown, shown_bytes}
use Rattle.lines.specs.Output.{PutsInto}
use Rattle.lines.proofs.output.Output.put_form.Given as goal

abbrev pub invariant-loop-b : goal.invariant-loop-b
invariant-loop-b l = PutsInto (joined (λ k. shown l.name l.values (get_or l.form k 0)) l.b-index) (l.b-index * shown_bytes) l.initial.self l.self
