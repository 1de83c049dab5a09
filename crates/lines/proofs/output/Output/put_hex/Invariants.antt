-- `lines::output::Output::put_hex` meets its contract: the digits of the bytes passed are put.
-- Assumes nothing.
use Rattle.std.proofs.Common.{◌*◌, get_or}
use Rattle.basics.specs.Choice.{joined}
use Rattle.lines.specs.Forms.{Puts, pair_of}
use Rattle.lines.proofs.output.Output.put_hex.Given as goal

abbrev pub invariant-loop-b : goal.invariant-loop-b
invariant-loop-b l = Puts (joined (λ k. pair_of (get_or l.bytes k 0)) l.b-index) l.initial.self.text l.initial.self.used (l.b-index * 2) l.next l.self.text
