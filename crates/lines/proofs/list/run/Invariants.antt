-- `lines::list::run` meets its contract: what is held is a part of the input's buffer, and the closure may be called.
-- Assumes nothing.
use Rattle.std.proofs.Common.{◌≡◌, length}
use Rattle.lines.specs.Input.{Holds, input_bytes}
use Rattle.lines.proofs.list.run.Given as goal

abbrev pub invariant-loop : goal.invariant-loop
invariant-loop g l = Holds l.held × (length l.buffer ≡ input_bytes) × goal.F-IsAlwaysCallable g l.answer
