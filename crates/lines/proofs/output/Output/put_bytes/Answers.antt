-- `lines::output::Output::put_bytes` meets its contract: there is room for the line where it is put.
-- Assumes nothing.
use Rattle.std.proofs.Common.{arith}
use Rattle.lines.proofs.Puts.{start_fits}
use native.Mathlib.Omega.{arith}
use Rattle.lines.proofs.output.Output.put_bytes.Goals as goal

pub put_whole-requires-clause-room : goal.put_whole-requires-clause-room
put_whole-requires-clause-room c = omega (arith, c.make_room.ensures.used, start_fits c.args.self.now.used)

pub returns : goal.returns
returns c =
    let p : _ = c.put_whole.ensures in
    record { next = rw (← c.make_room.ensures.used) p.next; output = rw (← c.make_room.ensures.used, ← c.make_room.ensures.text) p.output }
