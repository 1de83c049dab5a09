use Prim.Native.Nat.{◌+◌, ◌*◌}
use mathlib.Core.Path.{◌≡◌}
use lib.ListN.{take}
use lib.Seq.{sets}
use Rattle.wire.specs.BigEndian.{number_at}
use Rattle.basics.specs.Choice.{tabulate}
use Rattle.model.specs.Layout.{most_records, pair_bytes}
use Rattle.removal_state.proofs.put_column.Given as goal

abbrev pub invariant-loop-i : goal.invariant-loop-i
invariant-loop-i l = l.state ≡ sets l.initial.state l.word (take l.i (tabulate (λ k. number_at l.b (l.at + k * pair_bytes) 8) most_records))
