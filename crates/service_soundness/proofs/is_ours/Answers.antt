use mathlib.Core.Path.{ap}
use Prim.Native.Nat.{ℕ}
use native.Mathlib.Omega.{arith}
use lib.Dec.{leb}
use borrow.Author.Tests.{lt-leb, le-leb}
use Rattle.basics.specs.Choice.{◌and◌}
use Rattle.model.specs.State.{is_ours, our_handle}
use Rattle.service_soundness.proofs.is_ours.Goals as goal

pub returns-then-handle-our_handle : goal.returns-then-handle-our_handle
unfolding is_ours ◌and◌
returns-then-handle-our_handle c =
    rw (lt-leb (our_handle c.args.first) c.args.handle (omega (arith, c.our_handle.ensures)))

pub returns : goal.returns
unfolding is_ours ◌and◌
returns c =
    rw (le-leb (our_handle c.args.first) c.args.handle (omega (arith, c.our_handle.ensures))) (ap (λ (n : ℕ). leb c.args.handle n) c.our_handle-2.ensures)
