-- `orders::leave_for` meets its contract: a request to shut down has its delay.
-- Assumes nothing.
use Prim.Native.Nat.{ℕ}
use mathlib.Core.Path.{◌≡◌}
use native.Mathlib.Omega.{arith}
use borrow.Author.Tests.{eq-eqb}
use Rattle.basics.specs.Choice.{pick}
use Rattle.model.specs.Layout.{shutdown_service, shutdown_bytes}
use Rattle.model.specs.Orders.{order_bytes}
use Rattle.orders.proofs.leave_for.Goals as goal

shutdown-bytes : {v : ℕ} → v ≡ shutdown_service → order_bytes v ≡ shutdown_bytes
unfolding order_bytes pick
shutdown-bytes e = rw (eq-eqb _ _ e)

pub get32-delay-requires : goal.get32-delay-requires
get32-delay-requires c = omega (arith, shutdown-bytes c.if-asked-eq-SHUTDOWN_SERVICE.true)
