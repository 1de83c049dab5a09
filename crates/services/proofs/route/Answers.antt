-- `services::route` meets its contract. Services 2 and 3 have one arm.
-- Assumes nothing.
use mathlib.Core.Path.{◌≡◌, refl}
use Prim.Native.Nat.{ℕ, zero, suc, ◌+◌, ◌-◌, ◌<◌}
use native.Mathlib.Omega.{arith}
use borrow.Author.Tests.{ne_eqb}
use Rattle.basics.specs.Choice.{pick, ◌or◌}
use Rattle.model.specs.declared.Route.TheVariants.{Orders}
use Rattle.model.specs.Messages.{route}
use Rattle.services.proofs.route.Goals as goal

to-orders : (k : ℕ) → k < 2 → Orders ≡ route (2 + k)
unfolding route pick ◌or◌
to-orders zero h = refl
to-orders (suc zero) h = refl
to-orders (suc (suc k)) h = absurd (omega arith)

pub returns-in-2 : goal.returns-in-2
returns-in-2 c =
    let v = c.args.service in
    let e : v ≡ 2 + (v - 2) = omega arith in
    rw e (to-orders (v - 2) (omega arith))

pub returns-in_default : goal.returns-in_default
unfolding route pick ◌or◌
returns-in_default c =
    let v = c.args.service in
    rw (
      ne_eqb v 0 (λ e. omega arith),
      ne_eqb v 1 (λ e. omega arith),
      ne_eqb v 2 (λ e. omega arith),
      ne_eqb v 3 (λ e. omega arith),
    )
