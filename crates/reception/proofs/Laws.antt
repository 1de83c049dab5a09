-- The services of orders.
-- Assumes nothing.
use mathlib.Core.Path.{◌≡◌, refl}
use mathlib.Core.Bool.{Bool, true, false}
use Prim.Native.Nat.{ℕ, ◌≤◌, ◌<◌}
use native.Mathlib.Omega.{arith}
use lib.Dec.{eqb}
use borrow.Author.Tests.{eqb-true}
use Rattle.model.specs.declared.Route.TheVariants.{Memory, Devices, Orders, Host}
use Rattle.basics.specs.Choice.{pick, ◌or◌}
use Rattle.model.specs.Layout.{service_count, memory_service, device_service, shutdown_service, panic_service}
use Rattle.model.specs.Messages.{route}

-- data goes to those of services 2 and 3 alone
pub orders-services : (v : ℕ) → route v ≡ Orders → (shutdown_service ≤ v) × (v < service_count)
unfolding route
orders-services v = go (eqb v memory_service) (eqb v device_service) (eqb v shutdown_service) refl (eqb v panic_service) refl
  where
    go : (a b d : Bool) → eqb v shutdown_service ≡ d → (e : Bool) → eqb v panic_service ≡ e → pick a Memory (pick b Devices (pick (d or e) Orders Host)) ≡ Orders → (shutdown_service ≤ v) × (v < service_count)
    go a b true y e x t = let h = eqb-true v shutdown_service y in omega arith
    go a b false y true x t = let h = eqb-true v panic_service x in omega arith
    go true b false y false x t = let z : ◌≡◌ {A = ℕ} 0 1 = (unfold pick ◌or◌ in cc) in omega arith
    go false true false y false x t = let z : ◌≡◌ {A = ℕ} 0 1 = (unfold pick ◌or◌ in cc) in omega arith
    go false false false y false x t = let z : ◌≡◌ {A = ℕ} 0 1 = (unfold pick ◌or◌ in cc) in omega arith
