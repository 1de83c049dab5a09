-- A turn of a loop over the versions of a list.
-- Assumes nothing.
use mathlib.Core.Path.{◌≡◌, refl, sym}
use mathlib.Core.Bool.{true, false}
use mathlib.Core.List.{List}
use Prim.Native.Nat.{ℕ, ◌+◌, ◌<◌}
use native.Mathlib.Numerals.{add-one}
use borrow.Author.Tests.{ne_eqb}
use Rattle.basics.specs.Choice.{◌or◌}
use Rattle.vio_model.specs.Versions.{major_at, holds_in}
use Rattle.vio_model.proofs.Versions.{holds_at}

module _ (l : List ℕ) (m : ℕ) where
  pub holds_none : holds_in l m 0 ≡ false
  unfolding holds_in
  holds_none = refl

  pub holds_passed : (i : ℕ) → holds_in l m i ≡ false → (major_at l i ≡ m → ⊥) → holds_in l m (i + 1) ≡ false
  unfolding holds_in ◌or◌
  holds_passed i e h = rw (add-one, e, ne_eqb (major_at l i) m h)

  pub holds_found : (i n : ℕ) → i < n → major_at l i ≡ m → true ≡ holds_in l m n
  holds_found i n h e = sym (rw e at (holds_at l i n h))

pub ruleset turns = (holds_none, holds_passed, holds_found)
