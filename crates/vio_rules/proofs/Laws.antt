-- Tests, one after the other, or one of them; and the end that words hold.
-- Assumes nothing.
use mathlib.Core.Path.{◌≡◌, refl}
use mathlib.Core.Bool.{Bool, true, false}
use mathlib.Core.List.{List}
use Prim.Native.Nat.{ℕ}
use Rattle.basics.specs.Choice.{◌or◌}
use Rattle.vio_versions.proofs.Tests.{ands, picks}
use Rattle.vio_model.specs.Layout.{accepts_of, class_of, end_of, session_of, versions_of}
use Rattle.vio_model.proofs.Words.{sound-facts}

pub or_true : (b : Bool) → (true or b) ≡ true
unfolding ◌or◌
or_true b = refl

pub or_false : (b : Bool) → (false or b) ≡ b
unfolding ◌or◌
or_false b = refl

module _ (w : List ℕ) where
  pub class_is : (end_of w).class ≡ class_of w
  unfolding end_of
  class_is = refl

  pub accepts_is : (end_of w).accepts ≡ accepts_of w
  unfolding end_of
  accepts_is = refl

  pub versions_are : (end_of w).versions ≡ versions_of w
  unfolding end_of
  versions_are = refl

  pub session_is : (end_of w).session ≡ session_of w
  unfolding end_of
  session_is = refl

-- what each test says, and what is known of a sound end
pub ruleset tests = (ands, or_true, or_false, picks, class_is, accepts_is, versions_are, session_is, sound-facts)
