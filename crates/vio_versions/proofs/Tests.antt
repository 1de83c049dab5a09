-- A conjunction of tests, one test after the other.
-- Assumes nothing.
use mathlib.Core.Path.{◌≡◌, refl}
use mathlib.Core.Bool.{Bool, true, false}
use borrow.Author.Tests.{eq-eqb, ne_eqb, lt-ltb, le-ltb, le-leb, lt-leb}
use Rattle.basics.specs.Choice.{◌and◌, pick}
use Rattle.basics.proofs.Loops.{every-none, every_more, every-all}
use Rattle.vio_model.proofs.Versions.{list-rules, list-last}

pub and_true : (b : Bool) → (true and b) ≡ b
unfolding ◌and◌
and_true b = refl

pub and_false : (b : Bool) → (false and b) ≡ false
unfolding ◌and◌
and_false b = refl

-- a choice
module _ {A : Type 0} (a b : A) where
  pub pick_first : pick true a b ≡ a
  unfolding pick
  pick_first = refl

  pub pick_second : pick false a b ≡ b
  unfolding pick
  pick_second = refl

pub ruleset picks = (pick_first, pick_second)

-- what a test that was taken or left says of its number
pub ruleset ands = (and_true, and_false, eq-eqb, ne_eqb, lt-ltb, le-ltb, le-leb, lt-leb)

-- the tests of an accepted list, and of its versions so far
pub ruleset listed = (every-none, every_more, every-all, list-rules, list-last)
