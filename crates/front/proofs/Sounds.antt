-- What the tests of a channel's front come to, past those that have passed.
-- Assumes nothing.
use mathlib.Core.Path.{◌≡◌, refl}
use mathlib.Core.Bool.{Bool, true, false}
use Prim.Native.Nat.{ℕ, ◌<◌, ◌≤◌}
use lib.Dec.{eqb}
use borrow.Author.Tests.{eqb-true, lt-leb, le-leb, ne_eqb}
use Rattle.basics.specs.Choice.{◌and◌, ◌or◌}
use Rattle.front_model.specs.Front.{Front, kept_at, dropping_at, bytes_at, most_kept, unfinished, front_sound_at}

module _ (f : Front) (c : ℕ) where
  pub sound-many : most_kept < kept_at f c → front_sound_at f c ≡ false
  unfolding front_sound_at ◌and◌
  sound-many h = rw (lt-leb _ _ h)

  module _ (few : kept_at f c ≤ most_kept) where
    pub sound-keeping : dropping_at f c ≡ 0 → front_sound_at f c ≡ unfinished (bytes_at f c)
    unfolding front_sound_at ◌and◌ ◌or◌
    sound-keeping e = rw (le-leb _ _ few, e)

    pub sound-marked : 1 < dropping_at f c → front_sound_at f c ≡ false
    unfolding front_sound_at ◌and◌
    sound-marked h = rw (le-leb _ _ few, lt-leb _ _ h)

    -- where bytes are dropped, none are kept
    pub sound-dropping : (dropping_at f c ≡ 0 → ⊥) → dropping_at f c ≤ 1 → front_sound_at f c ≡ eqb (kept_at f c) 0
    unfolding front_sound_at ◌and◌ ◌or◌
    sound-dropping n h = rw (le-leb _ _ few, le-leb _ _ h, ne_eqb _ _ n) (go (eqb (kept_at f c) 0) refl)
      where
        go : (b : Bool) → eqb (kept_at f c) 0 ≡ b → (b and unfinished (bytes_at f c)) ≡ b
        go true e = unfold ◌and◌ unfinished ◌or◌ in rw (eqb-true (kept_at f c) 0 e)
        go false e = unfold ◌and◌ in refl
