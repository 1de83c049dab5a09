-- Ids of devices that rise.
-- Assumes nothing.
use Rattle.std.specs.Prelude.{ℕ, ◌+◌, ◌-◌, ◌*◌, Bool, List, get_or, ltb}
use Rattle.basics.specs.Choice.{every}
use Rattle.model.specs.Layout.{device_words}

-- each id but the first is above the one before it
unfoldable pub ids_rise : List ℕ → ℕ → ℕ → Bool
ids_rise l at n = every (n - 1) (λ j. ltb (get_or l (at + j * device_words) 0) (get_or l (at + (j + 1) * device_words) 0))
