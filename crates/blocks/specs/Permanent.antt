-- The rules of a block's permanent pages, the last three of model's `block_keeps`.
-- Assumes nothing.
use Rattle.std.specs.Prelude.{ℕ, ◌+◌, Bool, leb, eqb}
use Rattle.basics.specs.Choice.{pick, ◌and◌}

unfoldable pub permanent_keeps : ℕ → ℕ → ℕ → ℕ → Bool
permanent_keeps pages first permanent configured =
    leb (first + permanent) pages
    and leb configured 1
    and pick (eqb permanent 0) (eqb first 0) (eqb configured 1)
