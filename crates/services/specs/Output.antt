-- What writing a message answers and leaves.
-- Assumes nothing.
use Rattle.std.specs.Prelude.{ℕ, ◌≡◌, List, length}
use Rattle.wire.specs.BigEndian.{written}

-- the answer r is the message's length; the output before is the output after, but for the message at its start
pub record Wrote (message before : List ℕ) (r : ℕ) (after : List ℕ) : Type 0 where
  pub size : r ≡ length message
  pub output : after ≡ written message before
