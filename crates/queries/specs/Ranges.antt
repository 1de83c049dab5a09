-- The permanent pages of a pair, and of a block, as the code's range tells them.
-- Assumes nothing.
use Rattle.std.specs.Prelude.{◌≡◌, ℕ, List, Option, Some}
use Rattle.model.specs.Blocks.{named_block}
use Rattle.model.specs.Memory.{permanent_bytes, permanent_first}
use Rattle.queries.specs.declared.Range.{Range}

-- of the block that was found, or of the pair itself
pub record RangeOf (s : List ℕ) (addr size : ℕ) (found : Option ℕ) (r : Range) : Type 0 where
  pub bytes : r.bytes ≡ permanent_bytes s size found
  pub first : r.first ≡ permanent_first s addr found

abbrev pub Permanent : List ℕ → ℕ → ℕ → Range → Type 0
Permanent s addr size r = RangeOf s addr size (named_block s addr size) r

abbrev pub PermanentAt : List ℕ → ℕ → Range → Type 0
PermanentAt s i r = (addr size : ℕ) → RangeOf s addr size (Some i) r
