-- Where a byte stands in a part of a run.
-- Assumes nothing.
use Rattle.std.specs.Prelude.{ℕ, suc, ◌-◌, List, [], ◌∷◌, take, drop, nat_eq}
use Rattle.basics.specs.Choice.{pick}

-- the items from `from` to `end`
abbrev pub slice : ℕ → ℕ → List ℕ → List ℕ
slice from end l = take (end - from) (drop from l)

-- the first index of the byte, or the run's length where it has none
unfoldable pub index_of : ℕ → List ℕ → ℕ
index_of b [] = 0
index_of b (x ∷ l) = pick (nat_eq x b) 0 (suc (index_of b l))
