-- A number up to a run's length counts its front part.
use Rattle.std.proofs.Common.{ℕ, ◌≤◌, List, length, arith, length-take}
use Rattle.io.specs.Counts.{IsPrefixLen}

pub counted : (n : ℕ) (l : List ℕ) → n ≤ length l → IsPrefixLen n l
counted n l h = (h, simp (length-take) (omega (arith, h)))
