-- The byte that reports how a program ended.
-- Assumes nothing.
use Rattle.std.specs.Prelude.{ℕ}
use Rattle.lines.specs.declared.outcome.Outcome.{Outcome}
use Rattle.lines.specs.declared.outcome.Outcome.TheVariants.{Good, Bad, Failed}

abbrev pub byte_of : Outcome → ℕ
byte_of Good = 48
byte_of Bad = 49
byte_of Failed = 50
