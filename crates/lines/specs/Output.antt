-- What a method of the programs' output changes.
-- Assumes nothing.
use Rattle.std.specs.Prelude.{ℕ, List}
use Rattle.lines.specs.Forms.{Puts, Gathers}
use Rattle.lines.specs.declared.output.Output.{Output}

-- bytes put behind those gathered, at most `most` of them
abbrev pub PutsInto : List ℕ → ℕ → Output → Output → Type 0
PutsInto bytes most before after = Puts bytes before.text before.used most after.used after.text

-- a line gathered
abbrev pub Adds : List ℕ → Output → Output → Type 0
Adds line before after = Gathers line before.text before.used after.used after.text
