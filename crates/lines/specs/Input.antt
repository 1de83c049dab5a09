-- What a program's buffer holds of its input.
-- Assumes nothing.
use Rattle.std.specs.Prelude.{ℕ, ◌≤◌}
use Rattle.lines.specs.declared.input.Held.{Held}

abbrev pub input_bytes : ℕ
input_bytes = 98305

-- the bytes not handed out are a part of the buffer
pub record Holds (held : Held) : Type 0 where
  pub order : held.start ≤ held.end
  pub fits : held.end ≤ input_bytes
