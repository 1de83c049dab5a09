-- The answers to a piece: refused, and by the agent's to the message that it gives.
-- Assumes nothing.
use Rattle.std.specs.Prelude.{ℕ, true, false, eqb}
use Rattle.basics.specs.Choice.{pick}
use Rattle.model.specs.declared.Answer.{Answer}
use Rattle.front_model.specs.declared.Piece.{Piece}

abbrev pub refused_piece : ℕ → Piece
refused_piece n = record { refusal = n; taken = 0; given = false; length = 0 }

abbrev pub given_piece : Answer → ℕ → Piece
given_piece r n = pick (eqb r.refusal 0) (record { refusal = 0; taken = n; given = true; length = r.length }) (refused_piece r.refusal)

-- all n bytes taken, and no message given
abbrev pub kept_piece : ℕ → Piece
kept_piece n = record { refusal = 0; taken = n; given = false; length = 0 }
