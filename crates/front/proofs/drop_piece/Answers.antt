-- `front::drop_piece` meets its contract: refused, or all bytes are taken.
-- Assumes nothing.
use mathlib.Core.Path.{sym, ◌∙◌}
use Rattle.front.proofs.Pieces.{piece-refused, piece-dropped}
use Rattle.soundness.proofs.Refusals.{positive}
use Rattle.front.proofs.drop_piece.Goals as goal

pub returns-in-Err : goal.returns-in-Err
returns-in-Err c =
    rw (c.refused.ensures, c.number.ensures) (piece-refused _ _ _ _ _ _ c.requires.0 _ c.in-Err.ensures (positive _))

pub returns : goal.returns
returns c =
    let p = c.requires in
    piece-dropped _ _ _ _ _ _ p.0 (sym c.in_default.ensures) p.1
