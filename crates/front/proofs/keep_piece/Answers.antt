-- `front::keep_piece` meets its contract: refused, or the piece is stored behind the kept part.
-- Assumes nothing.
use native.Mathlib.Omega.{arith}
use mathlib.Core.Path.{sym, ◌∙◌}
use Prim.Native.Nat.{◌+◌, ◌≤◌}
use lib.ListN.{length}
use Rattle.front_model.specs.Front.{Front, most_kept}
use Rattle.front.proofs.Pieces.{piece-refused, piece-kept, kept-length}
use Rattle.soundness.proofs.Refusals.{positive}
use Rattle.front.proofs.keep_piece.Goals as goal
use Rattle.front.proofs.keep_piece.Lts as lts
use Rattle.front.proofs.keep_piece.Reads as reads
use Rattle.front.proofs.keep_piece.Tie as tie

pub returns-in-Err : goal.returns-in-Err
returns-in-Err c =
    rw (c.refused.ensures, c.number.ensures) (piece-refused _ _ _ _ _ _ c.requires.fronts _ c.in-Err.ensures (positive _))

room : (c : (lts.After-kept_of tie.the-claims reads.Pre reads.Post)) → c.kept_of-kept.result + length c.args.piece.now ≤ most_kept
room c =
    let a = c.args in
    let g = c.requires in
    let f : Front = record { words = a.words.now; bytes = a.bytes.now } in
    omega (arith, g.comes.few, kept-length f a.channel g.fronts, c.kept_of-kept.ensures)

pub overflow_add-channel : goal.overflow_add-channel
overflow_add-channel c = omega (arith, room (search), c.requires.fronts.within)

pub copy-requires : goal.copy-requires
copy-requires c = omega (arith, room (search), c.requires.fronts.within)

pub returns : goal.returns
returns c =
    let k = c.kept_of-kept.ensures in
    piece-kept _ _ _ _ _ _ _ c.requires (sym c.in_default.ensures)
    (record { words = rw k at c.set_words.ensures; bytes = rw k at c.copy.ensures; fits = omega (arith, room (search), k) })

pub overflow_add-kept : goal.overflow_add-kept
overflow_add-kept c = omega (arith, room (search))
