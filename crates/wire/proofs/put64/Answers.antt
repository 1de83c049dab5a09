-- `wire::put64` meets its contract: the bytes made by halves are those of the number, and are stored.
-- Assumes nothing.
use mathlib.Core.Path.{refl, sym, ap, ◌∙◌}
use lib.ListN.{replicate}
use lib.Seq.{sets}
use Rattle.wire.specs.BigEndian.{bytes_of}
use Rattle.wire.proofs.Laws.{length-bytes, sets-parts, sets-whole}
use Rattle.wire.proofs.put64.Goals as goal

pub returns : goal.returns
returns c =
    let stored = c.before.before in
    let low = stored.before.before.before in
    let high = low.before.before.before in
    stored.put_eight.ensures
    ∙ ap (sets _ _)
    (sets-parts (replicate 8 0) 0 4 4 _ refl high.put32.ensures low.put32-2.ensures
    ∙ sets-whole (bytes_of 8 _) (replicate 8 0) (sym (length-bytes 8 _)))
