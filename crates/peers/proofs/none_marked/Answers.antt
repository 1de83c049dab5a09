-- `peers::none_marked` meets its contract: no bit, no mark.
-- Assumes nothing.
use mathlib.Core.Path.{sym, ◌∙◌}
use borrow.Author.Tests.{eqb-true}
use Rattle.model.proofs.Marks.{no-bit}
use Rattle.peers.proofs.none_marked.Goals as goal

pub returns : goal.returns
returns c = λ t p. rw (sym c.marks_of.ensures ∙ eqb-true _ 0 t) (no-bit p)
