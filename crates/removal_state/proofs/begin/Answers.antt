use Rattle.model.specs.Layout.{with_removal}
use Rattle.model.specs.Memory.{new_removal}
use Rattle.removal_state.proofs.begin.Goals as goal

pub returns : goal.returns
unfolding with_removal new_removal
returns c = rw (c.clear.ensures, c.put_column-2.ensures, c.put_column.ensures, c.put_head.ensures)
