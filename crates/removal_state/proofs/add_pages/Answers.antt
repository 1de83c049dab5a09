use mathlib.Core.Path.{sym}
use native.Mathlib.Omega.{arith}
use Rattle.model.specs.Layout.{removal_of}
use Rattle.model.proofs.RemovalWords.{collecting-words}
use Rattle.removal_state.proofs.add_pages.Goals as goal

pub returns : goal.returns
unfolding removal_of
returns c = sym (collecting-words _ c.told-state c.requires.0 c.requires.1 _)

pub overflow_add-state : goal.overflow_add-state
unfolding removal_of
overflow_add-state c = omega arith
