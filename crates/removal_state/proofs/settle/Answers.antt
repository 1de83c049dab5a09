use mathlib.Core.Path.{sym}
use native.Mathlib.Omega.{arith}
use Rattle.model.specs.Layout.{removal_of}
use Rattle.model.proofs.RemovalWords.{settled-words}
use Rattle.removal_state.proofs.settle.Goals as goal

pub returns : goal.returns
unfolding removal_of
returns c = sym (settled-words _ c.told-state c.requires.0 c.requires.1 _ c.requires.2)

pub overflow_add-state : goal.overflow_add-state
unfolding removal_of
overflow_add-state c = omega arith

pub offset_bounds-state-position : goal.offset_bounds-state-position
unfolding removal_of
offset_bounds-state-position c = omega arith

pub bounds-state-position : goal.bounds-state-position
unfolding removal_of
bounds-state-position c = omega arith

pub overflow_add-state-2 : goal.overflow_add-state-2
unfolding removal_of
overflow_add-state-2 c = omega arith
