-- `removal_soundness::removal_room` meets its contract: the cases of the definition, by the words.
-- Assumes nothing.
use mathlib.Core.Path.{sym, ◌∙◌}
use native.Mathlib.Omega.{arith}
use Rattle.model.specs.Layout.{removal_of}
use Rattle.removal_soundness.proofs.Rules.{room-there, room-none}
use Rattle.removal_soundness.proofs.removal_room.Goals as goal

pub returns-then-at-n : goal.returns-then-at-n
unfolding removal_of
returns-then-at-n c = c.room_of.ensures ∙ sym (room-there _ (omega arith) (omega arith))

pub returns : goal.returns
unfolding removal_of
returns c = sym (room-none _ (omega arith))

pub overflow_add-at : goal.overflow_add-at
unfolding removal_of
overflow_add-at c = omega arith

pub offset_bounds-state-at : goal.offset_bounds-state-at
unfolding removal_of
offset_bounds-state-at c = omega arith

pub bounds-state-at : goal.bounds-state-at
unfolding removal_of
bounds-state-at c = omega arith

pub overflow_add-at-then-at-n : goal.overflow_add-at-then-at-n
unfolding removal_of
overflow_add-at-then-at-n c = omega arith

pub offset_bounds-state-at-then-at-n : goal.offset_bounds-state-at-then-at-n
unfolding removal_of
offset_bounds-state-at-then-at-n c = omega arith

pub bounds-state-at-then-at-n : goal.bounds-state-at-then-at-n
unfolding removal_of
bounds-state-at-then-at-n c = omega arith
