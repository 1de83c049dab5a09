use Rattle.basics.specs.Choice.{◌and◌}
use Rattle.model.specs.Layout.{removal_of}
use native.Mathlib.Omega.{arith}
use borrow.Author.Tests.{eq-eqb, ne_eqb}
use Rattle.removal_state.proofs.Laws.{channel-is, handle-is}
use Rattle.removal.proofs.still_registered.Goals as goal

pub returns-else-stage_of-eq-REGISTERED : goal.returns-else-stage_of-eq-REGISTERED
unfolding ◌and◌
returns-else-stage_of-eq-REGISTERED c = rw (← channel-is _ c.channel_of.ensures, ← c.stage_of.ensures, ne_eqb _ _ c.if-stage_of-eq-REGISTERED.false)

pub returns-then-stage_of-eq-REGISTERED : goal.returns-then-stage_of-eq-REGISTERED
unfolding ◌and◌
returns-then-stage_of-eq-REGISTERED c = rw (← channel-is _ c.channel_of.ensures, ← handle-is _ c.handle_of-then-stage_of-eq-REGISTERED.ensures, ← c.stage_of.ensures, ← c.handle_of.ensures, eq-eqb _ _ c.if-stage_of-eq-REGISTERED.true)

pub overflow_mul-k : goal.overflow_mul-k
unfolding removal_of
overflow_mul-k c = omega arith

pub overflow_add-k : goal.overflow_add-k
unfolding removal_of
overflow_add-k c = omega arith

pub stage_of-requires : goal.stage_of-requires
unfolding removal_of
stage_of-requires c = omega arith

pub handle_of-requires : goal.handle_of-requires
unfolding removal_of
handle_of-requires c = omega arith
