use borrow.Author.Tests.{eq-eqb, ne_eqb}
use Rattle.basics.specs.Choice.{◌or◌}
use Rattle.model.specs.State.{result_sound}
use Rattle.removal_soundness.proofs.result_sound.Goals as goal

pub returns-then-res-eq-DR_MEM_RES_OK : goal.returns-then-res-eq-DR_MEM_RES_OK
unfolding result_sound ◌or◌
returns-then-res-eq-DR_MEM_RES_OK c = rw (eq-eqb _ _ c.if-res-eq-DR_MEM_RES_OK.true)

pub returns-else-res-eq-DR_MEM_RES_OK : goal.returns-else-res-eq-DR_MEM_RES_OK
unfolding result_sound ◌or◌
returns-else-res-eq-DR_MEM_RES_OK c = rw (ne_eqb _ _ c.if-res-eq-DR_MEM_RES_OK.false)
