-- `registration::register_id` meets its contract: the cases of the majors.
-- Assumes nothing.
use Rattle.registration.proofs.Laws.{other-major, right-major}
use Rattle.registration.proofs.register_id.Goals as goal

pub returns-then-asked-own : goal.returns-then-asked-own
returns-then-asked-own c =
    rw (other-major _ _ _ _ _ _ _ c.get64-handle.ensures c.get16-asked.ensures.0 c.major_of-own.ensures _ c.if-asked-own.true c.told_major.ensures) (c.refuse.ensures _)

pub returns : goal.returns
returns c =
    rw (right-major _ _ _ _ _ _ _ c.get64-handle.ensures c.get16-asked.ensures.0 c.major_of-own.ensures _ _ _ c.if-asked-own.false c.highest_minor_of-most.ensures c.get16-offered.ensures.0 c.min-minor.ensures) c.accept.ensures
