use Rattle.model.specs.Work.{failing_code}
use Rattle.removal.proofs.failing_code.Goals as goal

pub returns-in-Some : goal.returns-in-Some
unfolding failing_code
returns-in-Some c = rw c.in-Some.is

pub returns-in-None : goal.returns-in-None
unfolding failing_code
returns-in-None c = rw c.in-None.is
