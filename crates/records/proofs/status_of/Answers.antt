use native.Mathlib.Omega.{arith}
use mathlib.Core.Path.{sym}
use Rattle.model.specs.Memory.{status_at}
use Rattle.model.proofs.Sounds.{named-less}
use Rattle.records.proofs.status_of.Goals as goal

pub status_at-requires : goal.status_at-requires
status_at-requires c = omega (arith, named-less _ _ _ _ (sym c.in-Some.ensures))

pub returns-in-Some : goal.returns-in-Some
returns-in-Some c = rw (← c.in-Some.ensures) c.status_at.ensures

pub returns-in-None : goal.returns-in-None
unfolding status_at
returns-in-None c = rw (← c.in-None.ensures)
