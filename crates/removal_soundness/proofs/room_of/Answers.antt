use native.Mathlib.Omega.{arith}
use mathlib.Core.Path.{sym, ◌∙◌}
use Rattle.model.specs.State.{room_at}
use Rattle.model.proofs.Sounds.{named-less}
use Rattle.removal_soundness.proofs.room_of.Goals as goal

pub room_at-requires : goal.room_at-requires
room_at-requires c = let e = named-less _ _ _ _ (sym c.named_block-found.ensures ∙ c.in-Some.is) in omega (arith, e)

pub returns-in-Some : goal.returns-in-Some
returns-in-Some c = rw (← c.named_block-found.ensures, c.in-Some.is) c.room_at.ensures

pub returns-in-None : goal.returns-in-None
unfolding room_at
returns-in-None c = rw (← c.named_block-found.ensures, c.in-None.is)
