use Rattle.model.specs.Layout.{removal_of}
use native.Mathlib.Omega.{arith}
use mathlib.Core.Path.{refl, ◌∙◌}
use Rattle.removal.proofs.settle.Goals as goal

pub settled-requires : goal.settled-requires
unfolding removal_of
settled-requires c = (omega arith, c.requires.2)

pub returns : goal.returns
unfolding removal_of
returns c = record { no_reply = refl; length' = refl; notes = c.settled.ensures ∙ rw (c.channel_of-channel.ensures, c.position_of-position.ensures); state = c.settle.ensures }
