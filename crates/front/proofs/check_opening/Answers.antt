-- `front::check_opening` meets its contract: the rows of the definition, in its order.
-- Assumes nothing.
use mathlib.Core.Path.{ap}
use mathlib.Core.Bool.{not}
use borrow.Author.Tests.{lt-ltb, le-ltb}
use Rattle.basics.specs.Choice.{pick}
use Rattle.model.specs.Refusals.{refusal_in}
use Rattle.basics.proofs.Loops.{no, yes}
use Rattle.front.specs.Refusals.{opening_refusal}
use Rattle.front.proofs.check_opening.Goals as goal

pub returns-then-channel-ge-CHANNEL_COUNT : goal.returns-then-channel-ge-CHANNEL_COUNT
unfolding opening_refusal refusal_in pick
returns-then-channel-ge-CHANNEL_COUNT c = rw (yes _ c.sound.ensures (ap not c.if-not-sound.false), le-ltb _ _ c.if-channel-ge-CHANNEL_COUNT.true)

pub returns : goal.returns
unfolding opening_refusal refusal_in pick
returns c = rw (yes _ c.sound.ensures (ap not c.if-not-sound.false), lt-ltb _ _ c.if-channel-ge-CHANNEL_COUNT.false)

pub returns-then-not-sound : goal.returns-then-not-sound
unfolding opening_refusal refusal_in pick
returns-then-not-sound c = rw (no _ c.sound.ensures (ap not c.if-not-sound.true))
