-- `messages::decode` meets its contract, by the two tests of a well-formed message.
-- Assumes nothing.
use mathlib.Core.Path.{sym, ◌∙◌}
use Rattle.basics.specs.Choice.{pick, ◌and◌}
use Rattle.model.specs.Messages.{well_formed, decoded}
use Rattle.basics.proofs.Choice.{join}
use Rattle.messages.proofs.decode.Goals as goal
use Rattle.messages.proofs.decode.Goals.{else-whole_message-via-then-whole_message+else-payload_fits, else-whole_message-via-else-whole_message}

pub by_type-requires : goal.by_type-requires
unfolding well_formed
by_type-requires c =
    join _ _ (sym c.whole_message.ensures ∙ c.if-whole_message.true) (sym c.payload_fits.ensures ∙ c.if-payload_fits.true)

pub returns-then-payload_fits : goal.returns-then-payload_fits
unfolding decoded well_formed pick ◌and◌
returns-then-payload_fits c =
    rw (sym c.whole_message.ensures ∙ c.if-whole_message.true, sym c.payload_fits.ensures ∙ c.if-payload_fits.true) c.by_type.ensures

pub returns-else-whole_message : goal.returns-else-whole_message
unfolding decoded well_formed pick ◌and◌
returns-else-whole_message c =
    elim c.else-whole_message.branch [
      | else-whole_message-via-then-whole_message+else-payload_fits w ↦
          rw (sym c.whole_message.ensures ∙ w.if-whole_message.true, sym w.payload_fits.ensures ∙ w.if-payload_fits.false)
      | else-whole_message-via-else-whole_message w ↦ rw (sym c.whole_message.ensures ∙ w.if-whole_message.false)
    ]
