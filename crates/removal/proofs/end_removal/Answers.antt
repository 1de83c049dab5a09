use mathlib.Core.Path.{sym, ◌∙◌}
use Rattle.removal_state.proofs.Laws.{channel-is, request-is}
use Rattle.removal.proofs.Laws.{ends-replied, ends-silent}
use Rattle.removal.proofs.end_removal.Goals as goal

pub returns-then-still_registered : goal.returns-then-still_registered
returns-then-still_registered c = ends-replied _ _ _ (channel-is _ c.channel_of-channel.ensures) (request-is _ c.request_of-request.ensures) (sym c.still_registered.ensures ∙ c.if-still_registered.true) c.end_code-code.ensures c.put_late_reply-length.ensures c.removal_end.ensures c.clear_removal.ensures

pub returns-else-still_registered : goal.returns-else-still_registered
returns-else-still_registered c = ends-silent _ _ _ (channel-is _ c.channel_of-channel.ensures) (request-is _ c.request_of-request.ensures) (sym c.still_registered.ensures ∙ c.if-still_registered.false) c.end_code-code.ensures c.removal_end-else-still_registered.ensures c.clear_removal-else-still_registered.ensures
