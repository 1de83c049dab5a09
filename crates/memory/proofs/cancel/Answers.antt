use mathlib.Core.Path.{sym}
use Rattle.model.proofs.Rules.{sound-facts}
use Rattle.removal_state.proofs.Laws.{cancelled-is}
use Rattle.memory.proofs.Laws.{cancel-idle, cancel-again, cancel-marks}
use Rattle.memory.proofs.cancel.Goals as goal
use Rattle.memory.proofs.cancel.Goals.{else-is_outstanding-via-then-is_outstanding+else-not-is_cancelled, else-is_outstanding-via-else-is_outstanding}

pub mark-requires : goal.mark-requires
mark-requires c = let f = (sound-facts _ c.requires.0).removal (sym c.if-is_outstanding.ensures) in (f.one, f.flag)

pub returns-then-not-is_cancelled : goal.returns-then-not-is_cancelled
returns-then-not-is_cancelled c = cancel-marks _ _ _ _ _ c.if-is_outstanding.ensures (cancelled-is _ c.is_cancelled.ensures c.if-not-is_cancelled.true) (c.reply_bare-unchanged.ensures _) c.mark.ensures c.cancelled.ensures

pub returns : goal.returns
returns c = elim c.else-is_outstanding.branch [
  | else-is_outstanding-via-then-is_outstanding+else-not-is_cancelled w ↦ cancel-again _ _ _ _ _ w.if-is_outstanding.ensures (cancelled-is _ w.is_cancelled.ensures w.if-not-is_cancelled.false) (c.reply_bare-unchanged.ensures _)
  | else-is_outstanding-via-else-is_outstanding w ↦ cancel-idle _ _ _ _ _ w.if-is_outstanding.ensures (c.reply_bare-unchanged.ensures _)
]
