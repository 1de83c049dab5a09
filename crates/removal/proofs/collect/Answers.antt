use Rattle.model.specs.Layout.{removal_of}
use native.Mathlib.Omega.{arith}
use Rattle.removal.proofs.Laws.{removal-kept, held_kept, collects-last, collects-some}
use Rattle.removal.proofs.collect.Goals as goal

pub settle-requires : goal.settle-requires
settle-requires c =
    let p = c.requires in (
      held_kept _ _ p.1 c.set_configured.ensures p.0,
      rw (removal-kept _ _ p.1 c.set_configured.ensures) p.2,
      p.1,
    )

pub returns-then-collected_of-n : goal.returns-then-collected_of-n
unfolding removal_of
returns-then-collected_of-n c = collects-last _ _ c.requires.1 (omega (arith, c.collected_of.ensures, c.if-collected_of-n.true, c.pages_of-pages.ensures)) c.set_configured.ensures c.settle.ensures

pub returns-else-collected_of-n : goal.returns-else-collected_of-n
unfolding removal_of
returns-else-collected_of-n c = collects-some _ _ _ (λ e. c.if-collected_of-n.false (omega (arith, c.collected_of.ensures, c.pages_of-pages.ensures))) c.add_pages.ensures c.channel_of-channel.ensures c.collected.ensures

pub overflow_add-collected_of : goal.overflow_add-collected_of
unfolding removal_of
overflow_add-collected_of c = omega (arith, c.pages_of-pages.ensures)
