use Rattle.configuration.proofs.Laws.{configure-none, configure-some}
use Rattle.configuration.proofs.configure.Goals as goal

pub returns-then-mask-eq0 : goal.returns-then-mask-eq0
returns-then-mask-eq0 c = configure-none _ _ _ _ _ _ _ c.args.records.now.few c.requires.1 c.put_results_header-length.ensures c.configure_all-mask.ensures c.if-mask-eq0.true c.answered-event.ensures

pub returns-else-mask-eq0 : goal.returns-else-mask-eq0
returns-else-mask-eq0 c = configure-some _ _ _ _ _ _ _ c.args.records.now.few c.requires.1 c.put_results_header-length.ensures c.configure_all-mask.ensures c.if-mask-eq0.false c.configured-event.ensures
