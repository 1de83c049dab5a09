use Rattle.memory.proofs.Laws.{block-handles}
use Rattle.memory.proofs.block.Goals as goal

pub returns : goal.returns
returns c = block-handles _ _ _ _ _ _ _ c.args.records.now.few c.requires.1 c.put_results_header-length.ensures c.put_blocked.ensures c.answered.ensures
