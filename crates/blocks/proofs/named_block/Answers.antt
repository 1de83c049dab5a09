-- `blocks::named_block` meets its contract: what the search by halves finds is what 01 says.
-- Assumes nothing.
use mathlib.Core.Path.{◌∙◌}
use Rattle.model.specs.Blocks.{named_block}
use Rattle.model.proofs.Search.{in-order-found}
use Rattle.blocks.proofs.named_block.Goals as goal

pub returns : goal.returns
unfolding named_block
returns c = c.look_for-searched.ensures.answer ∙ in-order-found _ _ _ _ _ c.requires

pub look_for-searched-requires : goal.look_for-searched-requires
look_for-searched-requires c = c.requires
