use Rattle.model.specs.Layout.{removal_of}
use native.Mathlib.Omega.{arith}
use mathlib.Core.Path.{◌∙◌}
use Rattle.removal.proofs.Laws.{block_read}
use Rattle.removal.proofs.block_now.Goals as goal

pub returns : goal.returns
returns c = c.named_block.ensures ∙ block_read _ c.position_of-at.ensures c.requires.1 c.address_of-addr.ensures c.size_of-size.ensures

pub address_of-addr-requires : goal.address_of-addr-requires
unfolding removal_of
address_of-addr-requires c = omega arith

pub size_of-size-requires : goal.size_of-size-requires
unfolding removal_of
size_of-size-requires c = omega arith
