use Rattle.std.proofs.Common.{sym, refl}
use Rattle.model.proofs.Search.{sound-in-order}
use Rattle.model.proofs.Sounds.{named-less}
use Rattle.model.specs.Memory.{permanent_bytes, permanent_first}
use Rattle.queries.proofs.permanent_of.Goals as goal

pub permanent_at-requires : goal.permanent_at-requires
permanent_at-requires c = (c.requires, named-less _ _ _ _ (sym c.in-Some.ensures))

pub returns-in-Some : goal.returns-in-Some
returns-in-Some c = rw (← c.in-Some.ensures) (c.permanent_at.ensures _ _)

pub returns-in-None : goal.returns-in-None
unfolding permanent_bytes permanent_first
returns-in-None c = rw (← c.in-None.ensures) (record { bytes = refl; first = refl })

pub named_block-requires : goal.named_block-requires
named_block-requires c = sound-in-order _ c.requires
