use native.Mathlib.Omega.{arith}
use Rattle.model.proofs.Rules.{sound-facts, sound-block}
use Rattle.model.specs.Memory.{permanent_bytes, permanent_first}
use Rattle.queries.proofs.permanent_at.Goals as goal

pub permanent_of-bytes-requires : goal.permanent_of-bytes-requires
permanent_of-bytes-requires c = omega (arith, (sound-facts _ c.requires.0).base.few)

pub overflow_mul-bytes : goal.overflow_mul-bytes
overflow_mul-bytes c = let k = sound-block _ _ c.requires.0 c.requires.1 in omega (arith, k.within, k.few)

pub base_of-requires : goal.base_of-requires
base_of-requires c = omega (arith, (sound-facts _ c.requires.0).base.few)

pub first_of-requires : goal.first_of-requires
first_of-requires c = omega (arith, (sound-facts _ c.requires.0).base.few)

pub overflow_mul-first : goal.overflow_mul-first
overflow_mul-first c = let k = sound-block _ _ c.requires.0 c.requires.1 in omega (arith, k.within, k.few)

pub overflow_add-first : goal.overflow_add-first
overflow_add-first c = let k = sound-block _ _ c.requires.0 c.requires.1 in omega (arith, k.within, k.few, k.below)

pub returns : goal.returns
unfolding permanent_bytes permanent_first
returns c = λ addr size. record { bytes = omega arith; first = omega arith }
