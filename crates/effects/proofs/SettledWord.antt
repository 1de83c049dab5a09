-- Kind 15's second word gives back the block and the record that it was made of.
-- Assumes nothing.
use Prim.Native.Nat.{ℕ, ◌+◌, ◌*◌, ◌/◌, ◌<◌}
use native.Mathlib.Omega.{arith}
use mathlib.Core.Path.{◌≡◌}
use Rattle.model.specs.Journal.{new_edition, six_bits, settled_word}
use Rattle.model.specs.Reading.{settled_block, settled_record}

pub block_back : (block place : ℕ) → block < six_bits → settled_block new_edition (settled_word block place) ≡ block
unfolding settled_block
block_back block place b = omega arith

pub record-back : (block place unnamed : ℕ) → block < six_bits → place < six_bits → settled_record new_edition unnamed (settled_word block place) ≡ place
unfolding settled_record
record-back block place unnamed b p =
    let z : (block + place * six_bits) / six_bits ≡ place = omega arith in
    rw z (omega arith)
