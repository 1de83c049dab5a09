-- The id of a REG_REQ, but for its last byte.
-- Assumes nothing.
use Rattle.std.specs.Prelude.{ℕ, ◌+◌, Bool, not, List, eqb}
use Rattle.wire.specs.BigEndian.{byte_at}
use Rattle.basics.specs.Choice.{every}

-- byte i of the id is not zero; the id is the payload from byte 12 on
abbrev pub id_byte : List ℕ → ℕ → Bool
id_byte m i = not (eqb (byte_at m (20 + i)) 0)

-- none of the first n bytes of the id is zero
abbrev pub no_zero : List ℕ → ℕ → Bool
no_zero m n = every n (λ i. id_byte m i)
