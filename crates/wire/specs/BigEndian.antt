-- Big-endian fields of a list of bytes ("Wire fields are big-endian").
-- Assumes nothing.
use Rattle.std.specs.Prelude.{ℕ, zero, suc, ◌+◌, ◌*◌, ◌/◌, ◌%◌, ◌^◌, List, [], ◌∷◌, ◌++◌, length, drop, get_or}

-- The byte at i, 0 past the end. Of a number that is no byte only the remainder counts, so any list of numbers is a message.
unfoldable pub byte_at : List ℕ → ℕ → ℕ
byte_at l i = get_or l i 0 % 256

-- the number in the n bytes from at on, most significant first
unfoldable pub number_at : List ℕ → ℕ → ℕ → ℕ
number_at l at zero = 0
number_at l at (suc n) = number_at l at n * 256 + byte_at l (at + n)

-- the n bytes of v, most significant first
unfoldable pub bytes_of : ℕ → ℕ → List ℕ
bytes_of zero v = []
bytes_of (suc n) v = v / 256 ^ n % 256 ∷ bytes_of n v

-- a reply at the start of an output, and no byte beyond it touched
unfoldable pub written : List ℕ → List ℕ → List ℕ
written reply out = reply ++ drop (length reply) out
