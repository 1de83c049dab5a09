-- A hash of the bytes that words hold. The same bytes have the same hash, which is all that is proved of it; others hardly ever do.
-- Assumes nothing.
use Rattle.std.specs.Prelude.{ℕ, zero, suc, ◌+◌, ◌-◌, ◌*◌, ◌/◌, ◌%◌, ◌^◌, List, get_or}
use Rattle.std.specs.Int.Bits.{bit_or, bit_xor}
use Rattle.model.specs.Layout.{word_bytes}

-- one word more in a hash
unfoldable pub mixed : ℕ → ℕ → ℕ
mixed m w = bit_xor (bit_or (m * 2 ^ 25 % 2 ^ 64) (m / 2 ^ 39)) w

-- k words from `from` on more
unfoldable pub mixed_words : List ℕ → ℕ → ℕ → ℕ → ℕ
mixed_words l from m zero = m
mixed_words l from m (suc k) = mixed (mixed_words l from m k) (get_or l (from + k) 0)

-- the name of n bytes from the word `from` on: their number, and the words that hold them
unfoldable pub hash_of : List ℕ → ℕ → ℕ → ℕ
hash_of l from n = mixed_words l from n ((n - 1) / word_bytes + 1)
