-- The hashes of ids, 32 bits each, and hashes that differ.
-- Assumes nothing.
use Rattle.std.specs.Prelude.{ℕ, ◌+◌, ◌*◌, ◌/◌, ◌%◌, ◌^◌, ◌<◌, ◌≡◌, Bool, not, List, eqb, get_or}
use Rattle.std.specs.Int.Bits.{bit_xor}
use Rattle.basics.specs.Choice.{every}
use Rattle.model.specs.Layout.{id_bytes_in, id_place, id_words, most_ids}
use Rattle.names.specs.Hashes.{hash_of}

-- 32 bits of a hash
unfoldable pub folded : ℕ → ℕ
folded m = bit_xor m (m / 2 ^ 29) % 2 ^ 32

-- the hash of id p
abbrev pub hash_in : List ℕ → ℕ → ℕ → ℕ
hash_in l at p = hash_of l (at + p * id_words + id_place) (id_bytes_in l at p)

-- each hash stands twice, the second time `most_ids` places on
pub record HashesStand (l : List ℕ) (at n : ℕ) (hashes : List ℕ) : Type 0 where
  pub first : (p : ℕ) → p < n → get_or hashes p 0 ≡ folded (hash_in l at p)
  pub again : (p : ℕ) → p < n → get_or hashes (p + most_ids) 0 ≡ folded (hash_in l at p)

-- no hash is the one so many places on
unfoldable pub apart_at : List ℕ → ℕ → Bool
apart_at hashes distance = every most_ids (λ k. not (eqb (get_or hashes k 0) (get_or hashes (k + distance) 0)))

-- at a distance up to half of them, which goes for all: each stands twice
unfoldable pub hashes_apart : List ℕ → Bool
hashes_apart hashes = every (most_ids / 2) (λ d. apart_at hashes (d + 1))
