-- Bytes held in words: a word of a name before its last, the last, words that have the same bytes; and the name that words hold.
-- Assumes nothing.
use Rattle.std.specs.Prelude.{ℕ, ◌+◌, ◌-◌, ◌/◌, ◌%◌, Bool, not, List, get_or, eqb, leb}
use Rattle.basics.specs.Choice.{◌and◌, every, tabulate}
use Rattle.model.specs.Layout.{word_bytes, word_byte}
use Rattle.model.specs.Devices.{padding_bytes}

-- no byte is 0
unfoldable pub whole_word : ℕ → Bool
whole_word w = every word_bytes (λ k. not (eqb (word_byte w k) 0))

-- no byte before byte `end` is 0, and all from it on are
unfoldable pub last_word : ℕ → ℕ → Bool
last_word w end =
    every end (λ k. not (eqb (word_byte w k) 0)) and every (word_bytes - end) (λ k. eqb (word_byte w (end + k)) 0)

-- two words have the same bytes
unfoldable pub same_bytes : ℕ → ℕ → Bool
same_bytes v w = every word_bytes (λ k. eqb (word_byte v k) (word_byte w k))

-- byte k of the words from `from` on, and the first n of their bytes
unfoldable pub held_byte : List ℕ → ℕ → ℕ → ℕ
held_byte l from k = word_byte (get_or l (from + k / word_bytes) 0) (k % word_bytes)

unfoldable pub held_bytes : List ℕ → ℕ → ℕ → List ℕ
held_bytes l from n = tabulate (held_byte l from) n

-- what follows n bytes in their last word is 0
unfoldable pub padded : List ℕ → ℕ → ℕ → Bool
padded l from n = every (padding_bytes n) (λ k. eqb (held_byte l from (n + k)) 0)

-- the words from `from` on hold a name of n bytes with its zero, at most `most`: its last byte is its only zero
unfoldable pub holds_name : List ℕ → ℕ → ℕ → ℕ → Bool
holds_name l from n most =
    leb 1 n
    and leb n most
    and eqb (held_byte l from (n - 1)) 0
    and every (n - 1) (λ k. not (eqb (held_byte l from k) 0))
    and padded l from n
