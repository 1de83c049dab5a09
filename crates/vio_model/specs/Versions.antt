-- "The versions held are a list, not empty, of different majors from 1 up, each with its highest minor (else 7)." The list is of words, two a
-- version: its major and its highest minor.
-- Assumes nothing.
use Rattle.std.specs.Prelude.{ℕ, zero, suc, ◌+◌, ◌*◌, ◌/◌, ◌%◌, max, Bool, false, not, List, length, get_or, leb, ltb, eqb}
use Rattle.basics.specs.Choice.{pick, ◌and◌, ◌or◌, every}
use Rattle.vio_model.specs.Layout.{version_words, most_versions}

-- above every major and minor: "minor 16, major 16" bits
abbrev pub version_limit : ℕ
version_limit = 65536

abbrev pub major_at : List ℕ → ℕ → ℕ
major_at l i = get_or l (i * version_words) 0

abbrev pub minor_at : List ℕ → ℕ → ℕ
minor_at l i = get_or l (i * version_words + 1) 0

abbrev pub count_of : List ℕ → ℕ
count_of l = length l / version_words

-- the first n versions have this major
unfoldable pub holds_in : List ℕ → ℕ → ℕ → Bool
holds_in l major zero = false
holds_in l major (suc n) = holds_in l major n or eqb (major_at l n) major

abbrev pub holds : List ℕ → ℕ → Bool
holds l major = holds_in l major (count_of l)

-- the minor that the first n versions have for a major, 0 where they do not have it
unfoldable pub minor_in : List ℕ → ℕ → ℕ → ℕ
minor_in l major zero = 0
minor_in l major (suc n) = pick (eqb (major_at l n) major) (minor_at l n) (minor_in l major n)

abbrev pub minor_of : List ℕ → ℕ → ℕ
minor_of l major = minor_in l major (count_of l)

-- the highest major below a bound that the first n versions have, 0 where there is none
unfoldable pub highest_in : List ℕ → ℕ → ℕ → ℕ
highest_in l bound zero = 0
highest_in l bound (suc n) =
    pick (ltb (major_at l n) bound) (max (major_at l n) (highest_in l bound n)) (highest_in l bound n)

abbrev pub highest_below : List ℕ → ℕ → ℕ
highest_below l bound = highest_in l bound (count_of l)

-- version i: "different majors from 1 up", each number of 16 bits
unfoldable pub version_keeps : List ℕ → ℕ → Bool
version_keeps l i =
    leb 1 (major_at l i)
    and ltb (major_at l i) version_limit
    and ltb (minor_at l i) version_limit
    and not (holds_in l (major_at l i) i)

-- the list is accepted: whole versions, 1 to 16 of them, that keep the rules; "else 7"
unfoldable pub accepted_list : List ℕ → Bool
accepted_list l =
    eqb (length l % version_words) 0
    and leb 1 (count_of l)
    and leb (count_of l) most_versions
    and every (count_of l) (λ i. version_keeps l i)
