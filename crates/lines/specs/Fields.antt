-- The fields of a line of the host program: "numbers below 2^64 in decimal or with 0x in hexadecimal, bytes as hexadecimal digits with no
-- spaces", "hexadecimal is .. read in either" case.
-- Assumes nothing.
use Rattle.std.specs.Prelude.{◌≡◌, ℕ, zero, suc, ◌+◌, ◌*◌, ◌/◌, ◌%◌, Bool, true, ltb, List, ◌++◌, length, drop, nat_eq, nat_le, nat_lt, slice_index, Option, Some, None}
use Rattle.lines.specs.Search.{index_of, slice}
use Rattle.basics.specs.Choice.{pick, ◌and◌, every, tabulate}
use Rattle.std.specs.List.{list_all}
use Rattle.std.specs.Char.{digit_value}

-- the value of a field's first n digits
unfoldable pub value_of : ℕ → List ℕ → ℕ → ℕ
value_of base field zero = 0
value_of base field (suc n) = value_of base field n * base + digit_value (slice_index field n)

-- the first n bytes of a field are digits
abbrev pub are_digits : ℕ → List ℕ → ℕ → Bool
are_digits base field n = every n (λ i. ltb (digit_value (slice_index field i)) base)

-- a number: one or more digits, below 2^64
unfoldable pub is_number : ℕ → List ℕ → Bool
is_number base field =
    nat_lt 0 (length field)
    and are_digits base field (length field)
    and ltb (value_of base field (length field)) 18446744073709551616

unfoldable pub digits_in : ℕ → List ℕ → Option ℕ
digits_in base field = pick (is_number base field) (Some (value_of base field (length field))) None

-- it begins with 0x
unfoldable pub is_prefixed : List ℕ → Bool
is_prefixed field = nat_le 2 (length field) and nat_eq (slice_index field 0) 48 and nat_eq (slice_index field 1) 120

-- decimal or hexadecimal
unfoldable pub number_in : List ℕ → Option ℕ
number_in field = pick (is_prefixed field) (digits_in 16 (drop 2 field)) (digits_in 10 field)

-- the number with one digit more
unfoldable pub appended : ℕ → ℕ → ℕ → Option ℕ
appended base value b =
    pick
    (ltb (digit_value b) base and ltb (value * base + digit_value b) 18446744073709551616)
    (Some (value * base + digit_value b))
    None

-- the byte of two digits
unfoldable pub pair_of : ℕ → ℕ → ℕ
pair_of high low = digit_value high * 16 + digit_value low

unfoldable pub are_pair : ℕ → ℕ → Bool
are_pair high low = ltb (digit_value high) 16 and ltb (digit_value low) 16

unfoldable pub pair_in : ℕ → ℕ → Option ℕ
pair_in high low = pick (are_pair high low) (Some (pair_of high low)) None

-- byte i of a field's digits
abbrev pub byte_of : List ℕ → ℕ → ℕ
byte_of field i = pair_of (slice_index field (i * 2)) (slice_index field (i * 2 + 1))

abbrev pub is_byte : List ℕ → ℕ → Bool
is_byte field i = are_pair (slice_index field (i * 2)) (slice_index field (i * 2 + 1))

-- bytes: an even count of digits, not 0
unfoldable pub are_bytes : List ℕ → Bool
are_bytes field =
    ltb 0 (length field) and nat_eq (length field % 2) 0 and every (length field / 2) (λ i. is_byte field i)

-- read into a run of `room` bytes: their count
unfoldable pub bytes_in : List ℕ → ℕ → Option ℕ
bytes_in field room = pick (are_bytes field and nat_le (length field / 2) room) (Some (length field / 2)) None

-- the answer; and, where it is a count, the bytes at the start of the run, the rest of it as it was
unfoldable pub BytesRead : List ℕ → List ℕ → Option ℕ → List ℕ → Type 0
BytesRead field into r into' =
    (r ≡ bytes_in field (length into))
    × ((are_bytes field and nat_le (length field / 2) (length into)) ≡ true →
    into' ≡ tabulate (λ i. byte_of field i) (length field / 2) ++ drop (length field / 2) into)

-- "fields apart by one space": where the field that begins at `from` ends
abbrev pub end_of : List ℕ → ℕ → ℕ
end_of line from = from + index_of 32 (slice from (length line) line)

-- "blank lines and lines that begin with # are passed over"
abbrev pub is_blank : List ℕ → Bool
is_blank line = list_all (λ b. nat_eq b 32) line

unfoldable pub is_comment : List ℕ → Bool
is_comment line = ltb 0 (length line) and nat_eq (slice_index line 0) 35
