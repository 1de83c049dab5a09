-- A line of a program's output, made from a form: "numbers in decimal, words as 16 hexadecimal digits, bytes as
-- hexadecimal digits with no spaces", in small letters. Each line ends in LF.
-- Assumes nothing.
use Rattle.std.specs.Prelude.{◌≡◌, ℕ, zero, suc, ◌+◌, ◌-◌, ◌*◌, ◌/◌, ◌%◌, ◌≤◌, min, List, [], ◌∷◌, ◌++◌, length, take, ◌==◌, nat_le, nat_lt, slice_index}
use Rattle.std.proofs.lemmas.List.Edits.{sets}
use Rattle.io.specs.Digits.{last_digits, hex_digit_ascii}
use Rattle.basics.specs.Choice.{pick, joined}

abbrev pub digit_byte : ℕ → ℕ
digit_byte d = 48 + d

-- a number in decimal with no zero in front, where it has at most `places` digits
unfoldable pub decimal_in : ℕ → ℕ → List ℕ
decimal_in zero n = []
decimal_in (suc places) n = pick (nat_lt n 10) (digit_byte n ∷ []) (decimal_in places (n / 10) ++ digit_byte (n % 10) ∷ [])

-- a number of 64 bits has at most 20
abbrev pub decimal_places : ℕ
decimal_places = 20

abbrev pub decimal : ℕ → List ℕ
decimal n = decimal_in decimal_places n

-- a word
abbrev pub word_places : ℕ
word_places = 16

abbrev pub word : ℕ → List ℕ
word n = last_digits 16 word_places n

-- a byte
abbrev pub pair_of : ℕ → List ℕ
pair_of b = hex_digit_ascii (b / 16) ∷ hex_digit_ascii (b % 16) ∷ []

unfoldable pub hex_of : List ℕ → List ℕ
hex_of bytes = joined (λ i. pair_of (slice_index bytes i)) (length bytes)

-- What a byte of a form shows: 0 to 3 the numbers in decimal, 4 and 5 the first two as words, 6 the name, any other
-- itself. That is at most 20 bytes.
abbrev pub shown_bytes : ℕ
shown_bytes = decimal_places

unfoldable pub shown : List ℕ → List ℕ → ℕ → List ℕ
shown name values b =
    pick (nat_lt b 4) (decimal (slice_index values b))
    (pick (nat_lt b 6) (word (slice_index values (b - 4))) (pick (b == 6) name (b ∷ [])))

unfoldable pub filled : List ℕ → List ℕ → List ℕ → List ℕ
filled form name values = joined (λ i. shown name values (slice_index form i)) (length form)

-- bytes after a space, nothing for none; then LF
unfoldable pub tail_of : List ℕ → List ℕ
tail_of bytes = pick (length bytes == 0) (10 ∷ []) ((32 ∷ []) ++ hex_of bytes ++ (10 ∷ []))

-- The line. It shows at most so many bytes as digits, which are more than a list of calls can have.
abbrev pub most_bytes : ℕ
most_bytes = 16384

-- the front part of a run: n bytes, or all of it where it has fewer
abbrev pub front : ℕ → List ℕ → List ℕ
front n l = take (min n (length l)) l

unfoldable pub line_of : List ℕ → List ℕ → List ℕ → List ℕ → List ℕ
line_of form name values bytes = filled form name values ++ tail_of (front most_bytes bytes)

-- the most bytes of a form, and of a line
abbrev pub most_form : ℕ
most_form = 128

abbrev pub line_bytes : ℕ
line_bytes = most_form * shown_bytes + 2 + most_bytes * 2

abbrev pub text_bytes : ℕ
text_bytes = 65536

-- bytes put at a place, at most `most` of them: the next place, and the text as it is left
pub record Puts (bytes text : List ℕ) (at most r : ℕ) (text' : List ℕ) : Type 0 where
  pub next : r ≡ at + length bytes
  pub fits : r ≤ at + most
  pub output : text' ≡ sets text at bytes

-- A line gathered: it is put whole behind the bytes gathered before it, or at the start where there is no room for the
-- longest line, since those before it are written out first.
unfoldable pub start_of : ℕ → ℕ
start_of used = pick (nat_le used (text_bytes - line_bytes)) used 0

pub record Gathers (line text : List ℕ) (used r : ℕ) (text' : List ℕ) : Type 0 where
  pub next : r ≡ start_of used + length line
  pub output : text' ≡ sets text (start_of used) line

-- "bad line N"
abbrev pub form_bad_line : List ℕ
form_bad_line = 98 ∷ 97 ∷ 100 ∷ 32 ∷ 108 ∷ 105 ∷ 110 ∷ 101 ∷ 32 ∷ 0 ∷ []

abbrev pub bad_line : ℕ → List ℕ
bad_line number = line_of form_bad_line [] (number ∷ 0 ∷ 0 ∷ 0 ∷ []) []
