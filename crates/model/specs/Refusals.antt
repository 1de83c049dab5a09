-- "Calls and refusal numbers": 01's table as a list of tests with their numbers, read by one rule.
-- Assumes nothing.
use Rattle.std.specs.Prelude.{ℕ, Bool, not, List, [], ◌∷◌, ◌++◌, leb, ltb, eqb, Result, Ok, Err}
use Rattle.model.specs.declared.Refusal.{Refusal}
use Rattle.model.specs.declared.Refusal.TheVariants.{BadJournal, ShortOutput, OutOfRange, JournalFull, NumbersUsed, NotAllowed, BadList, Unsound}
use Rattle.basics.specs.Choice.{pick}
use Rattle.model.specs.Layout.{most_held, highest_number, journal_words, output_bytes, last_of, held_of}
use Rattle.model.specs.State.{sound}

-- the number of a refusal, and of what a test of the refusals answers: 0 where none applies
abbrev pub number_of : Refusal → ℕ
number_of BadJournal = 1
number_of ShortOutput = 2
number_of OutOfRange = 3
number_of JournalFull = 4
number_of NumbersUsed = 5
number_of NotAllowed = 6
number_of BadList = 7
number_of Unsound = 8

abbrev pub refused_by : Result Unit Refusal → ℕ
refused_by (Ok _) = 0
refused_by (Err r) = number_of r

-- a row of the table: when it applies, and its number
pub record Row : Type 0 where
  pub when : Bool
  pub number : ℕ

abbrev pub refuses : Bool → ℕ → Row
refuses when number = record { when = when; number = number }

-- the number of the first row that applies, 0 where none does
unfoldable pub refusal_in : List Row → ℕ
refusal_in [] = 0
refusal_in (r ∷ rs) = pick r.when r.number (refusal_in rs)

-- "8 is tested first, then the others in this order". The rows of every call but setup: the state, and a journal of `words` words.
abbrev pub lent_rows : List ℕ → ℕ → List Row
lent_rows s words = refuses (not (sound s)) 8 ∷ refuses (not (eqb words journal_words)) 1 ∷ []

-- Those of a call that adds an entry, lent an output of `bytes` bytes. `in_range`: its channel, service and budget are; `allowed`: the row
-- of refusal 6 does not apply.
abbrev pub action_rows : List ℕ → ℕ → Bool → Bool → List Row
action_rows s bytes in_range allowed =
    refuses (ltb bytes output_bytes) 2
    ∷ refuses (not in_range) 3
    ∷ refuses (leb most_held (held_of s)) 4
    ∷ refuses (leb highest_number (last_of s)) 5
    ∷ refuses (not allowed) 6
    ∷ []

unfoldable pub action_refusal : List ℕ → ℕ → ℕ → Bool → Bool → ℕ
action_refusal s words bytes in_range allowed = refusal_in (lent_rows s words ++ action_rows s bytes in_range allowed)

-- the refusals of drain: 8 and 1
unfoldable pub drain_refusal : List ℕ → ℕ → ℕ
drain_refusal s words = refusal_in (lent_rows s words)
