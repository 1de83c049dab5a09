-- The contracts below the public calls: of a handler, which carries an effect out (it changes the state, writes the reply and returns what is to
-- be noted), and of the entry that is added after it.
-- Assumes nothing.
use Rattle.std.specs.Prelude.{ℕ, ◌+◌, ◌/◌, ◌≤◌, ◌<◌, min, ◌≡◌, List, [], length}
use Rattle.wire.specs.BigEndian.{written}
use Rattle.entry.specs.Word.{InRange}
use Rattle.model.specs.declared.Event.{Event}
use Rattle.model.specs.Layout.{most_held, highest_number, journal_words, entry_words, last_of, held_of, with_counts}
use Rattle.model.specs.Journal.{fields_of, entry_of, stored}
use Rattle.model.specs.Messages.{Effect}
use Rattle.model.specs.Work.{WorkStep}
use Rattle.model.specs.Calls.{drained}
use Rattle.model.specs.Promises.{emptied}

-- of the effect e and an output: the reply's length and the event returned, and the state and the output as they are left
pub record Handles (e : Effect) (out : List ℕ) (size : ℕ) (noted : Event) (s' out' : List ℕ) : Type 0 where
  pub length' : size ≡ length e.reply
  pub notes : noted ≡ e.event
  pub state : s' ≡ e.state
  pub output : out' ≡ written e.reply out

-- of a handler that is lent no output, since there is no reply
pub record HandlesSilently (e : Effect) (size : ℕ) (noted : Event) (s' : List ℕ) : Type 0 where
  pub no_reply : e.reply ≡ []
  pub length' : size ≡ 0
  pub notes : noted ≡ e.event
  pub state : s' ≡ e.state

-- of a work step x: the pages moved too
pub record HandlesStep (x : WorkStep) (out : List ℕ) (size : ℕ) (noted : Event) (pages : ℕ) (s' out' : List ℕ) : Type 0 where
  pub handles : Handles x.effects out size noted s' out'
  pub moves : pages ≡ x.pages

-- of an entry added after a handler: numbered, held and written into its slot
pub record Adds (s j : List ℕ) (e : Event) (s' j' : List ℕ) : Type 0 where
  pub counted : s' ≡ with_counts s (last_of s + 1) (held_of s + 1)
  pub written' : j' ≡ stored j (last_of s + 1) (entry_of (last_of s + 1) e)

-- what it asks: a number and room for it, and an event that fits an entry
pub record CanAdd (s j : List ℕ) (e : Event) : Type 0 where
  pub number : last_of s < highest_number
  pub room : held_of s < most_held
  pub slots : length j ≡ journal_words
  pub range : InRange (fields_of (last_of s + 1) e)

-- what drain asks of the counts and the journal
pub record CanDrain (s j : List ℕ) : Type 0 where
  pub numbered : held_of s ≤ last_of s
  pub most : last_of s ≤ highest_number
  pub slots : length j ≡ journal_words

-- of entries drained: the number r that is returned, and the state and the run as they are left
abbrev pub Drains : List ℕ → List ℕ → List ℕ → ℕ → List ℕ → List ℕ → Type 0
Drains s j run r s' run' =
    emptied (record { refusal = 0; entries = r }) s' j run'
    ≡ drained s j run (min (held_of s) (length run / entry_words))
