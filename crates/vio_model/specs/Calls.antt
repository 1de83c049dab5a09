-- The calls: setup, start and receive.
-- Assumes nothing.
use Rattle.std.specs.Prelude.{ℕ, List, length, set, replicate}
use Rattle.std.proofs.Math.Seq.{paste}
use Rattle.basics.specs.Choice.{pick}
use Rattle.vio_message.specs.declared.Words.{Words}
use Rattle.vio_message.specs.Words.{InRange, packed, unpacked}
use Rattle.vio_model.specs.declared.Ready.{Ready}
use Rattle.vio_model.specs.declared.Effect.{Effect}
use Rattle.vio_model.specs.declared.Effect.TheVariants.{Ignored, Becomes, Sends}
use Rattle.vio_model.specs.Layout.{end_words, class_word, accepts_word, count_word, first_version_word, end_of, with_session}
use Rattle.vio_model.specs.Versions.{version_limit, count_of, accepted_list}
use Rattle.vio_model.specs.Sound.{sound}
use Rattle.vio_model.specs.Rules.{asking, heard}

-- an end of these classes and this number of versions, with no session and the versions' words still 0
unfoldable pub blank_end : ℕ → ℕ → ℕ → List ℕ
blank_end class accepts count =
    set (set (set (replicate end_words 0) class_word class) accepts_word accepts) count_word count

-- an end of these classes and versions: the list's words, all of them, from the first version's word on
unfoldable pub new_end : ℕ → ℕ → List ℕ → List ℕ
new_end class accepts l = paste (blank_end class accepts (count_of l)) first_version_word l (length l)

-- "(else 7)": a refused list makes no end, words that are not sound
unfoldable pub ready : ℕ → ℕ → List ℕ → Ready
ready class accepts l =
    pick (accepted_list l)
    (record { refusal = 0; end = new_end class accepts l })
    (record { refusal = 7; end = replicate end_words 0 })

-- the words of a message
abbrev pub message_words : ℕ
message_words = 2

-- what start and receive give back and leave: the refusal, the number of words sent, these words, and the end
pub record Outcome : Type 0 where
  pub refusal : ℕ
  pub count : ℕ
  pub first : ℕ
  pub second : ℕ
  pub end : List ℕ

unfoldable pub silent : ℕ → List ℕ → Outcome
silent refusal w = record { refusal = refusal; count = 0; first = 0; second = 0; end = w }

unfoldable pub sending : Words → List ℕ → Outcome
sending s w = record { refusal = 0; count = message_words; first = s.first; second = s.second; end = w }

unfoldable pub accepted : List ℕ → Effect → Outcome
accepted w Ignored = silent 0 w
accepted w (Becomes s) = silent 0 (with_session w s)
accepted w (Sends s m) = sending (packed m) (with_session w s)

-- the message that an effect sends, if any, fits its words
abbrev pub Fits : Effect → Type 0
Fits Ignored = Unit {0}
Fits (Becomes s) = Unit {0}
Fits (Sends s m) = InRange m

-- words that are no sound end are refused by 8, and nothing changes
unfoldable pub started : List ℕ → ℕ → Outcome
started w id = pick (sound w) (accepted w (asking (end_of w) id version_limit)) (silent 8 w)

unfoldable pub received : List ℕ → ℕ → Words → Outcome
received w next s = pick (sound w) (accepted w (heard (end_of w) next (unpacked s))) (silent 8 w)
