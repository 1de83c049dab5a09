-- One end: its 39 words by name, and the end that they hold.
--
--     0          its class
--     1          the class that it accepts
--     2          the session's stage: 0 nothing, 1 an open request, 2 a version agreed, 3 a try that ended without a version
--     3 ..  5    its session id, major and minor, where the stage is 1 or 2
--     6          the number of versions held, 1 to 16
--     7 .. 38    version i, at 7 + i * 2: its major and its highest minor
-- Assumes nothing.
use Rattle.std.specs.Prelude.{ℕ, ◌*◌, List, [], ◌∷◌, get_or, take, drop, eqb}
use Rattle.std.proofs.lemmas.List.Edits.{sets}
use Rattle.basics.specs.Choice.{pick}
use Rattle.vio_model.specs.declared.Session.{Session}
use Rattle.vio_model.specs.declared.Session.TheVariants.{Nothing, Asked, Agreed, Ended}

abbrev pub end_words : ℕ
end_words = 39

abbrev pub class_word : ℕ
class_word = 0

abbrev pub accepts_word : ℕ
accepts_word = 1

abbrev pub stage_word : ℕ
stage_word = 2

abbrev pub count_word : ℕ
count_word = 6

abbrev pub first_version_word : ℕ
first_version_word = 7

abbrev pub version_words : ℕ
version_words = 2

abbrev pub most_versions : ℕ
most_versions = 16

-- what the stage's word says
abbrev pub nothing_stage : ℕ
nothing_stage = 0

abbrev pub asked_stage : ℕ
asked_stage = 1

abbrev pub agreed_stage : ℕ
agreed_stage = 2

abbrev pub ended_stage : ℕ
ended_stage = 3

abbrev pub class_of : List ℕ → ℕ
class_of w = get_or w class_word 0

abbrev pub accepts_of : List ℕ → ℕ
accepts_of w = get_or w accepts_word 0

abbrev pub stage_of : List ℕ → ℕ
stage_of w = get_or w stage_word 0

abbrev pub versions_held : List ℕ → ℕ
versions_held w = get_or w count_word 0

-- the session that the four words hold
unfoldable pub session_in : ℕ → ℕ → ℕ → ℕ → Session
session_in stage id major minor =
    pick (eqb stage asked_stage) (Asked id major minor)
    (pick (eqb stage agreed_stage) (Agreed id major minor)
    (pick (eqb stage ended_stage) Ended Nothing))

unfoldable pub session_of : List ℕ → Session
session_of w = session_in (stage_of w) (get_or w 3 0) (get_or w 4 0) (get_or w 5 0)

-- the words of the versions held, two a version
unfoldable pub versions_of : List ℕ → List ℕ
versions_of w = take (versions_held w * version_words) (drop first_version_word w)

-- "two ends, each given its class and the one it accepts"; "the versions held are a list"
pub record End : Type 0 where
  pub class : ℕ
  pub accepts : ℕ
  pub versions : List ℕ
  pub session : Session

unfoldable pub end_of : List ℕ → End
end_of w = record {
  class = class_of w;
  accepts = accepts_of w;
  versions = versions_of w;
  session = session_of w;
}

-- the four words of a session, and an end's words with another session
unfoldable pub session_words : Session → List ℕ
session_words Nothing = nothing_stage ∷ 0 ∷ 0 ∷ 0 ∷ []
session_words (Asked id major minor) = asked_stage ∷ id ∷ major ∷ minor ∷ []
session_words (Agreed id major minor) = agreed_stage ∷ id ∷ major ∷ minor ∷ []
session_words Ended = ended_stage ∷ 0 ∷ 0 ∷ 0 ∷ []

unfoldable pub with_session : List ℕ → Session → List ℕ
with_session w s = sets w stage_word (session_words s)
