-- A sound end: the words that setup makes and that start and receive leave. Any other words are refused by 8.
-- Assumes nothing.
use Rattle.std.specs.Prelude.{ℕ, Bool, true, List, length, leb, ltb, eqb}
use Rattle.basics.specs.Choice.{◌and◌}
use Rattle.vio_model.specs.declared.Session.{Session}
use Rattle.vio_model.specs.declared.Session.TheVariants.{Nothing, Asked, Agreed, Ended}
use Rattle.vio_model.specs.Layout.{end_words, ended_stage, most_versions, class_of, accepts_of, stage_of, versions_held, session_of, versions_of}
use Rattle.vio_model.specs.Versions.{holds, minor_of, accepted_list}

-- above every class, "class 8" bits, and above every session id, "session id 32 bits"
abbrev pub class_limit : ℕ
class_limit = 256

abbrev pub id_limit : ℕ
id_limit = 4294967296

-- an open request asks for a version held; a version agreed is of a major held, with a minor that is held with it
unfoldable pub session_keeps : List ℕ → Session → Bool
session_keeps l Nothing = true
session_keeps l (Asked id major minor) = ltb id id_limit and holds l major and eqb minor (minor_of l major)
session_keeps l (Agreed id major minor) = ltb id id_limit and holds l major and leb minor (minor_of l major)
session_keeps l Ended = true

-- The words past the last version, and a session's words where the stage gives them no meaning, are free.
unfoldable pub sound : List ℕ → Bool
sound w =
    eqb (length w) end_words
    and ltb (class_of w) class_limit
    and ltb (accepts_of w) class_limit
    and leb (stage_of w) ended_stage
    and leb (versions_held w) most_versions
    and accepted_list (versions_of w)
    and session_keeps (versions_of w) (session_of w)
