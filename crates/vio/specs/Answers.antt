-- The lines of answers, README.md's table of the handshake's lines; a refusal has the call's name and its number.
-- Assumes nothing.
use Rattle.std.specs.Prelude.{ℕ, ◌+◌, List, [], ◌∷◌, get_or, eqb}
use Rattle.basics.specs.Choice.{pick}
use Rattle.vio_model.specs.declared.Answer.{Answer}
use Rattle.vio_model.specs.Layout.{agreed_stage, asked_stage, ended_stage, stage_word}
use Rattle.lines.specs.Forms.{line_of}

-- `NAME refused N`
abbrev pub form_refused : List ℕ
form_refused = 6 ∷ 32 ∷ 114 ∷ 101 ∷ 102 ∷ 117 ∷ 115 ∷ 101 ∷ 100 ∷ 32 ∷ 0 ∷ []

abbrev pub refused_line : List ℕ → ℕ → List ℕ
refused_line name refusal = line_of form_refused name (refusal ∷ 0 ∷ 0 ∷ 0 ∷ []) []

abbrev pub no_values : List ℕ
no_values = 0 ∷ 0 ∷ 0 ∷ 0 ∷ []

-- `end`
abbrev pub name_end : List ℕ
name_end = 101 ∷ 110 ∷ 100 ∷ []

-- `end accepted`
abbrev pub form_ready : List ℕ
form_ready = 101 ∷ 110 ∷ 100 ∷ 32 ∷ 97 ∷ 99 ∷ 99 ∷ 101 ∷ 112 ∷ 116 ∷ 101 ∷ 100 ∷ []

unfoldable pub ready_line : ℕ → List ℕ
ready_line refusal = pick (eqb refusal 0) (line_of form_ready [] no_values []) (refused_line name_end refusal)

-- `NAME FIRST SECOND`
abbrev pub form_sent : List ℕ
form_sent = 6 ∷ 32 ∷ 4 ∷ 32 ∷ 5 ∷ []

-- `NAME`
abbrev pub form_none : List ℕ
form_none = 6 ∷ []

-- the words sent, if any
unfoldable pub sent_line : List ℕ → Answer → List ℕ
sent_line name a =
    pick (eqb a.refusal 0)
    (pick (eqb a.count 2) (line_of form_sent name (a.first ∷ a.second ∷ 0 ∷ 0 ∷ []) []) (line_of form_none name no_values []))
    (refused_line name a.refusal)

-- `end E asked MAJOR MINOR`
abbrev pub form_asked : List ℕ
form_asked = 101 ∷ 110 ∷ 100 ∷ 32 ∷ 0 ∷ 32 ∷ 97 ∷ 115 ∷ 107 ∷ 101 ∷ 100 ∷ 32 ∷ 1 ∷ 32 ∷ 2 ∷ []

-- `end E agreed MAJOR MINOR session ID`
abbrev pub form_agreed : List ℕ
form_agreed = 101 ∷ 110 ∷ 100 ∷ 32 ∷ 0 ∷ 32 ∷ 97 ∷ 103 ∷ 114 ∷ 101 ∷ 101 ∷ 100 ∷ 32 ∷ 1 ∷ 32 ∷ 2 ∷ 32 ∷ 115 ∷ 101 ∷ 115 ∷ 115 ∷ 105 ∷ 111 ∷ 110 ∷ 32 ∷ 3 ∷ []

-- `end E refused`
abbrev pub form_ended : List ℕ
form_ended = 101 ∷ 110 ∷ 100 ∷ 32 ∷ 0 ∷ 32 ∷ 114 ∷ 101 ∷ 102 ∷ 117 ∷ 115 ∷ 101 ∷ 100 ∷ []

-- `end E no version`
abbrev pub form_no_version : List ℕ
form_no_version = 101 ∷ 110 ∷ 100 ∷ 32 ∷ 0 ∷ 32 ∷ 110 ∷ 111 ∷ 32 ∷ 118 ∷ 101 ∷ 114 ∷ 115 ∷ 105 ∷ 111 ∷ 110 ∷ []

-- what an end's session is: its stage, then the words of the session id and of the version
unfoldable pub form_of : ℕ → List ℕ
form_of stage = pick (eqb stage asked_stage) form_asked (pick (eqb stage agreed_stage) form_agreed (pick (eqb stage ended_stage) form_ended form_no_version))

abbrev pub state_line : ℕ → List ℕ → List ℕ
state_line number end =
    line_of (form_of (get_or end stage_word 0)) []
    (number ∷ get_or end (stage_word + 2) 0 ∷ get_or end (stage_word + 3) 0 ∷ get_or end (stage_word + 1) 0 ∷ []) []
