-- 02, ticket 9: what a piece and a reopening do.
-- Assumes nothing.
use Rattle.std.specs.Prelude.{ℕ, ◌+◌, ◌-◌, Bool, true, false, not, List, [], ◌∷◌, ◌++◌, length, take, set, eqb, ltb}
use Rattle.basics.specs.Choice.{pick, ◌and◌}
use Rattle.model.specs.Layout.{channel_count, ds_header_bytes, journal_words, output_bytes}
use Rattle.model.specs.State.{sound}
use Rattle.model.specs.Refusals.{refuses, refusal_in}
use Rattle.model.specs.Messages.{most_payload, payload_length}
use Rattle.model.specs.Calls.{act, receive, outcome, Outcome}
use Rattle.front_model.specs.Front.{Front, Part, dropping, keeps, part_of, parts_of, front_sound}

-- What a piece comes to: no message is given, all bytes are taken, and this part is left; or this message is given, so many bytes are taken, and this part is left.
pub data Taking : Type 0 where
  all : Part → Taking
  gives : List ℕ → ℕ → Part → Taking

-- "A call takes all bytes, to the end of one message at most"; "A payload_len above 4,096 closes the channel at its eighth byte (the agent receives the eight as a badly
-- formed message), and further bytes are taken and dropped". m is the part that was kept, of so many bytes, and the piece behind it.
unfoldable pub taking_of : List ℕ → ℕ → Taking
taking_of m kept =
    pick (ltb (length m) ds_header_bytes) (all (keeps m))
    (pick (ltb most_payload (payload_length m)) (gives (take ds_header_bytes m) (ds_header_bytes - kept) dropping)
    (pick (ltb (length m) (ds_header_bytes + payload_length m)) (all (keeps m))
    (gives (take (ds_header_bytes + payload_length m) m) (ds_header_bytes + payload_length m - kept) (keeps []))))

abbrev pub taking_after : List ℕ → List ℕ → Taking
taking_after p b = taking_of (p ++ b) (length p)

unfoldable pub taking : Part → List ℕ → Taking
taking dropping b = all dropping
taking (keeps p) b = taking_after p b

-- "8, 1, 2 and 3 are tested in every call (reopening: 8 and 3 only), and 8 is also given if" the front is not sound
unfoldable pub piece_refusal : Front → List ℕ → ℕ → ℕ → ℕ → ℕ
piece_refusal f s words bytes c =
    refusal_in
    (refuses (not (sound s and front_sound f)) 8
    ∷ refuses (not (eqb words journal_words)) 1
    ∷ refuses (ltb bytes output_bytes) 2
    ∷ refuses (not (ltb c channel_count)) 3
    ∷ [])

unfoldable pub reopen_refusal : Front → List ℕ → ℕ → ℕ
reopen_refusal f s c = refusal_in (refuses (not (sound s and front_sound f)) 8 ∷ refuses (not (ltb c channel_count)) 3 ∷ [])

-- What a piece gives back: 0 or the refusal's number; how many bytes it took; whether a message was given to the agent; the reply's length; the state, the journal and the
-- output; and what the front has for each channel.
pub record Pieced : Type 0 where
  pub refusal : ℕ
  pub taken : ℕ
  pub given : Bool
  pub count : ℕ
  pub state : List ℕ
  pub journal : List ℕ
  pub buffer : List ℕ
  pub parts : List Part

-- "refused with the same number and has taken nothing"
unfoldable pub piece_refused : Front → List ℕ → List ℕ → List ℕ → ℕ → Pieced
piece_refused f s j out n =
    record { refusal = n; taken = 0; given = false; count = 0; state = s; journal = j; buffer = out; parts = parts_of f }

-- "A call that gives the agent no message adds no entry"
unfoldable pub piece_kept : Front → List ℕ → List ℕ → ℕ → List ℕ → List ℕ → Part → Pieced
piece_kept f s j c b out p =
    record { refusal = 0; taken = length b; given = false; count = 0; state = s; journal = j; buffer = out; parts = set (parts_of f) c p }

unfoldable pub piece_given : Front → ℕ → ℕ → Part → Outcome → Pieced
piece_given f c n p r =
    record { refusal = 0; taken = n; given = true; count = r.count; state = r.state; journal = r.journal; buffer = r.buffer; parts = set (parts_of f) c p }

-- "if the agent refuses that message, the call is refused with the same number"
unfoldable pub pieced_by : Front → List ℕ → List ℕ → ℕ → List ℕ → List ℕ → Taking → Pieced
pieced_by f s j c b out (all p) = piece_kept f s j c b out p
pieced_by f s j c b out (gives m n p) =
    let r = outcome s j (act (receive c m) out) in
    pick (eqb r.refusal 0) (piece_given f c n p r) (piece_refused f s j out r.refusal)

unfoldable pub pieced : Front → List ℕ → List ℕ → ℕ → List ℕ → List ℕ → Pieced
pieced f s j c b out =
    let n = piece_refusal f s (length j) (length out) c in
    pick (eqb n 0) (pieced_by f s j c b out (taking (part_of f c) b)) (piece_refused f s j out n)

-- "until the host reopens that channel's front, which leaves it empty, dropping or not"
pub record Reopened : Type 0 where
  pub refusal : ℕ
  pub parts : List Part

unfoldable pub reopened : Front → List ℕ → ℕ → Reopened
reopened f s c =
    let n = reopen_refusal f s c in
    pick (eqb n 0) (record { refusal = 0; parts = set (parts_of f) c (keeps []) }) (record { refusal = n; parts = parts_of f })
