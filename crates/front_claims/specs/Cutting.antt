-- 02, ticket 9: "any cutting of one channel's stream, untaken bytes offered next, refused calls again after a drain of one entry or more, no other calls between, gives the
-- same replies to messages, entries and final state as the whole stream does with the same drains at the same messages".
-- Assumes nothing.
use Rattle.std.specs.Prelude.{ℕ, ◌+◌, ◌-◌, ◌/◌, ◌≤◌, ◌<◌, min, ◌≡◌, Bool, true, false, List, [], ◌∷◌, ◌++◌, length, take, drop, get_or, eqb}
use Rattle.basics.specs.Choice.{pick, ◌and◌}
use Rattle.model.specs.Layout.{channel_count, ds_header_bytes, entry_words, journal_words, output_bytes, most_held, highest_number, last_of, held_of}
use Rattle.model.specs.State.{sound}
use Rattle.model.specs.Journal.{Entry, entries_at}
use Rattle.model.specs.Calls.{Call, act, drain}
use Rattle.claims.specs.Demand3.{drained_by}
use Rattle.model.specs.Messages.{most_payload, payload_length}
use Rattle.front_model.specs.Front.{Front, dropping, keeps, part_of, front_sound}
use Rattle.front_model.specs.Calls.{Taking, all, gives, taking, Pieced, pieced}
use Rattle.front_claims.specs.Lists.{FrontDone, piecing, reopening, calling, Standing, stands, AllFrontMeet, stands_after}

-- A drain; "no other calls between".
unfoldable pub is_drain : Call → Bool
is_drain (act a out) = false
is_drain (drain run) = true

-- The calls are a cutting of a stream of one channel: each piece is of the bytes that are left, any number of them, "untaken bytes offered next".
unfoldable pub Cuts : ℕ → List ℕ → List FrontDone → Type 0
Cuts c left [] = left ≡ []
Cuts c left (piecing channel b out r f ∷ ds) = (channel ≡ c) × (b ≡ take (length b) left) × Cuts c (drop r.taken left) ds
Cuts c left (reopening channel r f ∷ ds) = ⊥
Cuts c left (calling d ∷ ds) = (is_drain d.call ≡ true) × Cuts c left ds

-- "the same replies to messages": of each message that was given, in order
unfoldable pub replies_in : List FrontDone → List (List ℕ)
replies_in [] = []
replies_in (piecing c b out r f ∷ ds) = pick r.given (take r.count r.buffer ∷ replies_in ds) (replies_in ds)
replies_in (reopening c r f ∷ ds) = replies_in ds
replies_in (calling d ∷ ds) = replies_in ds

-- the entries: those drained, in order, then those held at the end
unfoldable pub drained_in : List FrontDone → List Entry
drained_in [] = []
drained_in (piecing c b out r f ∷ ds) = drained_in ds
drained_in (reopening c r f ∷ ds) = drained_in ds
drained_in (calling d ∷ ds) = drained_by d.call d.gave ++ drained_in ds

unfoldable pub held_in : Standing → List Entry
held_in u = entries_at u.journal (last_of u.state - held_of u.state + 1) (held_of u.state)

-- "the same drains at the same messages": of each drain, how many messages were given before it, and the entries that its run has room for
pub record DrainAt : Type 0 where
  pub messages : ℕ
  pub room : ℕ

unfoldable pub run_room : Call → ℕ
run_room (act a out) = 0
run_room (drain run) = length run / entry_words

unfoldable pub drains_in : ℕ → List FrontDone → List DrainAt
drains_in n [] = []
drains_in n (piecing c b out r f ∷ ds) = drains_in (pick r.given (n + 1) n) ds
drains_in n (reopening c r f ∷ ds) = drains_in n ds
drains_in n (calling d ∷ ds) = record { messages = n; room = run_room d.call } ∷ drains_in n ds

-- Two cuttings of one stream to its end, from one state, journal and front; the whole stream, each time all that is left of it, is such a cutting. A call that is refused takes nothing,
-- so that it may be made again, after a drain or not.
pub record SameOf (c : ℕ) (u : Standing) (ds es : List FrontDone) : Type 0 where
  pub replies : replies_in ds ≡ replies_in es
  pub trail : drained_in ds ++ held_in (stands_after u ds) ≡ drained_in es ++ held_in (stands_after u es)
  pub state : (stands_after u ds).state ≡ (stands_after u es).state
  pub journal : (stands_after u ds).journal ≡ (stands_after u es).journal
  pub part : part_of (stands_after u ds).front c ≡ part_of (stands_after u es).front c

abbrev pub CuttingHolds : Type 0
CuttingHolds =
    (c : ℕ) (u : Standing) (stream : List ℕ) (ds es : List FrontDone) →
    c < channel_count →
    front_sound u.front ≡ true →
    AllFrontMeet u ds →
    AllFrontMeet u es →
    Cuts c stream ds →
    Cuts c stream es →
    drains_in 0 ds ≡ drains_in 0 es →
    SameOf c u ds es

-- The messages that the calls of a list gave to the agent, in order.
unfoldable pub message_in : Taking → List ℕ
message_in (all p) = []
message_in (gives m i p) = m

unfoldable pub given_in : Standing → List FrontDone → List (List ℕ)
given_in u [] = []
given_in u (piecing c b out r f ∷ ds) =
    let rest = given_in (stands u (piecing c b out r f)) ds in
    pick r.given (message_in (taking (part_of u.front c) b) ∷ rest) rest
given_in u (reopening c r f ∷ ds) = given_in (stands u (reopening c r f)) ds
given_in u (calling d ∷ ds) = given_in (stands u (calling d)) ds

-- messages whose headers tell their lengths, laid end to end
pub record Whole (m : List ℕ) : Type 0 where
  pub long : length m ≡ ds_header_bytes + payload_length m
  pub bounded : payload_length m ≤ most_payload

unfoldable pub AllWhole : List (List ℕ) → Type 0
AllWhole [] = Unit {0}
AllWhole (m ∷ ms) = Whole m × AllWhole ms

unfoldable pub joined : List (List ℕ) → List ℕ
joined [] = []
joined (m ∷ ms) = m ++ joined ms

-- Any cutting of them gives the agent these messages and no other.
abbrev pub MessagesGiven : Type 0
MessagesGiven =
    (c : ℕ) (u : Standing) (ms : List (List ℕ)) (ds : List FrontDone) →
    c < channel_count →
    part_of u.front c ≡ keeps [] →
    AllWhole ms →
    AllFrontMeet u ds →
    Cuts c (joined ms) ds →
    given_in u ds ≡ ms

-- "A payload_len above 4,096 closes the channel at its eighth byte (the agent receives the eight ..)"
abbrev pub LongGiven : Type 0
LongGiven =
    (m rest : List ℕ) → length m ≡ ds_header_bytes → most_payload < payload_length m → taking (keeps []) (m ++ rest) ≡ gives m ds_header_bytes dropping

-- What is asked for a piece: "from one sound state, while numbers last and buffers are as asked", and a journal that is not full, as after "a drain of one entry or more".
pub record Asked (f : Front) (s j : List ℕ) (c : ℕ) (out : List ℕ) : Type 0 where
  pub sounds : sound s ≡ true
  pub front : front_sound f ≡ true
  pub journal : length j ≡ journal_words
  pub output : output_bytes ≤ length out
  pub channel : c < channel_count
  pub room : held_of s < most_held
  pub numbers : last_of s < highest_number

-- Then it is accepted, and takes a byte or more of those offered.
abbrev pub PiecesTaken : Type 0
PiecesTaken =
    (f : Front) (s j : List ℕ) (c : ℕ) (b out : List ℕ) →
    Asked f s j c out →
    ((pieced f s j c b out).refusal ≡ 0) × (min 1 (length b) ≤ (pieced f s j c b out).taken)

-- "A call takes all bytes, to the end of one message at most, and says how many". One message: a whole one, or the eight bytes of one with a "payload_len above 4,096".
pub data OneMessage (m : List ℕ) : Type 0 where
  is_whole : Whole m → OneMessage m
  is_long : length m ≡ ds_header_bytes → most_payload < payload_length m → OneMessage m

-- the message is the part that was kept and, behind it, the bytes that were taken, to its end
pub record ToItsEnd (p b : List ℕ) (taken : ℕ) (m : List ℕ) : Type 0 where
  pub bytes : m ≡ p ++ take taken b
  pub count : length m ≡ length p + taken
  pub one : OneMessage m

-- An accepted piece that gives the agent no message has taken all its bytes; one that gives a message, those to that message's end. What the front has for other channels is as it was.
pub record PieceTakes (f : Front) (c : ℕ) (b : List ℕ) (r : Pieced) : Type 0 where
  pub within : r.taken ≤ length b
  pub none : r.refusal ≡ 0 → r.given ≡ false → r.taken ≡ length b
  pub message : r.given ≡ true → (p : List ℕ) → part_of f c ≡ keeps p → ToItsEnd p b r.taken (message_in (taking (part_of f c) b))
  pub others : (k : ℕ) → k < channel_count → (k ≡ c → ⊥) → get_or r.parts k dropping ≡ part_of f k

abbrev pub TakenToTheEnd : Type 0
TakenToTheEnd = (f : Front) (s j : List ℕ) (c : ℕ) (b out : List ℕ) → PieceTakes f c b (pieced f s j c b out)

-- "further bytes are taken and dropped until the host reopens that channel's front": whatever calls are made, where no accepted one reopens it.
unfoldable pub NotReopened : ℕ → List FrontDone → Type 0
NotReopened c [] = Unit {0}
NotReopened c (piecing channel b out r f ∷ ds) = NotReopened c ds
NotReopened c (reopening channel r f ∷ ds) = (channel ≡ c → r.refusal ≡ 0 → ⊥) × NotReopened c ds
NotReopened c (calling d ∷ ds) = NotReopened c ds

-- the messages that pieces on one channel gave
unfoldable pub given_on : ℕ → Standing → List FrontDone → List (List ℕ)
given_on c u [] = []
given_on c u (piecing channel b out r f ∷ ds) =
    let rest = given_on c (stands u (piecing channel b out r f)) ds in
    pick (eqb channel c and r.given) (message_in (taking (part_of u.front channel) b) ∷ rest) rest
given_on c u (reopening channel r f ∷ ds) = given_on c (stands u (reopening channel r f)) ds
given_on c u (calling d ∷ ds) = given_on c (stands u (calling d)) ds

abbrev pub DroppedUntilReopened : Type 0
DroppedUntilReopened =
    (c : ℕ) (u : Standing) (ds : List FrontDone) →
    c < channel_count →
    part_of u.front c ≡ dropping →
    AllFrontMeet u ds →
    NotReopened c ds →
    (given_on c u ds ≡ []) × (part_of (stands_after u ds).front c ≡ dropping)
