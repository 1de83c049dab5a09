-- Demand 3: "a single claim about the whole list of calls, not one for each".
-- A message is any list of numbers, each read as a byte; journals, runs and the lists of setup are any lists; channels, services and budgets
-- any numbers.
-- Assumes nothing.
use Rattle.std.specs.Prelude.{ℕ, ◌+◌, ◌-◌, ◌≤◌, ◌<◌, ◌≡◌, Bool, true, false, not, List, [], ◌∷◌, ◌++◌, length, get_or, take, eqb, Option, None}
use Rattle.wire.specs.BigEndian.{number_at}
use Rattle.entry.specs.Word.{unpacked}
use Rattle.basics.specs.Choice.{pick, ◌and◌, first_below, is_found, is_at}
use Rattle.model.specs.declared.Event.{Event}
use Rattle.model.specs.Layout.{service_count, most_held, most_ids, ds_header_bytes, last_of, held_of}
use Rattle.model.specs.Blocks.{Lists}
use Rattle.model.specs.Journal.{Entry, event_of, entry_at, entries_at, entries_in, served_by, kind_peer_data}
use Rattle.model.specs.Messages.{DS-INV-HDL, DS-DATA, most_payload, type_of, payload_length, nack}
use Rattle.model.specs.Calls.{Call, act, drain, receive, Outcome, outcome, set_up}
use Rattle.model.specs.Reading.{View, shows_service, shows_registered, view_of, setup_view, reading, devices_shown, setup_devices, reading_devices, orders_shown, setup_orders, reading_orders, Peer, no_peer, has_handle, peer_place, peers_shown, ids_shown, setup_ids, setup_peers, reading_peers}

-- a call, and what it returned and left
pub record Done : Type 0 where
  pub call : Call
  pub gave : Outcome

-- What a list of calls has left: the state, the journal, the entries drained, and k, the number of accepted calls that are no drains; 02, ticket 8: "01's count k
-- takes in setup's entry".
pub record Run : Type 0 where
  pub state : List ℕ
  pub journal : List ℕ
  pub drained : List Entry
  pub number : ℕ

-- "Drained are the entries at the start of each accepted drain's run as it returns, as many as it answers"
unfoldable pub drained_by : Call → Outcome → List Entry
drained_by (act a out) r = []
drained_by (drain run) r = pick (eqb r.refusal 0) (entries_in r.count r.buffer) []

-- 1 for an accepted call that is no drain
unfoldable pub numbered_by : Call → Outcome → ℕ
numbered_by (act a out) r = pick (eqb r.refusal 0) 1 0
numbered_by (drain run) r = 0

-- "Each later one is given the state and journal that the last one left."
unfoldable pub after : Run → Done → Run
after u d = record {
  state = d.gave.state;
  journal = d.gave.journal;
  drained = u.drained ++ drained_by d.call d.gave;
  number = u.number + numbered_by d.call d.gave;
}

unfoldable pub runs : Run → List Done → Run
runs u [] = u
runs u (d ∷ ds) = runs (after u d) ds

-- before any call, with the state that setup made
abbrev pub new_run : List ℕ → List ℕ → Run
new_run s j = record { state = s; journal = j; drained = []; number = 1 }

-- "The first is given the state that setup made of that block list", and by 02, ticket 8, "the journal that setup left"
unfoldable pub start : Lists → List ℕ → Run
start l j = new_run (set_up l j).state (set_up l j).journal

-- a call with what the definitions give for it, and a list of them
abbrev pub doing : Run → Call → Done
doing u call = record { call = call; gave = outcome u.state u.journal call }

unfoldable pub history : Run → List Call → List Done
history u [] = []
history u (call ∷ calls) = doing u call ∷ history (after u (doing u call)) calls

-- The entries drained, then those held: "the entries in the slots of numbers d + 1 to k of the journal last left".
unfoldable pub entries : Run → List Entry
entries u =
    u.drained ++ entries_at u.journal (length u.drained + 1) (u.number - length u.drained)

abbrev pub no_entry : Entry
no_entry = record { first = 0; second = 0 }

unfoldable pub same_bytes : List ℕ → List ℕ → Bool
same_bytes [] [] = true
same_bytes [] (y ∷ ys) = false
same_bytes (x ∷ xs) [] = false
same_bytes (x ∷ xs) (y ∷ ys) = eqb x y and same_bytes xs ys

-- the reply of an outcome, and what its entry tells
unfoldable pub reply_of : Outcome → List ℕ
reply_of r = take r.count r.buffer

abbrev pub last_entry : Outcome → Entry
last_entry r = entry_at r.journal (last_of r.state)

unfoldable pub noted : Outcome → Event
noted r = event_of (unpacked (last_entry r).first) (last_entry r).second

-- the one of our four services that data under a handle has reached, if any: "it has reached it if the reply is not the NACK named next and its entry is of
-- kind 8, or of 10 to 13 for service 0", and by 02's tickets those that `served_by` names
unfoldable pub reached : ℕ → Outcome → Option ℕ
reached handle r = pick (same_bytes (reply_of r) (nack handle DS-INV-HDL)) None (served_by (noted r))

-- 02, ticket 7: data on a peer's handle "has then reached its service", and whether a reading shows the handle registered there by the peer
unfoldable pub reached_peer : ℕ → Outcome → Bool
reached_peer handle r = not (same_bytes (reply_of r) (nack handle DS-INV-HDL)) and eqb (noted r).kind kind_peer_data

unfoldable pub shows_peer : List Peer → ℕ → ℕ → Bool
shows_peer ps c handle = is_found (first_below most_ids (λ p. has_handle handle (get_or ps (peer_place c p) no_peer)))

-- well-formed data under a handle, by its bytes
pub record WellFormedData (m : List ℕ) (handle : ℕ) : Type 0 where
  pub whole : length m ≡ ds_header_bytes + payload_length m
  pub bounded : payload_length m ≤ most_payload
  pub is_data : type_of m ≡ DS-DATA
  pub has_handle : 8 ≤ payload_length m
  pub under : number_at m 8 8 ≡ handle

-- "well-formed data reaches a service exactly when that reading, made just before the call, shows its handle registered on that channel",
-- and the service that it reaches is that one
pub record Delivers (view : View) (c handle : ℕ) (r : Outcome) : Type 0 where
  pub exactly : is_found (reached handle r) ≡ shows_registered view c handle
  pub that_one : (v : ℕ) → v < service_count → is_at v (reached handle r) ≡ shows_service view c handle v

-- Demand 3, of the lists l that setup was given, the state s and the journal j that it left and the calls made, each with what it returned and left.
pub record Demand3 (l : Lists) (s j : List ℕ) (ds : List Done) (u : Run) : Type 0 where
  -- "Of all these the s-th has number s; the state's last number is k, and it holds k − d, at most 64."
  pub total : length (entries u) ≡ u.number
  pub numbered : (i : ℕ) → i < u.number → (unpacked (get_or (entries u) i no_entry).first).number ≡ i + 1
  pub last : last_of u.state ≡ u.number
  pub held : length u.drained + held_of u.state ≡ u.number
  pub at_most : held_of u.state ≤ most_held
  -- "Read with that block list alone by 01's rules, they give back .. exactly as the last state has them."
  pub reads : reading (setup_view l) (entries u) ≡ view_of u.state
  -- 02, ticket 1: "Demand 3, begun and read with any accepted device list too, also gives back each device's state."
  pub reads_devices : reading_devices (setup_devices l) (entries u) ≡ devices_shown u.state
  -- 02, ticket 6: "Permissions and the pending order join demand 3's reading"
  pub reads_orders : reading_orders setup_orders (entries u) ≡ orders_shown u.state
  -- 02, ticket 7: "demand 3 .. covers them in the same words, with the place of each one's id"
  pub reads_peers : reading_peers setup_peers (entries u) ≡ peers_shown u.state
  pub keeps_ids : ids_shown u.state ≡ setup_ids l
  -- "In each accepted receive of the list ..": at each place of the same list, of what that receive itself returned and left
  pub delivers :
      (before later : List Done) (c handle : ℕ) (m out : List ℕ) (r : Outcome) →
      ds ≡ before ++ record { call = act (receive c m) out; gave = r } ∷ later →
      WellFormedData m handle →
      r.refusal ≡ 0 →
      Delivers (reading (setup_view l) (entries (runs (new_run s j) before))) c handle r
  -- the same of a peer's services
  pub delivers_peer :
      (before later : List Done) (c handle : ℕ) (m out : List ℕ) (r : Outcome) →
      ds ≡ before ++ record { call = act (receive c m) out; gave = r } ∷ later →
      WellFormedData m handle →
      r.refusal ≡ 0 →
      reached_peer handle r ≡ shows_peer (reading_peers setup_peers (entries (runs (new_run s j) before))) c handle
