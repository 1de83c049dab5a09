-- "Calls": what each call returns and leaves, for every state, journal and argument.
-- Assumes nothing.
use Rattle.std.specs.Prelude.{ℕ, ◌+◌, ◌-◌, ◌*◌, ◌/◌, min, Bool, true, false, not, List, [], ◌∷◌, ◌++◌, length, drop, leb, ltb, eqb, Option, Some, None}
use Rattle.wire.specs.BigEndian.{written}
use Rattle.basics.specs.Choice.{pick, ◌and◌, ◌or◌, is_found}
use Rattle.model.specs.declared.Message.{Message}
use Rattle.model.specs.declared.Message.TheVariants.{InitReq, RegReq, RegAck, RegNack, Unreg, UnregAck, UnregNack, Data, Nack, Bad}
use Rattle.model.specs.declared.Route.{Route}
use Rattle.model.specs.declared.Route.TheVariants.{Memory, Devices, Orders, Host}
use Rattle.model.specs.declared.TakenOrder.{TakenOrder}
use Rattle.model.specs.Layout.{channel_count, service_count, most_budget, entry_words, journal_words, data_header_bytes, stage_idle, ready_at, place_of, stage_at, last_of, held_of, outstanding_of, is_set, with_counts, shutdown_service, panic_service, order_none, order_shutdown, order_of, delay_of}
use Rattle.model.specs.Blocks.{Lists, no_lists, accepted_lists, setup_state}
use Rattle.model.specs.State.{sound}
use Rattle.model.specs.Refusals.{refuses, refusal_in, action_refusal, drain_refusal}
use Rattle.model.specs.Peers.{peer_for}
use Rattle.model.specs.Journal.{mark_event, delivered_event, peer_data_event, data_refused_event, entry_of, stored, entries_at, words_of}
use Rattle.model.specs.Messages.{DS-UNREG-ACK, DS-UNREG-NACK, DS-NACK, DS-INV-HDL, Effect, effect, route, decoded, registering, nack, offered_for, registered_for, live_for, closing, noting, initiated, acknowledged, not_acknowledged, unregistered, offering, withdrawing}
use Rattle.model.specs.Memory.{answered_memory}
use Rattle.model.specs.Work.{working}
use Rattle.model.specs.DeviceRequests.{answered_device}
use Rattle.model.specs.Orders.{answered_order, permitting, taking}

-- The calls that add an entry, with their own arguments: channel and message; channel and service; channel; budget; of 02's ticket 6, a service and whether it
-- is permitted; nothing.
pub data Action : Type 0 where
  receive : ℕ → List ℕ → Action
  offer : ℕ → ℕ → Action
  withdraw : ℕ → ℕ → Action
  close : ℕ → Action
  work : ℕ → Action
  permit : ℕ → Bool → Action
  take_order : Action

-- The calls of demand 3's list: an action with the output that it is lent, or a drain with its run.
pub data Call : Type 0 where
  act : Action → List ℕ → Call
  drain : List ℕ → Call

-- What a call gives back: 0 or the refusal's number; the reply's length, or the number of entries drained; the pages moved; the state;
-- the journal; and the output, or drain's run.
pub record Outcome : Type 0 where
  pub refusal : ℕ
  pub count : ℕ
  pub pages : ℕ
  pub state : List ℕ
  pub journal : List ℕ
  pub buffer : List ℕ

-- "A refusal returns its number, the state it was given .. and reply length 0, and writes nothing anywhere."
unfoldable pub refused : List ℕ → List ℕ → List ℕ → ℕ → Outcome
refused s j buffer n = record { refusal = n; count = 0; pages = 0; state = s; journal = j; buffer = buffer }

-- "An accepted call writes its reply at the start of the output, touches no output byte beyond it, and adds one entry."
unfoldable pub accepted : List ℕ → List ℕ → List ℕ → ℕ → Effect → Outcome
accepted s j out pages e = record {
  refusal = 0;
  count = length e.reply;
  pages = pages;
  state = with_counts e.state (last_of s + 1) (held_of s + 1);
  journal = stored j (last_of s + 1) (entry_of (last_of s + 1) e.event);
  buffer = written e.reply out;
}

-- 02, ticket 7: "data on a live peer handle goes to the host with kind 24". "Otherwise the reply is NACK with the handle and result 3."
unfoldable pub peer_data : List ℕ → ℕ → ℕ → Option ℕ → Effect
peer_data s c handle (Some p) = effect (peer_data_event c) s []
peer_data s c handle None = effect (data_refused_event c handle) s (nack handle DS-INV-HDL)

-- the data for service v, by where it goes
unfoldable pub routed : List ℕ → ℕ → ℕ → List ℕ → ℕ → Route → Effect
routed s c handle payload v Memory = answered_memory s c handle payload
routed s c handle payload v Devices = answered_device s c handle payload
routed s c handle payload v Orders = answered_order s c handle v payload
routed s c handle payload v Host = effect (delivered_event c v) s []

-- "DATA whose handle is registered on this channel reaches that service"
unfoldable pub data_for : List ℕ → ℕ → ℕ → List ℕ → Option ℕ → Effect
data_for s c handle payload (Some v) = routed s c handle payload v (route v)
data_for s c handle payload None = peer_data s c handle (peer_for s c handle)

-- what a message does on a channel that hears it; none hears `Bad`
unfoldable pub heard : List ℕ → ℕ → List ℕ → Message → Effect
heard s c m (InitReq major) = initiated s c major
heard s c m (RegReq handle) = registering s c m
heard s c m (RegAck handle minor) = acknowledged s c handle minor (offered_for s c handle)
heard s c m (RegNack handle) = not_acknowledged s c (offered_for s c handle)
heard s c m (Unreg handle) = unregistered s c handle (live_for s c handle)
heard s c m UnregAck = noting s c DS-UNREG-ACK []
heard s c m UnregNack = noting s c DS-UNREG-NACK []
heard s c m (Data handle) = data_for s c handle (drop data_header_bytes m) (registered_for s c handle)
heard s c m Nack = noting s c DS-NACK []
heard s c m Bad = closing s c 1

-- INIT_REQ is heard at any time, any other message on a ready channel
unfoldable pub hears : Bool → Message → Bool
hears ready (InitReq major) = true
hears ready (RegReq handle) = ready
hears ready (RegAck handle minor) = ready
hears ready (RegNack handle) = ready
hears ready (Unreg handle) = ready
hears ready UnregAck = ready
hears ready UnregNack = ready
hears ready (Data handle) = ready
hears ready Nack = ready
hears ready Bad = false

-- "Every other type, any badly formed message, and any type but INIT_REQ on a closed channel closes the channel without a reply."
unfoldable pub receiving : List ℕ → ℕ → List ℕ → Effect
receiving s c m =
    pick (hears (eqb (ready_at s c) 1) (decoded m)) (heard s c m (decoded m)) (closing s c 1)

-- Refusal 3: "channel or service above 3; budget 0 or above 65,535"; 02, ticket 6: "3 for services 0 and 1", of setting a permission.
unfoldable pub in_range : Action → Bool
in_range (receive c m) = ltb c channel_count
in_range (offer c v) = ltb c channel_count and ltb v service_count
in_range (withdraw c v) = ltb c channel_count and ltb v service_count
in_range (close c) = ltb c channel_count
in_range (work budget) = leb 1 budget and leb budget most_budget
in_range (permit v permitted) = leb shutdown_service v and leb v panic_service
in_range take_order = true

-- Refusal 6: "offer: channel closed or service not idle; withdraw: service idle; work: nothing outstanding"; 02, ticket 6, of taking: "6 if there is none".
unfoldable pub allowed : List ℕ → Action → Bool
allowed s (receive c m) = true
allowed s (offer c v) = eqb (ready_at s c) 1 and eqb (stage_at s (place_of c v)) stage_idle
allowed s (withdraw c v) = not (eqb (stage_at s (place_of c v)) stage_idle)
allowed s (close c) = true
allowed s (work budget) = is_set (outstanding_of s)
allowed s (permit v permitted) = true
allowed s take_order = is_set (order_of s)

-- what an accepted action does
unfoldable pub effect_of : List ℕ → Action → Effect
effect_of s (receive c m) = receiving s c m
effect_of s (offer c v) = offering s c v
effect_of s (withdraw c v) = withdrawing s c v
effect_of s (close c) = closing s c 0
effect_of s (work budget) = (working s budget).effects
effect_of s (permit v permitted) = permitting s v permitted
effect_of s take_order = taking s

-- the pages that it moves: a work step's
unfoldable pub pages_of : List ℕ → Action → ℕ
pages_of s (receive c m) = 0
pages_of s (offer c v) = 0
pages_of s (withdraw c v) = 0
pages_of s (close c) = 0
pages_of s (work budget) = (working s budget).pages
pages_of s (permit v permitted) = 0
pages_of s take_order = 0

unfoldable pub refusal_of : List ℕ → List ℕ → List ℕ → Action → ℕ
refusal_of s j out a = action_refusal s (length j) (length out) (in_range a) (allowed s a)

-- "the host takes the order, which the call returns": which one, and a shutdown's delay; on a refusal none
unfoldable pub order_taken : List ℕ → ℕ → TakenOrder
order_taken s n =
    pick (eqb n 0)
    (record { refusal = 0; order = order_of s; delay = pick (eqb (order_of s) order_shutdown) (delay_of s) 0 })
    (record { refusal = n; order = order_none; delay = 0 })

-- "Drain copies the oldest entries to the start of a lent word run, as many whole ones as are held and fit, forgets them, returns their
-- number, adds none, and touches no other word."
unfoldable pub drained : List ℕ → List ℕ → List ℕ → ℕ → Outcome
drained s j run n = record {
  refusal = 0;
  count = n;
  pages = 0;
  state = with_counts s (last_of s) (held_of s - n);
  journal = j;
  buffer = words_of (entries_at j (last_of s - held_of s + 1) n) ++ drop (n * entry_words) run;
}

-- what a call gives back
unfoldable pub outcome : List ℕ → List ℕ → Call → Outcome
outcome s j (act a out) =
    pick (eqb (refusal_of s j out a) 0)
    (accepted s j out (pages_of s a) (effect_of s a))
    (refused s j out (refusal_of s j out a))
outcome s j (drain run) =
    pick (eqb (drain_refusal s (length j)) 0)
    (drained s j run (min (held_of s) (length run / entry_words)))
    (refused s j run (drain_refusal s (length j)))

-- Setup: 7 where "the list is not whole blocks or breaks a rule above", and where the device list (02, ticket 1) or the id list (ticket 7) is refused. Ticket 8: it "is
-- now lent the journal, adds this entry and has refusal 1".
unfoldable pub setup_refusal : Lists → ℕ → ℕ
setup_refusal l words = refusal_in (refuses (not (eqb words journal_words)) 1 ∷ refuses (not (accepted_lists l)) 7 ∷ [])

-- what it returns and leaves
pub record SetUp : Type 0 where
  pub refusal : ℕ
  pub state : List ℕ
  pub journal : List ℕ

-- "Entry number 1 is an edition mark of kind 31 .. written by setup"; refused, it gives the state of empty lists and leaves the journal as it was
unfoldable pub set_up : Lists → List ℕ → SetUp
set_up l j =
    pick (eqb (setup_refusal l (length j)) 0)
    (record { refusal = 0; state = with_counts (setup_state l) 1 1; journal = stored j 1 (entry_of 1 mark_event) })
    (record { refusal = setup_refusal l (length j); state = setup_state no_lists; journal = j })

-- Show: "the part of its own message from byte 16 on, if it is well-formed DATA whose handle that sound state has registered there for
-- service 1, 2 or 3, else an empty part"; 02, ticket 1: "show is empty" for service 1; ticket 6: "show is empty" for 2 and 3. So it is
-- empty for each of the four.
unfoldable pub is_host : Route → Bool
is_host Memory = false
is_host Devices = false
is_host Orders = false
is_host Host = true

unfoldable pub goes_to_host : Option ℕ → Bool
goes_to_host (Some v) = is_host (route v)
goes_to_host None = false

-- 02, ticket 7: "and show gives it from byte 16"
abbrev pub shown_to : List ℕ → ℕ → ℕ → Bool
shown_to s c handle = goes_to_host (registered_for s c handle) or is_found (peer_for s c handle)

unfoldable pub to_host : List ℕ → ℕ → Message → Bool
to_host s c (InitReq major) = false
to_host s c (RegReq handle) = false
to_host s c (RegAck handle minor) = false
to_host s c (RegNack handle) = false
to_host s c (Unreg handle) = false
to_host s c UnregAck = false
to_host s c UnregNack = false
to_host s c (Data handle) = shown_to s c handle
to_host s c Nack = false
to_host s c Bad = false

unfoldable pub is_shown : List ℕ → ℕ → List ℕ → Bool
is_shown s c m = sound s and ltb c channel_count and to_host s c (decoded m)

unfoldable pub shown : List ℕ → ℕ → List ℕ → List ℕ
shown s c m = pick (is_shown s c m) (drop data_header_bytes m) []
