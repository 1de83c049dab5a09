-- "DS messages": the service table, the messages' layouts, when a message is well formed, and what each does.
-- Assumes nothing.
use Rattle.std.specs.Prelude.{ℕ, ◌+◌, ◌-◌, min, Bool, false, not, List, [], ◌∷◌, ◌++◌, length, get_or, drop, leb, ltb, eqb, Option, Some, None}
use Rattle.wire.specs.BigEndian.{byte_at, number_at, bytes_of}
use Rattle.basics.specs.Choice.{pick, ◌and◌, ◌or◌, every, first_below, is_found}
use Rattle.model.specs.declared.Route.{Route}
use Rattle.model.specs.declared.Route.TheVariants.{Memory, Devices, Orders, Host}
use Rattle.model.specs.declared.Message.{Message}
use Rattle.model.specs.declared.Message.TheVariants.{InitReq, RegReq, RegAck, RegNack, Unreg, UnregAck, UnregNack, Data, Nack, Bad}
use Rattle.model.specs.Layout.{service_count, memory_service, device_service, shutdown_service, panic_service, ds_header_bytes, stage_idle, stage_offered, stage_registered, place_of, stage_at, handle_at, last_of, with_channel, with_service, with_number, most_ids, most_peers, id_at, with_peer, without_peer}
use Rattle.model.specs.Peers.{top_bit, listed_id, is_peered, peer_for, peers_below}
use Rattle.model.specs.State.{our_handle}
use Rattle.model.specs.declared.Event.{Event}
use Rattle.model.specs.Journal.{ready_event, closed_event, version_refused_event, offered_event, registered_event, offer_refused_event, service_ended_event, noted_event, peer_registered_event, peer_ended_event}

-- "Four services, from a table": id with its zero, major and minor version
pub record Service : Type 0 where
  pub id : List ℕ
  pub major : ℕ
  pub minor : ℕ

unfoldable pub services : List Service
services =
    -- dr-mem
    record { id = 100 ∷ 114 ∷ 45 ∷ 109 ∷ 101 ∷ 109 ∷ 0 ∷ []; major = 1; minor = 0 }
    -- dr-vio
    ∷ record { id = 100 ∷ 114 ∷ 45 ∷ 118 ∷ 105 ∷ 111 ∷ 0 ∷ []; major = 1; minor = 0 }
    -- domain-shutdown
    ∷ record {
      id = 100 ∷ 111 ∷ 109 ∷ 97 ∷ 105 ∷ 110 ∷ 45 ∷ 115 ∷ 104 ∷ 117 ∷ 116 ∷ 100 ∷ 111 ∷ 119 ∷ 110 ∷ 0 ∷ [];
      major = 1;
      minor = 0;
    }
    -- domain-panic
    ∷ record { id = 100 ∷ 111 ∷ 109 ∷ 97 ∷ 105 ∷ 110 ∷ 45 ∷ 112 ∷ 97 ∷ 110 ∷ 105 ∷ 99 ∷ 0 ∷ []; major = 1; minor = 0 }
    ∷ []

abbrev pub no_service : Service
no_service = record { id = []; major = 0; minor = 0 }

abbrev pub service_of : ℕ → Service
service_of v = get_or services v no_service

-- "Service 0 is answered inside; data for the others goes to the host." 02, ticket 1: "Answer `dr-vio` inside"; ticket 6: "Answer services 2 and 3". So none
-- of the four goes to the host.
unfoldable pub route : ℕ → Route
route v =
    pick (eqb v memory_service) Memory
    (pick (eqb v device_service) Devices
    (pick (eqb v shutdown_service or eqb v panic_service) Orders
    Host))

-- Types of messages.
abbrev pub DS-INIT-REQ : ℕ
DS-INIT-REQ = 0x0

abbrev pub DS-INIT-ACK : ℕ
DS-INIT-ACK = 0x1

abbrev pub DS-INIT-NACK : ℕ
DS-INIT-NACK = 0x2

abbrev pub DS-REG-REQ : ℕ
DS-REG-REQ = 0x3

abbrev pub DS-REG-ACK : ℕ
DS-REG-ACK = 0x4

abbrev pub DS-REG-NACK : ℕ
DS-REG-NACK = 0x5

abbrev pub DS-UNREG : ℕ
DS-UNREG = 0x6

abbrev pub DS-UNREG-ACK : ℕ
DS-UNREG-ACK = 0x7

abbrev pub DS-UNREG-NACK : ℕ
DS-UNREG-NACK = 0x8

abbrev pub DS-DATA : ℕ
DS-DATA = 0x9

abbrev pub DS-NACK : ℕ
DS-NACK = 0xa

-- Result codes.
abbrev pub DS-REG-VER-NACK : ℕ
DS-REG-VER-NACK = 1

abbrev pub DS-REG-DUP : ℕ
DS-REG-DUP = 2

abbrev pub DS-INV-HDL : ℕ
DS-INV-HDL = 3

-- "Header: type (4), payload_len (4)."
unfoldable pub ds_message : ℕ → List ℕ → List ℕ
ds_message type payload = bytes_of 4 type ++ bytes_of 4 (length payload) ++ payload

abbrev pub type_of : List ℕ → ℕ
type_of m = number_at m 0 4

abbrev pub payload_length : List ℕ → ℕ
payload_length m = number_at m 4 4

-- The messages that the agent sends.
-- minor_vers
unfoldable pub init_ack : ℕ → List ℕ
init_ack minor = ds_message DS-INIT-ACK (bytes_of 2 minor)

-- major_vers
unfoldable pub init_nack : ℕ → List ℕ
init_nack major = ds_message DS-INIT-NACK (bytes_of 2 major)

-- svc_handle, major_vers, minor_vers, svc_id
unfoldable pub reg_req : ℕ → Service → List ℕ
reg_req handle service =
    ds_message DS-REG-REQ
    (bytes_of 8 handle ++ bytes_of 2 service.major ++ bytes_of 2 service.minor ++ service.id)

-- svc_handle, minor_vers
unfoldable pub reg_ack : ℕ → ℕ → List ℕ
reg_ack handle minor = ds_message DS-REG-ACK (bytes_of 8 handle ++ bytes_of 2 minor)

-- svc_handle, result, major_vers
unfoldable pub reg_nack : ℕ → ℕ → ℕ → List ℕ
reg_nack handle result major = ds_message DS-REG-NACK (bytes_of 8 handle ++ bytes_of 8 result ++ bytes_of 2 major)

-- svc_handle
unfoldable pub unreg : ℕ → List ℕ
unreg handle = ds_message DS-UNREG (bytes_of 8 handle)

unfoldable pub unreg_ack : ℕ → List ℕ
unreg_ack handle = ds_message DS-UNREG-ACK (bytes_of 8 handle)

unfoldable pub unreg_nack : ℕ → List ℕ
unreg_nack handle = ds_message DS-UNREG-NACK (bytes_of 8 handle)

-- svc_handle, and what the service sends
unfoldable pub ds_data : ℕ → List ℕ → List ℕ
ds_data handle payload = ds_message DS-DATA (bytes_of 8 handle ++ payload)

-- svc_handle, result
unfoldable pub nack : ℕ → ℕ → List ℕ
nack handle result = ds_message DS-NACK (bytes_of 8 handle ++ bytes_of 8 result)

-- "payload_len is at most 4,096"
abbrev pub most_payload : ℕ
most_payload = 4096

-- "it has 8 + payload_len bytes, payload_len is at most 4,096"
unfoldable pub whole_message : List ℕ → Bool
whole_message m = eqb (length m) (ds_header_bytes + payload_length m) and leb (payload_length m) most_payload

-- REG_REQ: "13 to 1,036, its last byte the only zero of the id"; the id is the payload from byte 12 on
unfoldable pub id_fits : List ℕ → Bool
id_fits m =
    leb 13 (payload_length m)
    and leb (payload_length m) 1036
    and eqb (byte_at m (payload_length m + 7)) 0
    and every (payload_length m - 13) (λ i. not (eqb (byte_at m (20 + i)) 0))

-- "the payload fits its type: INIT_REQ 0x0: 4; REG_REQ 0x3: ..; REG_ACK 0x4: 10; REG_NACK 0x5: 18; UNREG 0x6, UNREG_ACK 0x7, UNREG_NACK
-- 0x8: 8; DATA 0x9: 8 or more; NACK 0xa: 16"
unfoldable pub payload_fits : List ℕ → Bool
payload_fits m =
    pick (eqb (type_of m) DS-INIT-REQ) (eqb (payload_length m) 4)
    (pick (eqb (type_of m) DS-REG-REQ) (id_fits m)
    (pick (eqb (type_of m) DS-REG-ACK) (eqb (payload_length m) 10)
    (pick (eqb (type_of m) DS-REG-NACK) (eqb (payload_length m) 18)
    (pick (eqb (type_of m) DS-UNREG) (eqb (payload_length m) 8)
    (pick (eqb (type_of m) DS-UNREG-ACK) (eqb (payload_length m) 8)
    (pick (eqb (type_of m) DS-UNREG-NACK) (eqb (payload_length m) 8)
    (pick (eqb (type_of m) DS-DATA) (leb 8 (payload_length m))
    (pick (eqb (type_of m) DS-NACK) (eqb (payload_length m) 16)
    false))))))))

-- "A message is well formed if .."
unfoldable pub well_formed : List ℕ → Bool
well_formed m = whole_message m and payload_fits m

-- each case of a message by its type, with its values
unfoldable pub decoded_by_type : List ℕ → Message
decoded_by_type m =
    pick (eqb (type_of m) DS-INIT-REQ) (InitReq (number_at m 8 2))
    (pick (eqb (type_of m) DS-REG-REQ) (RegReq (number_at m 8 8))
    (pick (eqb (type_of m) DS-REG-ACK) (RegAck (number_at m 8 8) (number_at m 16 2))
    (pick (eqb (type_of m) DS-REG-NACK) (RegNack (number_at m 8 8))
    (pick (eqb (type_of m) DS-UNREG) (Unreg (number_at m 8 8))
    (pick (eqb (type_of m) DS-UNREG-ACK) UnregAck
    (pick (eqb (type_of m) DS-UNREG-NACK) UnregNack
    (pick (eqb (type_of m) DS-DATA) (Data (number_at m 8 8))
    (pick (eqb (type_of m) DS-NACK) Nack
    Bad))))))))

-- the message that a list of bytes is
unfoldable pub decoded : List ℕ → Message
decoded m = pick (well_formed m) (decoded_by_type m) Bad

-- What an accepted call does: what it notes, the state before the entry is counted, and the reply.
pub record Effect : Type 0 where
  pub event : Event
  pub state : List ℕ
  pub reply : List ℕ

abbrev pub effect : Event → List ℕ → List ℕ → Effect
effect e s reply = record { event = e; state = s; reply = reply }

-- "Handles below are those of this channel": service v of channel c is at a stage, or live, under the handle h
abbrev pub staged_as : List ℕ → ℕ → ℕ → ℕ → ℕ → Bool
staged_as s c h stage v = eqb (stage_at s (place_of c v)) stage and eqb (handle_at s (place_of c v)) h

abbrev pub offered_as : List ℕ → ℕ → ℕ → ℕ → Bool
offered_as s c h v = staged_as s c h stage_offered v

abbrev pub registered_as : List ℕ → ℕ → ℕ → ℕ → Bool
registered_as s c h v = staged_as s c h stage_registered v

abbrev pub live_as : List ℕ → ℕ → ℕ → ℕ → Bool
live_as s c h v = not (eqb (stage_at s (place_of c v)) stage_idle) and eqb (handle_at s (place_of c v)) h

-- the channel's service that is, if there is one
abbrev pub offered_for : List ℕ → ℕ → ℕ → Option ℕ
offered_for s c h = first_below service_count (offered_as s c h)

abbrev pub registered_for : List ℕ → ℕ → ℕ → Option ℕ
registered_for s c h = first_below service_count (registered_as s c h)

abbrev pub live_for : List ℕ → ℕ → ℕ → Option ℕ
live_for s c h = first_below service_count (live_as s c h)

-- a service's change of stage; an idle one has no handle and no minor
abbrev pub with_idle : List ℕ → ℕ → ℕ → List ℕ
with_idle s c v = with_service s (place_of c v) stage_idle 0 0

abbrev pub with_offered : List ℕ → ℕ → ℕ → ℕ → List ℕ
with_offered s c v handle = with_service s (place_of c v) stage_offered handle 0

abbrev pub with_registered : List ℕ → ℕ → ℕ → ℕ → ℕ → List ℕ
with_registered s c v handle minor = with_service s (place_of c v) stage_registered handle minor

-- the services of a channel become idle, and it is closed (by 0 the host, 1 a message)
unfoldable pub closing : List ℕ → ℕ → ℕ → Effect
closing s c by = effect (closed_event c by) (with_channel s c 0) []

-- a message that changes nothing, with its reply if it has one
unfoldable pub noting : List ℕ → ℕ → ℕ → List ℕ → Effect
noting s c type reply = effect (noted_event c type) s reply

-- "INIT_REQ, at any time: all services on the channel become idle. Major 1: ACK (0x1) with minor 0, channel ready. Otherwise NACK (0x2)
-- with major 1 if a higher one was asked, 0 if 0 was asked; channel closed."
unfoldable pub initiated : List ℕ → ℕ → ℕ → Effect
initiated s c major =
    pick (eqb major 1)
    (effect (ready_event c) (with_channel s c 1) (init_ack 0))
    (effect (version_refused_event c major) (with_channel s c 0) (init_nack (pick (eqb major 0) 0 1)))

-- 02, ticket 4, "The first request after a registration may have any number": service 0's registration on channel c begins without a highest one
unfoldable pub numbers_anew : List ℕ → ℕ → ℕ → List ℕ
numbers_anew s c v = pick (eqb v memory_service) (with_number s c 0 0) s

-- "REG_ACK for an offered handle registers it with the lower of the two minors .. Any other of these is only noted."
unfoldable pub acknowledged : List ℕ → ℕ → ℕ → ℕ → Option ℕ → Effect
acknowledged s c handle minor (Some v) =
    effect (registered_event c v (min (service_of v).minor minor) handle)
    (with_registered (numbers_anew s c v) c v handle (min (service_of v).minor minor))
    []
acknowledged s c handle minor None = noting s c DS-REG-ACK []

-- "REG_NACK for an offered handle makes it idle."
unfoldable pub not_acknowledged : List ℕ → ℕ → Option ℕ → Effect
not_acknowledged s c (Some v) = effect (offer_refused_event c v) (with_idle s c v) []
not_acknowledged s c None = noting s c DS-REG-NACK []

-- 02, ticket 7. The peer's own registration that has the handle, if there is one, is ended like one of ours.
unfoldable pub peer_unregistered : List ℕ → ℕ → ℕ → Option ℕ → Effect
peer_unregistered s c handle (Some p) = effect (peer_ended_event c handle) (without_peer s c p) (unreg_ack handle)
peer_unregistered s c handle None = noting s c DS-UNREG (unreg_nack handle)

-- "UNREG from the peer for a live handle (offered or registered) does so and replies UNREG_ACK, else UNREG_NACK."
unfoldable pub unregistered : List ℕ → ℕ → ℕ → Option ℕ → Effect
unregistered s c handle (Some v) = effect (service_ended_event c v) (with_idle s c v) (unreg_ack handle)
unregistered s c handle None = peer_unregistered s c handle (peer_for s c handle)

-- A REG_REQ of the peer, m: svc_handle, major_vers, minor_vers, svc_id.
abbrev pub reg_handle : List ℕ → ℕ
reg_handle m = number_at m 8 8

abbrev pub reg_major : List ℕ → ℕ
reg_major m = number_at m 16 2

abbrev pub reg_minor : List ℕ → ℕ
reg_minor m = number_at m 18 2

abbrev pub reg_id : List ℕ → List ℕ
reg_id m = drop 20 m

-- one that registers nothing: "17 any other message (w its type)"
abbrev pub not_registering : List ℕ → ℕ → List ℕ → ℕ → ℕ → Effect
not_registering s c m result major = noting s c DS-REG-REQ (reg_nack (reg_handle m) result major)

-- the id at this place is registered there by the peer
unfoldable pub id_taken : List ℕ → ℕ → Option ℕ → Bool
id_taken s c (Some p) = is_peered s c p
id_taken s c None = false

-- "A handle with the top bit, a handle or id of a peer registration on its channel, or a ninth one"
unfoldable pub is_duplicate : List ℕ → ℕ → List ℕ → Bool
is_duplicate s c m =
    leb top_bit (reg_handle m)
    or is_found (peer_for s c (reg_handle m))
    or id_taken s c (listed_id s (reg_id m))
    or leb most_peers (peers_below s c most_ids)

-- "The right major is acknowledged with the lower minor; a higher major is told ours; a lower one gets 0, as does an unknown id."
unfoldable pub registering_at : List ℕ → ℕ → List ℕ → Option ℕ → Effect
registering_at s c m (Some p) =
    pick (eqb (reg_major m) (id_at s p).major)
    (effect (peer_registered_event c p (min (id_at s p).minor (reg_minor m)) (reg_handle m))
    (with_peer s c p (reg_handle m) (min (id_at s p).minor (reg_minor m)))
    (reg_ack (reg_handle m) (min (id_at s p).minor (reg_minor m))))
    (not_registering s c m DS-REG-VER-NACK (pick (ltb (id_at s p).major (reg_major m)) (id_at s p).major 0))
registering_at s c m None = not_registering s c m DS-REG-VER-NACK 0

-- ".. is DS_REG_DUP with major 0, tested first."
unfoldable pub registering : List ℕ → ℕ → List ℕ → Effect
registering s c m = pick (is_duplicate s c m) (not_registering s c m DS-REG-DUP 0) (registering_at s c m (listed_id s (reg_id m)))

-- "Offer sends REG_REQ with the id and its zero. The handle is the number of the offer's own entry, so none is used twice." 02, ticket 7: "Our handles now have that
-- bit set over the entry number."
unfoldable pub offering : List ℕ → ℕ → ℕ → Effect
offering s c v =
    effect (offered_event c v)
    (with_offered s c v (our_handle (last_of s + 1)))
    (reg_req (our_handle (last_of s + 1)) (service_of v))

-- "Withdraw sends UNREG and makes the service idle at once."
unfoldable pub withdrawing : List ℕ → ℕ → ℕ → Effect
withdrawing s c v = effect (service_ended_event c v) (with_idle s c v) (unreg (handle_at s (place_of c v)))
