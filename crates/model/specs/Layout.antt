-- "What the agent holds": the counts and limits of 01 and 02, the map of the state's words, and the changes of them. Each offset is computed from
-- the one before it: words that a state gains stand after the last of these.
--
--   channel c: 0 closed, 1 ready
--   service v of channel c, at place k = c * 4 + v: its stage (0 idle, 1 offered, 2 registered), handle, minor version
--   the number of blocks; block i: base, pages, first permanent page, permanent pages, configured (0 or 1)
--   the last entry number used; the number of entries held
--   1 if a removal is outstanding, else 0; 1 if it is cancelled, else 0
--   its channel, handle, request number, count of records, position, pages collected
--   the records' addresses; their sizes; the settled records' results: 0 OK, 4 NOWORK
--   channel c: 0 if no memory request of right form came since service 0 was last registered there, else the next word is the highest number of those
--   the number of devices; device i: id, configured (0 or 1), busy (0 or 1), the bytes of its name with the zero, the words of its name
--   services 2 and 3: 1 if requests to it are permitted, else 0; the order that waits (0 none, 1 shutdown, 2 panic), a shutdown's delay
--   the number of peer ids; id p: major, highest minor, how many bytes it has with the zero, the words that hold it
--   channel c: the marks, in one word: bit p is 1 if the peer has the id at place p registered there, else 0; then the handles; then the minor versions
-- Assumes nothing.
use Rattle.std.specs.Prelude.{ℕ, ◌+◌, ◌-◌, ◌*◌, ◌/◌, ◌%◌, ◌^◌, Bool, true, false, not, List, [], ◌∷◌, get_or, set, replicate, eqb}
use Rattle.std.proofs.lemmas.List.Edits.{sets}
use Rattle.std.specs.Int.Bits.{bit_and, bit_or, bit_xor}
use Rattle.basics.specs.Choice.{tabulate, halvings}
use Rattle.model.specs.declared.Removal.{Removal}

-- The counts and limits of 01 and of 02's tickets.

-- "Four channels (0 to 3)"
abbrev pub channel_count : ℕ
channel_count = 4

-- "Four services, from a table"
abbrev pub service_count : ℕ
service_count = 4

-- the memory service, `dr-mem`
abbrev pub memory_service : ℕ
memory_service = 0

-- the virtual devices' service, `dr-vio`
abbrev pub device_service : ℕ
device_service = 1

-- domain-shutdown and domain-panic, the services of 02's ticket 6
abbrev pub shutdown_service : ℕ
shutdown_service = 2

abbrev pub panic_service : ℕ
panic_service = 3

-- the services of all channels
abbrev pub place_count : ℕ
place_count = channel_count * service_count

-- 02, ticket 8: "The larger machines need 64 blocks, and 64 records in a request."
abbrev pub most_blocks : ℕ
most_blocks = 64

-- the most blocks that one search looks at (specs/Search.antt)
abbrev pub most_looked : ℕ
most_looked = halvings most_blocks

abbrev pub most_records : ℕ
most_records = 64

-- 02, ticket 1: "up to 32 devices", "name of at most 256 bytes with its zero"
abbrev pub most_devices : ℕ
most_devices = 32

abbrev pub most_name_bytes : ℕ
most_name_bytes = 256

-- 02, ticket 7: "up to 16 different ids, at most 32 bytes with the zero", "up to eight peer registrations a channel"
abbrev pub most_ids : ℕ
most_ids = 16

abbrev pub most_id_bytes : ℕ
most_id_bytes = 32

abbrev pub most_peers : ℕ
most_peers = 8

-- "at most 64 entries are held"
abbrev pub most_held : ℕ
most_held = 64

-- "the last entry number used (at most 4,294,967,295)"
abbrev pub highest_number : ℕ
highest_number = 4294967295

-- a minor version has 16 bits
abbrev pub highest_minor : ℕ
highest_minor = 65535

-- "budget 0 or above 65,535"
abbrev pub most_budget : ℕ
most_budget = 65535

-- "two words a slot", and the journal's "128 words"
abbrev pub entry_words : ℕ
entry_words = 2

abbrev pub journal_words : ℕ
journal_words = most_held * entry_words

-- Bytes of messages: DS's header; DATA's, with its handle; the memory service's; a pair of a request; the records of a reply; and the
-- output's "2,592 bytes", the longest reply.
abbrev pub ds_header_bytes : ℕ
ds_header_bytes = 8

abbrev pub data_header_bytes : ℕ
data_header_bytes = 16

abbrev pub memory_header_bytes : ℕ
memory_header_bytes = 16

abbrev pub reply_header_bytes : ℕ
reply_header_bytes = data_header_bytes + memory_header_bytes

abbrev pub pair_bytes : ℕ
pair_bytes = 16

abbrev pub result_bytes : ℕ
result_bytes = 28

abbrev pub status_bytes : ℕ
status_bytes = 16

abbrev pub query_bytes : ℕ
query_bytes = 40

-- a request of the virtual devices' service before its message type, and before its name; and its response, whose reason is one zero byte
abbrev pub device_number_bytes : ℕ
device_number_bytes = 16

abbrev pub device_header_bytes : ℕ
device_header_bytes = 20

abbrev pub device_reply_bytes : ℕ
device_reply_bytes = 17

-- a request to shut down (req_num, ms_delay) and to panic (req_num)
abbrev pub shutdown_bytes : ℕ
shutdown_bytes = 12

abbrev pub panic_bytes : ℕ
panic_bytes = 8

abbrev pub output_bytes : ℕ
output_bytes = reply_header_bytes + most_records * query_bytes

-- Orders for the host.
abbrev pub order_none : ℕ
order_none = 0

abbrev pub order_shutdown : ℕ
order_shutdown = 1

abbrev pub order_panic : ℕ
order_panic = 2

-- a shutdown's delay has 32 bits
abbrev pub highest_delay : ℕ
highest_delay = 4294967295

-- Stages of a service.
abbrev pub stage_idle : ℕ
stage_idle = 0

abbrev pub stage_offered : ℕ
stage_offered = 1

abbrev pub stage_registered : ℕ
stage_registered = 2

-- Where the words stand, each after those before it.

-- a service's words: its stage, handle, minor version
abbrev pub service_words : ℕ
service_words = 3

-- a block's words: its base, and at these places its pages, first permanent page, permanent pages, configured
abbrev pub block_words : ℕ
block_words = 5

abbrev pub pages_place : ℕ
pages_place = 1

abbrev pub first_place : ℕ
first_place = 2

abbrev pub permanent_place : ℕ
permanent_place = 3

abbrev pub configured_place : ℕ
configured_place = 4

-- the channels' own words stand first
abbrev pub first_stage_word : ℕ
first_stage_word = channel_count

abbrev pub first_handle_word : ℕ
first_handle_word = first_stage_word + 1

abbrev pub first_minor_word : ℕ
first_minor_word = first_handle_word + 1

abbrev pub channel_words : ℕ
channel_words = service_count * service_words

abbrev pub block_count_word : ℕ
block_count_word = first_stage_word + place_count * service_words

abbrev pub first_block_word : ℕ
first_block_word = block_count_word + 1

abbrev pub last_word : ℕ
last_word = first_block_word + most_blocks * block_words

abbrev pub held_word : ℕ
held_word = last_word + 1

abbrev pub outstanding_word : ℕ
outstanding_word = held_word + 1

abbrev pub cancelled_word : ℕ
cancelled_word = outstanding_word + 1

abbrev pub removal_channel_word : ℕ
removal_channel_word = cancelled_word + 1

abbrev pub removal_handle_word : ℕ
removal_handle_word = removal_channel_word + 1

abbrev pub request_word : ℕ
request_word = removal_handle_word + 1

abbrev pub count_word : ℕ
count_word = request_word + 1

abbrev pub position_word : ℕ
position_word = count_word + 1

abbrev pub collected_word : ℕ
collected_word = position_word + 1

abbrev pub first_address_word : ℕ
first_address_word = collected_word + 1

abbrev pub first_size_word : ℕ
first_size_word = first_address_word + most_records

abbrev pub first_result_word : ℕ
first_result_word = first_size_word + most_records

-- a channel's words of request numbers: whether there is a highest one, and that number
abbrev pub number_words : ℕ
number_words = 2

abbrev pub first_numbered_word : ℕ
first_numbered_word = first_result_word + most_records

abbrev pub first_highest_word : ℕ
first_highest_word = first_numbered_word + 1

-- a device's words: its id, and at these places configured, busy, the bytes of its name, and the words that hold the name, eight bytes each
abbrev pub device_configured_place : ℕ
device_configured_place = 1

abbrev pub busy_place : ℕ
busy_place = 2

abbrev pub name_bytes_place : ℕ
name_bytes_place = 3

abbrev pub name_place : ℕ
name_place = 4

abbrev pub word_bytes : ℕ
word_bytes = 8

abbrev pub name_words : ℕ
name_words = most_name_bytes / word_bytes

abbrev pub device_words : ℕ
device_words = name_place + name_words

abbrev pub device_count_word : ℕ
device_count_word = first_numbered_word + channel_count * number_words

abbrev pub first_device_word : ℕ
first_device_word = device_count_word + 1

-- the permissions of services 2 and 3, and the order with its delay
abbrev pub first_permission_word : ℕ
first_permission_word = first_device_word + most_devices * device_words

abbrev pub order_word : ℕ
order_word = first_permission_word + (service_count - shutdown_service)

abbrev pub delay_word : ℕ
delay_word = order_word + 1

-- an id's words: its major, and at these places its highest minor, how many bytes it has and the words that hold it
abbrev pub id_minor_place : ℕ
id_minor_place = 1

abbrev pub id_bytes_place : ℕ
id_bytes_place = 2

abbrev pub id_place : ℕ
id_place = 3

abbrev pub id_words : ℕ
id_words = id_place + most_id_bytes / word_bytes

abbrev pub id_count_word : ℕ
id_count_word = delay_word + 1

abbrev pub first_id_word : ℕ
first_id_word = id_count_word + 1

-- a channel's peer registrations: a word with a mark for each id that is registered, the handles, the minor versions
abbrev pub first_peer_word : ℕ
first_peer_word = first_id_word + most_ids * id_words

abbrev pub mark_words : ℕ
mark_words = 1

abbrev pub peer_words : ℕ
peer_words = mark_words + most_ids * 2

abbrev pub state_words : ℕ
state_words = first_peer_word + channel_count * peer_words

-- the words of a removal, outstanding or not
abbrev pub removal_words : ℕ
removal_words = first_numbered_word - outstanding_word

-- channel c's own word
abbrev pub ready_at : List ℕ → ℕ → ℕ
ready_at s c = get_or s c 0

-- service v of channel c is at place k = c * 4 + v among the services of all channels
abbrev pub place_of : ℕ → ℕ → ℕ
place_of c v = c * service_count + v

-- the three words of the service at place k
abbrev pub stage_at : List ℕ → ℕ → ℕ
stage_at s k = get_or s (first_stage_word + k * service_words) 0

abbrev pub handle_at : List ℕ → ℕ → ℕ
handle_at s k = get_or s (first_handle_word + k * service_words) 0

abbrev pub minor_at : List ℕ → ℕ → ℕ
minor_at s k = get_or s (first_minor_word + k * service_words) 0

abbrev pub blocks_of : List ℕ → ℕ
blocks_of s = get_or s block_count_word 0

abbrev pub last_of : List ℕ → ℕ
last_of s = get_or s last_word 0

abbrev pub held_of : List ℕ → ℕ
held_of s = get_or s held_word 0

abbrev pub outstanding_of : List ℕ → ℕ
outstanding_of s = get_or s outstanding_word 0

abbrev pub cancelled_of : List ℕ → ℕ
cancelled_of s = get_or s cancelled_word 0

-- 02, ticket 4, "The highest numbers join the state": whether channel c has one, and the number
abbrev pub numbered_at : List ℕ → ℕ → ℕ
numbered_at s c = get_or s (first_numbered_word + c * number_words) 0

abbrev pub highest_at : List ℕ → ℕ → ℕ
highest_at s c = get_or s (first_highest_word + c * number_words) 0

-- five words for a block (01: "base, pages, first permanent page (counted from the base), permanent pages, configured (0 or 1)")
pub record Block : Type 0 where
  pub base : ℕ
  pub pages : ℕ
  pub first : ℕ
  pub permanent : ℕ
  pub configured : ℕ

-- where there is none
abbrev pub no_block : Block
no_block = record { base = 0; pages = 0; first = 0; permanent = 0; configured = 0 }

-- block i of those whose words stand in l from at on
unfoldable pub block_in : List ℕ → ℕ → ℕ → Block
block_in l at i = record {
  base = get_or l (at + i * block_words) 0;
  pages = get_or l (at + i * block_words + pages_place) 0;
  first = get_or l (at + i * block_words + first_place) 0;
  permanent = get_or l (at + i * block_words + permanent_place) 0;
  configured = get_or l (at + i * block_words + configured_place) 0;
}

-- block i of the state
abbrev pub block_at : List ℕ → ℕ → Block
block_at s i = block_in s first_block_word i

-- 02, ticket 1: "device id, name .. with its zero, state, and a busy mark that never changes"; the name as bytes
pub record Device : Type 0 where
  pub id : ℕ
  pub configured : ℕ
  pub busy : ℕ
  pub name : List ℕ

-- where there is none
abbrev pub no_device : Device
no_device = record { id = 0; configured = 0; busy = 0; name = [] }

-- byte k of a word, the most significant is byte 0
unfoldable pub word_byte : ℕ → ℕ → ℕ
word_byte w k = w / 256 ^ (word_bytes - 1 - k) % 256

-- Of device i of those whose words stand in l from at on: how many bytes its name has, byte k of the words that hold it, and the device.
abbrev pub name_bytes_in : List ℕ → ℕ → ℕ → ℕ
name_bytes_in l at i = get_or l (at + i * device_words + name_bytes_place) 0

unfoldable pub name_byte_in : List ℕ → ℕ → ℕ → ℕ → ℕ
name_byte_in l at i k = word_byte (get_or l (at + i * device_words + name_place + k / word_bytes) 0) (k % word_bytes)

unfoldable pub device_in : List ℕ → ℕ → ℕ → Device
device_in l at i = record {
  id = get_or l (at + i * device_words) 0;
  configured = get_or l (at + i * device_words + device_configured_place) 0;
  busy = get_or l (at + i * device_words + busy_place) 0;
  name = tabulate (name_byte_in l at i) (name_bytes_in l at i);
}

-- the number of the state's devices, and device i
abbrev pub devices_of : List ℕ → ℕ
devices_of s = get_or s device_count_word 0

abbrev pub device_at : List ℕ → ℕ → Device
device_at s i = device_in s first_device_word i

-- 02, ticket 6: "The host sets, per service, whether it is permitted", of services 2 and 3; and "an order for the host", with a shutdown's delay
abbrev pub permission_at : List ℕ → ℕ → ℕ
permission_at s v = get_or s (first_permission_word + (v - shutdown_service)) 0

abbrev pub order_of : List ℕ → ℕ
order_of s = get_or s order_word 0

abbrev pub delay_of : List ℕ → ℕ
delay_of s = get_or s delay_word 0

-- 02, ticket 7: a listed id: major, highest minor, and its bytes with the zero
pub record PeerId : Type 0 where
  pub major : ℕ
  pub minor : ℕ
  pub bytes : List ℕ

-- Of id p of those whose words stand in l from at on: how many bytes it has, byte k of the words that hold it, and the id.
abbrev pub id_bytes_in : List ℕ → ℕ → ℕ → ℕ
id_bytes_in l at p = get_or l (at + p * id_words + id_bytes_place) 0

unfoldable pub id_byte_in : List ℕ → ℕ → ℕ → ℕ → ℕ
id_byte_in l at p k = word_byte (get_or l (at + p * id_words + id_place + k / word_bytes) 0) (k % word_bytes)

unfoldable pub id_in : List ℕ → ℕ → ℕ → PeerId
id_in l at p = record {
  major = get_or l (at + p * id_words) 0;
  minor = get_or l (at + p * id_words + id_minor_place) 0;
  bytes = tabulate (id_byte_in l at p) (id_bytes_in l at p);
}

-- the number of the state's ids, and id p
abbrev pub ids_of : List ℕ → ℕ
ids_of s = get_or s id_count_word 0

abbrev pub id_at : List ℕ → ℕ → PeerId
id_at s p = id_in s first_id_word p

-- bit p of a word, the least significant is bit 0; the word with that bit set, and with it cleared
unfoldable pub bit_of : ℕ → ℕ → ℕ
bit_of w p = w / 2 ^ p % 2

unfoldable pub bit_set : ℕ → ℕ → ℕ
bit_set w p = bit_or w (2 ^ p)

unfoldable pub bit_cleared : ℕ → ℕ → ℕ
bit_cleared w p = bit_xor w (bit_and w (2 ^ p))

-- channel c's peer registration of id p: whether there is one, its handle and its minor version
abbrev pub marks_at : List ℕ → ℕ → ℕ
marks_at s c = get_or s (first_peer_word + c * peer_words) 0

abbrev pub peered_at : List ℕ → ℕ → ℕ → ℕ
peered_at s c p = bit_of (marks_at s c) p

abbrev pub peer_handle_at : List ℕ → ℕ → ℕ → ℕ
peer_handle_at s c p = get_or s (first_peer_word + c * peer_words + mark_words + p) 0

abbrev pub peer_minor_at : List ℕ → ℕ → ℕ → ℕ
peer_minor_at s c p = get_or s (first_peer_word + c * peer_words + mark_words + most_ids + p) 0

-- a word as a test, and a test as a word
abbrev pub is_set : ℕ → Bool
is_set n = not (eqb n 0)

abbrev pub word_of : Bool → ℕ
word_of true = 1
word_of false = 0

-- the removal that the words hold
unfoldable pub removal_of : List ℕ → Removal
removal_of s = record {
  cancelled = is_set (get_or s cancelled_word 0);
  channel = get_or s removal_channel_word 0;
  handle = get_or s removal_handle_word 0;
  request = get_or s request_word 0;
  count = get_or s count_word 0;
  position = get_or s position_word 0;
  collected = get_or s collected_word 0;
  address = tabulate (λ i. get_or s (first_address_word + i) 0) most_records;
  size = tabulate (λ i. get_or s (first_size_word + i) 0) most_records;
  result = tabulate (λ i. get_or s (first_result_word + i) 0) most_records;
}

-- the words of an outstanding removal before its records
abbrev pub head_words : ℕ
head_words = first_address_word - outstanding_word

abbrev pub removal_head : Removal → List ℕ
removal_head m =
    1 ∷ word_of m.cancelled ∷ m.channel ∷ m.handle ∷ m.request ∷ m.count ∷ m.position ∷ m.collected ∷ []

-- The changes.

-- a channel ready (1) or closed (0), all its services idle, and no peer registration (02, ticket 7: "INIT_REQ and closing drop them")
unfoldable pub with_channel : List ℕ → ℕ → ℕ → List ℕ
with_channel s c ready =
    set (sets (set s c ready) (first_stage_word + c * channel_words) (replicate channel_words 0)) (first_peer_word + c * peer_words) 0

unfoldable pub with_service : List ℕ → ℕ → ℕ → ℕ → ℕ → List ℕ
with_service s k stage handle minor = sets s (first_stage_word + k * service_words) (stage ∷ handle ∷ minor ∷ [])

unfoldable pub with_configured : List ℕ → ℕ → ℕ → List ℕ
with_configured s i flag = set s (first_block_word + i * block_words + configured_place) flag

unfoldable pub with_counts : List ℕ → ℕ → ℕ → List ℕ
with_counts s last held = sets s last_word (last ∷ held ∷ [])

unfoldable pub with_removal : List ℕ → Removal → List ℕ
with_removal s m =
    sets (sets (sets (sets s outstanding_word (removal_head m)) first_address_word m.address) first_size_word m.size) first_result_word m.result

-- no removal outstanding, and its words 0
unfoldable pub without_removal : List ℕ → List ℕ
without_removal s = sets s outstanding_word (replicate removal_words 0)

-- channel c's highest request number (numbered 1), or none (0)
unfoldable pub with_number : List ℕ → ℕ → ℕ → ℕ → List ℕ
with_number s c numbered highest = sets s (first_numbered_word + c * number_words) (numbered ∷ highest ∷ [])

-- device i configured (1) or unconfigured (0)
unfoldable pub with_device : List ℕ → ℕ → ℕ → List ℕ
with_device s i flag = set s (first_device_word + i * device_words + device_configured_place) flag

-- service 2's or 3's permission, and the order
unfoldable pub with_permission : List ℕ → ℕ → ℕ → List ℕ
with_permission s v permitted = set s (first_permission_word + (v - shutdown_service)) permitted

unfoldable pub with_order : List ℕ → ℕ → ℕ → List ℕ
with_order s order delay = sets s order_word (order ∷ delay ∷ [])

-- channel c's peer registration of id p: made, and ended
unfoldable pub with_peer : List ℕ → ℕ → ℕ → ℕ → ℕ → List ℕ
with_peer s c p handle minor =
    set (set (set s (first_peer_word + c * peer_words) (bit_set (marks_at s c) p)) (first_peer_word + c * peer_words + mark_words + p) handle) (first_peer_word + c * peer_words + mark_words + most_ids + p) minor

unfoldable pub without_peer : List ℕ → ℕ → ℕ → List ℕ
without_peer s c p = set s (first_peer_word + c * peer_words) (bit_cleared (marks_at s c) p)
