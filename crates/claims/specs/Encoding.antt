-- The refusal numbers "are given in no other case", and so 8: a state as 01 and 02 tell it, the words that say it, and the claim that a sound one has words
-- and that all words that say it are accepted, whatever those without a meaning in it hold.
-- Assumes nothing.
use Rattle.std.specs.Prelude.{ℕ, zero, suc, ◌+◌, ◌-◌, ◌*◌, ◌/◌, ◌%◌, ◌^◌, ◌≤◌, ◌<◌, ◌≡◌, Bool, true, List, [], ◌∷◌, length, get_or, ltb, Option, Some}
use Rattle.std.proofs.lemmas.List.Edits.{sets}
use Rattle.basics.specs.Choice.{pick, tabulate, first_below}
use Rattle.model.specs.declared.Removal.{Removal}
use Rattle.model.specs.Layout.{channel_count, service_count, place_count, most_records, most_held, highest_number, highest_minor, stage_idle, stage_offered, stage_registered, block_words, state_words, ready_at, stage_at, handle_at, minor_at, blocks_of, block_in, block_at, last_of, held_of, outstanding_of, cancelled_of, word_of, removal_of, with_service, with_counts, with_removal, device_words, name_place, first_device_word, devices_of, name_bytes_in, shutdown_service, panic_service, first_permission_word, order_none, order_shutdown, order_panic, highest_delay, permission_at, order_of, delay_of, most_ids, most_peers, id_words, id_place, first_id_word, first_peer_word, mark_words, peer_words, ids_of, id_in, id_bytes_in, peered_at, peer_handle_at, peer_minor_at}
use Rattle.model.specs.Devices.{words_holding}
use Rattle.model.specs.Blocks.{Lists, accepted_lists, setup_state, names}
use Rattle.model.specs.Peers.{top_bit}
use Rattle.model.specs.State.{our_handle, sound}
use Rattle.model.specs.Reading.{Stage, idle, offered, registered, Order, no_order, shutdown, panic, Orders, Peer, no_peer, peer}

-- "What the agent holds", without words, but for request numbers, of which soundness says nothing. The lists are those of setup's form, with each block and device configured or not as it now is.
pub record Told : Type 0 where
  pub ready : ℕ → Bool
  pub service : ℕ → Stage
  pub lists : Lists
  pub last : ℕ
  pub held : ℕ
  pub outstanding : Bool
  pub removal : Removal
  pub orders : Orders
  -- by channel and place of the id
  pub peers : ℕ → ℕ → Peer

-- a live service, and its handle
pub data LiveAs : Stage → ℕ → Type 0 where
  is_offered : (handle : ℕ) → LiveAs (offered handle) handle
  is_registered : (handle minor : ℕ) → LiveAs (registered handle minor) handle

-- the block that the pair at a removal's position names, where the position is a record's (`below` asks that)
unfoldable pub block_told : List ℕ → Removal → Option ℕ
block_told l m =
    first_below (length l / block_words)
    (λ i. names (get_or m.address m.position 0) (get_or m.size m.position 0) (block_in l 0 i))

-- "pages collected below those of the configured block named at the position, or 0 if there is none"
pub data CollectedTold (l : List ℕ) (m : Removal) : Type 0 where
  nothing : m.collected ≡ 0 → CollectedTold l m
  below :
      (i : ℕ) →
      m.position < m.count →
      block_told l m ≡ Some i →
      (block_in l 0 i).configured ≡ 1 →
      m.collected < (block_in l 0 i).pages →
      CollectedTold l m

-- "for each settled record OK or NOWORK"
pub data ResultTold : ℕ → Type 0 where
  ok : ResultTold 0
  nowork : ResultTold 4

-- "a removal has a channel to 3, a handle up to that last number, 1 to 16 records, a position up to their count"; by 02, ticket 7, its handle is "the top bit over
-- 01's range"; ticket 8: "64 records in a request"
pub record RemovalTold (l : List ℕ) (last : ℕ) (m : Removal) : Type 0 where
  pub channels : m.channel < channel_count
  pub ours : our_handle 0 ≤ m.handle
  pub handles : m.handle ≤ our_handle last
  pub some : 1 ≤ m.count
  pub few : m.count ≤ most_records
  pub within : m.position ≤ m.count
  pub collects : CollectedTold l m
  pub results : (i : ℕ) → i < m.position → ResultTold (get_or m.result i 0)

-- whether there is a peer registration, as a bit
unfoldable pub mark_told : Peer → ℕ
mark_told no_peer = 0
mark_told (peer handle minor) = 1

-- a peer registration of a channel
pub record PeerTold (t : Told) (c p handle minor : ℕ) : Type 0 where
  pub on_ready : t.ready c ≡ true
  pub listed : p < length t.lists.ids / id_words
  pub low : handle < top_bit
  pub most : minor ≤ (id_in t.lists.ids 0 p).minor

-- how many there are of the first n ids
unfoldable pub peers_count : (ℕ → Peer) → ℕ → ℕ
peers_count ps zero = 0
peers_count ps (suc p) = peers_count ps p + mark_told (ps p)

-- "A state is sound if its blocks keep these rules; services on closed channels are idle; live handles differ and lie between 1 and the last
-- entry number used ..": 01's sentence, and what the numbers can be: a minor version has 16 bits, a settled record's result is OK or NOWORK. By 02, ticket 1, its
-- devices keep their rules too; by ticket 6 a shutdown's delay has 32 bits; by ticket 7 our handles "are the top bit over 01's range", the ids keep their rules, and
-- "a closed channel has no peer registrations, a ready one at most eight, whose handles lack that bit and differ there, as do their ids, each listed, with no minor
-- above the list's"; by ticket 8 "a state with last number 0 is not sound".
pub record SoundTold (t : Told) : Type 0 where
  pub lists : accepted_lists t.lists ≡ true
  pub on_ready : (k handle : ℕ) → k < place_count → LiveAs (t.service k) handle → t.ready (k / service_count) ≡ true
  pub least : (k handle : ℕ) → k < place_count → LiveAs (t.service k) handle → our_handle 1 ≤ handle
  pub most : (k handle : ℕ) → k < place_count → LiveAs (t.service k) handle → handle ≤ our_handle t.last
  pub differ :
      (j k handle : ℕ) →
      j < k →
      k < place_count →
      LiveAs (t.service j) handle →
      LiveAs (t.service k) handle →
      ⊥
  pub minors : (k handle minor : ℕ) → k < place_count → t.service k ≡ registered handle minor → minor ≤ highest_minor
  pub some : 1 ≤ t.last
  pub lasts : t.last ≤ highest_number
  pub helds : t.held ≤ most_held
  pub numbered : t.held ≤ t.last
  pub removes : t.outstanding ≡ true → RemovalTold t.lists.blocks t.last t.removal
  pub delays : (delay : ℕ) → t.orders.order ≡ shutdown delay → delay ≤ highest_delay
  pub peers : (c p handle minor : ℕ) → c < channel_count → p < most_ids → t.peers c p ≡ peer handle minor → PeerTold t c p handle minor
  pub peers_differ :
      (c q p handle m n : ℕ) →
      c < channel_count →
      q < p →
      p < most_ids →
      t.peers c q ≡ peer handle m →
      t.peers c p ≡ peer handle n →
      ⊥
  pub peers_few : (c : ℕ) → c < channel_count → peers_count (t.peers c) most_ids ≤ most_peers

-- three words say a service
unfoldable pub SaysService : ℕ → ℕ → ℕ → Stage → Type 0
SaysService stage handle minor idle = stage ≡ stage_idle
SaysService stage handle minor (offered h) = (stage ≡ stage_offered) × (handle ≡ h)
SaysService stage handle minor (registered h m) = (stage ≡ stage_registered) × (handle ≡ h) × (minor ≡ m)

-- a removal's words say a removal: its records up to the count, its results up to the position
pub record SaysRemoval (r m : Removal) : Type 0 where
  pub channel : r.channel ≡ m.channel
  pub handle : r.handle ≡ m.handle
  pub request : r.request ≡ m.request
  pub count : r.count ≡ m.count
  pub position : r.position ≡ m.position
  pub collected : r.collected ≡ m.collected
  pub address : (i : ℕ) → i < m.count → get_or r.address i 0 ≡ get_or m.address i 0
  pub size : (i : ℕ) → i < m.count → get_or r.size i 0 ≡ get_or m.size i 0
  pub result : (i : ℕ) → i < m.position → get_or r.result i 0 ≡ get_or m.result i 0

-- two words say an order
unfoldable pub SaysOrder : ℕ → ℕ → Order → Type 0
SaysOrder order delay no_order = order ≡ order_none
SaysOrder order delay (shutdown d) = (order ≡ order_shutdown) × (delay ≡ d)
SaysOrder order delay panic = order ≡ order_panic

-- a mark and two words say a peer registration
unfoldable pub SaysPeer : ℕ → ℕ → ℕ → Peer → Type 0
SaysPeer mark handle minor no_peer = mark ≡ 0
SaysPeer mark handle minor (peer h m) = (mark ≡ 1) × (handle ≡ h) × (minor ≡ m)

-- the words s say the state t: of the words that have a meaning in it, those of request numbers left out
pub record Says (s : List ℕ) (t : Told) : Type 0 where
  pub ready : (c : ℕ) → c < channel_count → ready_at s c ≡ word_of (t.ready c)
  pub service : (k : ℕ) → k < place_count → SaysService (stage_at s k) (handle_at s k) (minor_at s k) (t.service k)
  pub count : blocks_of s ≡ length t.lists.blocks / block_words
  pub block : (i : ℕ) → i < length t.lists.blocks / block_words → block_at s i ≡ block_in t.lists.blocks 0 i
  -- the words that say a device: all up to the last that holds its name
  pub devices : devices_of s ≡ length t.lists.devices / device_words
  pub device :
      (i : ℕ) →
      i < length t.lists.devices / device_words →
      (j : ℕ) →
      j < name_place + words_holding (name_bytes_in t.lists.devices 0 i) →
      get_or s (first_device_word + i * device_words + j) 0 ≡ get_or t.lists.devices (0 + i * device_words + j) 0
  pub last : last_of s ≡ t.last
  pub held : held_of s ≡ t.held
  pub outstanding : outstanding_of s ≡ word_of t.outstanding
  pub cancelled : t.outstanding ≡ true → cancelled_of s ≡ word_of t.removal.cancelled
  pub removal : t.outstanding ≡ true → SaysRemoval (removal_of s) t.removal
  pub shutdowns : permission_at s shutdown_service ≡ word_of t.orders.shutdown_permitted
  pub panics : permission_at s panic_service ≡ word_of t.orders.panic_permitted
  pub order : SaysOrder (order_of s) (delay_of s) t.orders.order
  -- the words that say an id: all up to the last that holds it
  pub ids : ids_of s ≡ length t.lists.ids / id_words
  pub id :
      (p : ℕ) →
      p < length t.lists.ids / id_words →
      (j : ℕ) →
      j < id_place + words_holding (id_bytes_in t.lists.ids 0 p) →
      get_or s (first_id_word + p * id_words + j) 0 ≡ get_or t.lists.ids (0 + p * id_words + j) 0
  pub peer : (c p : ℕ) → c < channel_count → p < most_ids → SaysPeer (peered_at s c p) (peer_handle_at s c p) (peer_minor_at s c p) (t.peers c p)

-- Words that say a state: those without a meaning in it are 0, but for those of its lists, which are as given.

-- a service's three words
unfoldable pub stage_told : Stage → ℕ
stage_told idle = stage_idle
stage_told (offered handle) = stage_offered
stage_told (registered handle minor) = stage_registered

unfoldable pub handle_told : Stage → ℕ
handle_told idle = 0
handle_told (offered handle) = handle
handle_told (registered handle minor) = handle

unfoldable pub minor_told : Stage → ℕ
minor_told idle = 0
minor_told (offered handle) = 0
minor_told (registered handle minor) = minor

-- the services at the places below n written
unfoldable pub services_told : (ℕ → Stage) → ℕ → List ℕ → List ℕ
services_told v zero s = s
services_told v (suc k) s =
    with_service (services_told v k s) k (stage_told (v k)) (handle_told (v k)) (minor_told (v k))

-- a removal with arrays of the most records
unfoldable pub removal_told : Removal → Removal
removal_told m = record {
  cancelled = m.cancelled;
  channel = m.channel;
  handle = m.handle;
  request = m.request;
  count = m.count;
  position = m.position;
  collected = m.collected;
  address = tabulate (λ i. get_or m.address i 0) most_records;
  size = tabulate (λ i. get_or m.size i 0) most_records;
  result = tabulate (λ i. get_or m.result i 0) most_records;
}

-- the permissions and the order
unfoldable pub order_told : Order → ℕ
order_told no_order = order_none
order_told (shutdown delay) = order_shutdown
order_told panic = order_panic

unfoldable pub delay_told : Order → ℕ
delay_told no_order = 0
delay_told (shutdown delay) = delay
delay_told panic = 0

unfoldable pub orders_told : Orders → List ℕ
orders_told o =
    word_of o.shutdown_permitted ∷ word_of o.panic_permitted ∷ order_told o.order ∷ delay_told o.order ∷ []

-- the peer registrations: of each channel the marks of the first n ids in one word, then the handles, then the minor versions
unfoldable pub marks_told : (ℕ → Peer) → ℕ → ℕ
marks_told ps zero = 0
marks_told ps (suc p) = mark_told (ps p) * 2 ^ p + marks_told ps p

unfoldable pub peer_handle_told : Peer → ℕ
peer_handle_told no_peer = 0
peer_handle_told (peer handle minor) = handle

unfoldable pub peer_minor_told : Peer → ℕ
peer_minor_told no_peer = 0
peer_minor_told (peer handle minor) = minor

unfoldable pub peer_word_told : (ℕ → Peer) → ℕ → ℕ
peer_word_told ps j =
    pick (ltb j mark_words) (marks_told ps most_ids)
    (pick (ltb j (mark_words + most_ids)) (peer_handle_told (ps (j - mark_words))) (peer_minor_told (ps (j - mark_words - most_ids))))

unfoldable pub peers_told : (ℕ → ℕ → Peer) → List ℕ
peers_told ps = tabulate (λ j. peer_word_told (ps (j / peer_words)) (j % peer_words)) (channel_count * peer_words)

-- all but the removal
unfoldable pub low_told : Told → List ℕ
low_told t =
    with_counts
    (services_told t.service place_count
    (sets (sets (sets (setup_state t.lists) first_permission_word (orders_told t.orders)) first_peer_word (peers_told t.peers)) 0 (tabulate (λ c. word_of (t.ready c)) channel_count)))
    t.last
    t.held

unfoldable pub words_told : Told → List ℕ
words_told t = pick t.outstanding (with_removal (low_told t) (removal_told t.removal)) (low_told t)

-- Every state that 01 and 02 call sound has words, and all words that say it are accepted.
pub record EncodingHolds : Type 0 where
  pub said : (t : Told) → SoundTold t → Says (words_told t) t × (length (words_told t) ≡ state_words)
  pub accepted : (s : List ℕ) (t : Told) → Says s t → SoundTold t → sound s ≡ true
