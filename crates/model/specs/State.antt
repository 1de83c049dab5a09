-- "A state is sound if ..", and by 02, ticket 8, "a state with last number 0 is not sound". Beyond the sentences of 01 and 02 a word that no reading could mean (a ready, configured, busy, outstanding or cancelled flag above 1, a
-- byte other than 0 after a device's name or an id in its last word, a permission above 1, an order above 2, a shutdown's delay of more than 32 bits, a stage above
-- 2, a registered minor, or an id's major or minor, above 65,535, a settled record's result other than OK or NOWORK) makes a
-- state not sound. Words without a meaning in the present state (an idle service's handle and minor, an offered one's minor, blocks past the count, a removal's
-- words while none is outstanding, its records past the count, results from the position on, devices and ids past the count, words past a device's name or an id,
-- the marks' bits past place 15, the handle and minor of an id that is not registered, the delay without a shutdown's order) are free, and so are the words of request numbers, in which any
-- number means something.
-- Assumes nothing.
use Rattle.std.specs.Prelude.{ℕ, ◌+◌, ◌/◌, Bool, not, List, get_or, ltb, leb, eqb, Option, Some, None}
use Rattle.basics.specs.Choice.{pick, ◌and◌, ◌or◌, every}
use Rattle.model.specs.declared.Removal.{Removal}
use Rattle.model.specs.Layout.{channel_count, service_count, place_count, most_records, most_held, highest_number, highest_minor, stage_idle, stage_offered, stage_registered, ready_at, stage_at, handle_at, minor_at, first_block_word, blocks_of, block_at, last_of, held_of, outstanding_of, cancelled_of, removal_of, first_device_word, devices_of, shutdown_service, panic_service, order_panic, order_shutdown, highest_delay, permission_at, order_of, delay_of, first_id_word, ids_of}
use Rattle.model.specs.Devices.{devices_keep}
use Rattle.model.specs.Peers.{top_bit, ids_keep, peers_sound}
use Rattle.model.specs.Blocks.{blocks_keep, named_block}

-- "The handle is the number of the offer's own entry"; 02, ticket 7: "Our handles now have that bit set over the entry number": our handle of entry n
abbrev pub our_handle : ℕ → ℕ
our_handle n = top_bit + n

-- a handle may be one of ours: it is none below that of entry `first` and none above that of entry `last` (of a removal's the entry may be 0)
unfoldable pub is_ours : ℕ → ℕ → ℕ → Bool
is_ours first last handle = leb (our_handle first) handle and leb handle (our_handle last)

-- "services on closed channels are idle; live handles .. lie between 1 and the last entry number used"
unfoldable pub service_sound : ℕ → ℕ → ℕ → ℕ → ℕ → Bool
service_sound stage handle minor ready last =
    eqb stage stage_idle
    or (leb stage stage_registered
    and eqb ready 1
    and is_ours 1 last handle
    and (eqb stage stage_offered or leb minor highest_minor))

abbrev pub service_sound_at : List ℕ → ℕ → Bool
service_sound_at s k =
    service_sound (stage_at s k) (handle_at s k) (minor_at s k) (ready_at s (k / service_count)) (last_of s)

-- "live handles differ": the service's at place k from those of the live services before it
unfoldable pub handle_apart : List ℕ → ℕ → Bool
handle_apart s k =
    eqb (stage_at s k) stage_idle
    or every k (λ j. eqb (stage_at s j) stage_idle or not (eqb (handle_at s j) (handle_at s k)))

-- the pages of the configured block that a pair names, 0 if there is none
unfoldable pub room_at : List ℕ → Option ℕ → ℕ
room_at s (Some i) = pick (eqb (block_at s i).configured 1) (block_at s i).pages 0
room_at s None = 0

abbrev pub room_of : List ℕ → ℕ → ℕ → ℕ
room_of s addr size = room_at s (named_block s addr size)

-- those of the pair at the removal's position
unfoldable pub removal_room : List ℕ → Removal → ℕ
removal_room s m =
    pick (ltb m.position m.count) (room_of s (get_or m.address m.position 0) (get_or m.size m.position 0)) 0

-- "pages collected below those of the configured block named at the position, or 0 if there is none"
unfoldable pub collected_sound : ℕ → ℕ → Bool
collected_sound collected room = pick (eqb room 0) (eqb collected 0) (ltb collected room)

-- "for each settled record OK or NOWORK"
unfoldable pub result_sound : ℕ → Bool
result_sound result = eqb result 0 or eqb result 4

unfoldable pub results_sound : Removal → Bool
results_sound m = every m.position (λ i. result_sound (get_or m.result i 0))

-- "a removal has a channel to 3, a handle up to that last number, 1 to 16 records, a position up to their count, and pages collected .."; 02, ticket 7: "ours, the
-- removal's too, are the top bit over 01's range"; ticket 8: "64 records in a request"
unfoldable pub removal_sound : List ℕ → ℕ → Removal → Bool
removal_sound s last m =
    ltb m.channel channel_count
    and is_ours 0 last m.handle
    and leb 1 m.count
    and leb m.count most_records
    and leb m.position m.count
    and collected_sound m.collected (removal_room s m)
    and results_sound m

-- the removal's words, where one is outstanding
unfoldable pub outstanding_sound : List ℕ → Bool
outstanding_sound s =
    eqb (outstanding_of s) 0
    or (eqb (outstanding_of s) 1 and leb (cancelled_of s) 1 and removal_sound s (last_of s) (removal_of s))

-- 02, ticket 6: a permission is set or not; an order is none, a shutdown with a delay of 32 bits, or a panic
unfoldable pub orders_sound : List ℕ → Bool
orders_sound s =
    leb (permission_at s shutdown_service) 1
    and leb (permission_at s panic_service) 1
    and leb (order_of s) order_panic
    and (not (eqb (order_of s) order_shutdown) or leb (delay_of s) highest_delay)

-- a state is sound
unfoldable pub sound : List ℕ → Bool
sound s =
    blocks_keep s first_block_word (blocks_of s)
    and every channel_count (λ c. leb (ready_at s c) 1)
    and every place_count (λ k. service_sound_at s k)
    and every place_count (λ k. handle_apart s k)
    and leb 1 (last_of s)
    and leb (last_of s) highest_number
    and leb (held_of s) most_held
    and leb (held_of s) (last_of s)
    and outstanding_sound s
    and devices_keep s first_device_word (devices_of s)
    and orders_sound s
    and ids_keep s first_id_word (ids_of s)
    and every channel_count (λ c. peers_sound s (ready_at s c) c)
