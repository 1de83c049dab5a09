-- Setup: the words that it writes, what they show, and that they are sound.
-- Assumes nothing.
use Prim.Native.Nat.{ℕ, zero, suc, ◌+◌, ◌*◌, ◌/◌, ◌%◌, ◌≤◌, ◌<◌}
use native.Mathlib.Omega.{arith}
use mathlib.Core.Path.{◌≡◌, refl, ap, ◌∙◌}
use mathlib.Core.Bool.{Bool, true, false, not}
use lib.Dec.{eqb}
use Rattle.model.specs.Calls.{setup_refusal}
use Rattle.model.specs.Refusals.{refusal_in}
use mathlib.Core.List.{List}
use lib.ListN.{length, get_or, set, replicate, length-set, get_or-replicate}
use lib.Seq.{get_or-set_same, get_or-set_other, length-sets}
use borrow.Author.Tests.{leb-true, eqb-true}
use Rattle.basics.specs.Choice.{pick, every, tabulate, ◌and◌, ◌or◌}
use Rattle.model.specs.Layout.{with_counts, journal_words, outstanding_of, blocks_of, block_in, block_at, last_of, held_of, block_count_word, block_words, configured_place, first_block_word, first_place, first_stage_word, last_word, most_blocks, outstanding_word, pages_place, permanent_place, service_words, state_words, no_block, device_words, most_devices, device_configured_place, device_count_word, first_device_word, first_permission_word, no_device, device_in, device_at, devices_of, channel_count, ready_at, id_words, most_ids, id_count_word, first_id_word, first_peer_word, peer_words, ids_of, peered_at}
use Rattle.model.specs.Peers.{accepted_ids, ids_keep}
use Rattle.model.specs.Devices.{accepted_devices, devices_keep}
use Rattle.model.specs.Blocks.{block_keeps, end_before, blocks_keep, with_list, setup_state, Lists, accepted_blocks, accepted_lists, no_lists, names, named_in, named_block}
use Rattle.model.specs.State.{orders_sound, sound}
use Rattle.model.specs.Reading.{stage_of, channels_of, services_of, blocks_shown, removal_shown, view_of, setup_view, devices_shown, setup_devices, order_shown, orders_shown, setup_orders, no_peer, peers_shown, setup_peers, ids_shown, setup_ids}
use Rattle.basics.proofs.Choice.{both, every-at, tabulate-same, first-same}
use Rattle.model.proofs.Words.{sets_below, sets-above, sets-at, removal-same, counts-frame, counts-length, last-counts, held-counts}
use Rattle.model.proofs.View.{Shape, channels-same, services-same, block_same, counts-view}
use Rattle.model.proofs.Above.{orders-kept, orders-shown-same}
use Rattle.model.proofs.Devices.{shown-same as devices-shown-same, SameWords, device-facts, name-few, flag-few, devices-keep, device-same}
use Rattle.model.proofs.Marks.{no-bit}
use Rattle.model.proofs.Peers.{SameIdWords, id-facts, id-few, ids-keep, unmarked-sound, peers-shown-same, ids-listed, ids-shown-same}
use Rattle.model.proofs.Rules.{service-idle}
use Rattle.model.proofs.Sounds.{removes-none, sound-counted}

-- an accepted list as facts
pub record Whole (l : List ℕ) (n : ℕ) : Type 0 where
  pub whole : length l ≡ n * block_words
  pub few : n ≤ most_blocks
  pub keeps : (i : ℕ) → i < n → block_keeps (block_in l 0 i) (end_before l 0 i) ≡ true

pub whole-list : (l : List ℕ) → accepted_blocks l ≡ true → Whole l (length l / block_words)
unfolding accepted_blocks blocks_keep
whole-list l e =
    let p = both _ _ e in
    let q = both _ _ p.1 in
    record {
      whole = omega (arith, eqb-true (length l % block_words) 0 p.0);
      few = leb-true _ most_blocks q.0;
      keeps = λ i h. every-at (λ i. block_keeps (block_in l 0 i) (end_before l 0 i)) (length l / block_words) i q.1 h;
    }

-- an accepted device list as facts
pub record WholeDevices (l : List ℕ) (n : ℕ) : Type 0 where
  pub whole : length l ≡ n * device_words
  pub few : n ≤ most_devices
  pub keeps : devices_keep l 0 n ≡ true

pub whole-devices : (l : List ℕ) → accepted_devices l ≡ true → WholeDevices l (length l / device_words)
unfolding accepted_devices
whole-devices l e =
    let p = both _ _ e in
    record {
      whole = omega (arith, eqb-true (length l % device_words) 0 p.0);
      few = (device-facts l 0 (length l / device_words) p.1).few;
      keeps = p.1;
    }

-- an accepted id list as facts
pub record WholeIds (l : List ℕ) (n : ℕ) : Type 0 where
  pub whole : length l ≡ n * id_words
  pub few : n ≤ most_ids
  pub keeps : ids_keep l 0 n ≡ true

pub whole-ids : (l : List ℕ) → accepted_ids l ≡ true → WholeIds l (length l / id_words)
unfolding accepted_ids
whole-ids l e =
    let p = both _ _ e in
    record {
      whole = omega (arith, eqb-true (length l % id_words) 0 p.0);
      few = (id-facts l 0 (length l / id_words) p.1).few;
      keeps = p.1;
    }

-- a list in the state, with its count before it
module _ (s : List ℕ) (at words : ℕ) (l : List ℕ) where
  counted : List ℕ
  counted = set s at (length l / words)

  list_length : length (with_list s at words l) ≡ length s
  unfolding with_list counted
  list_length = length-sets counted (at + 1) l ∙ length-set s at (length l / words)

  list-below : (j : ℕ) → j < at → get_or (with_list s at words l) j 0 ≡ get_or s j 0
  unfolding with_list counted
  list-below j h = sets_below counted l (at + 1) j (omega arith) ∙ get_or-set_other s at j (length l / words) 0 (λ q. omega arith)

  list-above : (j : ℕ) → at + 1 + length l ≤ j → get_or (with_list s at words l) j 0 ≡ get_or s j 0
  unfolding with_list counted
  list-above j h = sets-above counted l (at + 1) j h ∙ get_or-set_other s at j (length l / words) 0 (λ q. omega arith)

  list_count : at < length s → get_or (with_list s at words l) at 0 ≡ length l / words
  unfolding with_list counted
  list_count h = sets_below counted l (at + 1) at (omega arith) ∙ get_or-set_same s at (length l / words) 0 h

  list-word : (i : ℕ) → i < length l → at + 1 + length l ≤ length s → get_or (with_list s at words l) (at + 1 + i) 0 ≡ get_or l i 0
  unfolding with_list counted
  list-word i h n = sets-at counted l (at + 1) i h (omega (arith, length-set s at (length l / words)))

-- the lists as facts
pub record WholeLists (l : Lists) : Type 0 where
  pub blocks : Whole l.blocks (length l.blocks / block_words)
  pub devices : WholeDevices l.devices (length l.devices / device_words)
  pub ids : WholeIds l.ids (length l.ids / id_words)

pub whole-lists : (l : Lists) → accepted_lists l ≡ true → WholeLists l
unfolding accepted_lists
whole-lists l e =
    let p = both _ _ e in
    let q = both _ _ p.1 in
    record { blocks = whole-list l.blocks p.0; devices = whole-devices l.devices q.0; ids = whole-ids l.ids q.1 }

module _ (l : Lists) (w : WholeLists l) where
  f : Whole l.blocks (length l.blocks / block_words)
  f = w.blocks

  zeros : List ℕ
  zeros = replicate state_words 0

  -- the words with the blocks alone
  listed : List ℕ
  listed = with_list zeros block_count_word block_words l.blocks

  listed-length : length listed ≡ state_words
  unfolding listed zeros
  listed-length = list_length zeros block_count_word block_words l.blocks

  -- and those with the devices
  equipped : List ℕ
  equipped = with_list listed device_count_word device_words l.devices

  equipped-length : length equipped ≡ state_words
  unfolding equipped
  equipped-length = list_length listed device_count_word device_words l.devices ∙ listed-length

  pub setup-length : length (setup_state l) ≡ state_words
  unfolding setup_state equipped listed zeros
  setup-length = list_length equipped id_count_word id_words l.ids ∙ equipped-length

  -- below the ids, and below the devices
  below-ids : (j : ℕ) → j < id_count_word → get_or (setup_state l) j 0 ≡ get_or equipped j 0
  unfolding setup_state equipped listed zeros
  below-ids j h = list-below equipped id_count_word id_words l.ids j h

  under : (j : ℕ) → j < device_count_word → get_or (setup_state l) j 0 ≡ get_or listed j 0
  under j h = below-ids j (omega arith) ∙ unfold equipped in (list-below listed device_count_word device_words l.devices j h)

  -- all but the lists' words is 0
  low : (j : ℕ) → j < block_count_word → get_or (setup_state l) j 0 ≡ get_or (replicate state_words 0) j 0
  low j h = under j (omega arith) ∙ unfold listed zeros in (list-below zeros block_count_word block_words l.blocks j h)

  pub high : (j : ℕ) → last_word ≤ j → j < device_count_word → get_or (setup_state l) j 0 ≡ get_or (replicate state_words 0) j 0
  high j h g =
      under j g ∙ unfold listed zeros in (list-above zeros block_count_word block_words l.blocks j (omega (arith, f.whole, f.few)))

  pub count : blocks_of (setup_state l) ≡ length l.blocks / block_words
  count = under block_count_word (omega arith) ∙ unfold listed zeros in (list_count zeros block_count_word block_words l.blocks (omega arith))

  word : (i : ℕ) → i < length l.blocks → get_or (setup_state l) (first_block_word + i) 0 ≡ get_or l.blocks i 0
  word i h =
      under (first_block_word + i) (omega (arith, f.whole, f.few))
      ∙ unfold listed zeros in (list-word zeros block_count_word block_words l.blocks i h (omega (arith, f.whole, f.few)))

  -- the devices
  pub device-count : devices_of (setup_state l) ≡ length l.devices / device_words
  unfolding equipped
  device-count = below-ids device_count_word (omega arith) ∙ list_count listed device_count_word device_words l.devices (omega (arith, listed-length))

  device-word : (i : ℕ) → i < length l.devices → get_or (setup_state l) (first_device_word + i) 0 ≡ get_or l.devices i 0
  unfolding equipped
  device-word i h =
      below-ids (first_device_word + i) (omega (arith, w.devices.whole, w.devices.few))
      ∙ list-word listed device_count_word device_words l.devices i h (omega (arith, listed-length, w.devices.whole, w.devices.few))

  -- word j of device i
  pub device-given : (i : ℕ) → i < length l.devices / device_words → (j : ℕ) → j < device_words → get_or (setup_state l) (first_device_word + i * device_words + j) 0 ≡ get_or l.devices (0 + i * device_words + j) 0
  device-given i h j g =
      ap (λ (x : ℕ). get_or (setup_state l) x 0) (omega arith)
      ∙ device-word (0 + i * device_words + j) (omega (arith, w.devices.whole))

  device-words : (i : ℕ) → i < length l.devices / device_words → SameWords l.devices (setup_state l) 0 first_device_word i
  device-words i h j g n =
      let short = name-few l.devices 0 i ((device-facts l.devices 0 (length l.devices / device_words) w.devices.keeps).keeps i h) in
      device-given i h j (omega arith)

  device-flag : (i : ℕ) → i < length l.devices / device_words → (device_at (setup_state l) i).configured ≡ (device_in l.devices 0 i).configured
  unfolding device_in
  device-flag i h = device-given i h device_configured_place (omega arith)

  setup-devices : devices_keep (setup_state l) first_device_word (devices_of (setup_state l)) ≡ true
  setup-devices =
      rw device-count
      (devices-keep l.devices (setup_state l) 0 first_device_word (length l.devices / device_words) device-words
      (λ i h. rw (device-flag i h) (flag-few l.devices 0 i ((device-facts l.devices 0 (length l.devices / device_words) w.devices.keeps).keeps i h)))
      w.devices.keeps)

  -- after them all is 0 up to the ids
  end : (j : ℕ) → first_permission_word ≤ j → j < id_count_word → get_or (setup_state l) j 0 ≡ get_or (replicate state_words 0) j 0
  unfolding equipped listed zeros
  end j h g =
      below-ids j g
      ∙ list-above listed device_count_word device_words l.devices j (omega (arith, w.devices.whole, w.devices.few))
      ∙ list-above zeros block_count_word block_words l.blocks j (omega (arith, f.whole, f.few))

  setup-orders : orders_sound (setup_state l) ≡ true
  setup-orders = orders-kept (replicate state_words 0) (setup_state l) end (unfold orders_sound ◌and◌ ◌or◌ in refl)

  setup-ordered : orders_shown (setup_state l) ≡ setup_orders
  setup-ordered = orders-shown-same (replicate state_words 0) (setup_state l) end ∙ unfold orders_shown order_shown pick in refl

  -- the ids
  pub id-count : ids_of (setup_state l) ≡ length l.ids / id_words
  unfolding setup_state equipped listed zeros
  id-count = list_count equipped id_count_word id_words l.ids (omega (arith, equipped-length))

  id-word : (i : ℕ) → i < length l.ids → get_or (setup_state l) (first_id_word + i) 0 ≡ get_or l.ids i 0
  unfolding setup_state equipped listed zeros
  id-word i h = list-word equipped id_count_word id_words l.ids i h (omega (arith, equipped-length, w.ids.whole, w.ids.few))

  pub id-words : (p : ℕ) → p < length l.ids / id_words → SameIdWords l.ids (setup_state l) 0 first_id_word p
  id-words p h j g =
      let short = id-few l.ids 0 p ((id-facts l.ids 0 (length l.ids / id_words) w.ids.keeps).keeps p h) in
      ap (λ (x : ℕ). get_or (setup_state l) x 0) (omega arith)
      ∙ id-word (0 + p * id_words + j) (omega (arith, w.ids.whole))

  setup-ids : ids_keep (setup_state l) first_id_word (ids_of (setup_state l)) ≡ true
  setup-ids = rw id-count (ids-keep l.ids (setup_state l) 0 first_id_word (length l.ids / id_words) id-words w.ids.keeps)

  setup-listed : ids_shown (setup_state l) ≡ setup_ids l
  unfolding ids_shown setup_ids
  setup-listed = rw id-count (ids-listed l.ids (setup_state l) 0 first_id_word (length l.ids / id_words) id-words)

  -- no peer registration
  top : (j : ℕ) → first_peer_word ≤ j → j < state_words → get_or (setup_state l) j 0 ≡ 0
  unfolding setup_state equipped listed zeros
  top j h g =
      list-above equipped id_count_word id_words l.ids j (omega (arith, w.ids.whole, w.ids.few))
      ∙ list-above listed device_count_word device_words l.devices j (omega (arith, w.devices.whole, w.devices.few))
      ∙ list-above zeros block_count_word block_words l.blocks j (omega (arith, f.whole, f.few))
      ∙ get_or-replicate {A = ℕ} state_words j 0 0 g

  setup-unpeered : (c : ℕ) → c < channel_count → (p : ℕ) → p < most_ids → peered_at (setup_state l) c p ≡ 0
  setup-unpeered c h p b = rw (top (first_peer_word + c * peer_words) (omega arith) (omega arith)) (no-bit p)

  setup-peers : peers_shown (setup_state l) ≡ setup_peers
  unfolding peers_shown pick
  setup-peers =
      tabulate-same (λ _. no_peer) _ (channel_count * most_ids) no_peer (λ k h. rw (setup-unpeered (k / most_ids) (omega arith) (k % most_ids) (omega arith)))
      ∙ unfold tabulate in refl

  setup-shown : devices_shown (setup_state l) ≡ setup_devices l
  unfolding devices_shown setup_devices
  setup-shown =
      rw device-count
      (tabulate-same (device_in l.devices 0) (device_at (setup_state l)) (length l.devices / device_words) no_device
      (λ i h. device-same l.devices (setup_state l) 0 first_device_word i (device-words i h) (device-flag i h)))

  pub block : (i : ℕ) → i < length l.blocks / block_words → block_at (setup_state l) i ≡ block_in l.blocks 0 i
  unfolding block_in
  block i h =
      rw (
        shift (0 + i * block_words) (first_block_word + i * block_words) (omega arith) (omega (arith, f.whole)),
        shift (0 + i * block_words + pages_place) (first_block_word + i * block_words + pages_place) (omega arith) (omega (arith, f.whole)),
        shift (0 + i * block_words + first_place) (first_block_word + i * block_words + first_place) (omega arith) (omega (arith, f.whole)),
        shift (0 + i * block_words + permanent_place) (first_block_word + i * block_words + permanent_place) (omega arith) (omega (arith, f.whole)),
        shift (0 + i * block_words + configured_place) (first_block_word + i * block_words + configured_place) (omega arith) (omega (arith, f.whole)),
      )
    where
      shift : (j k : ℕ) → k ≡ first_block_word + j → j < length l.blocks → get_or (setup_state l) k 0 ≡ get_or l.blocks j 0
      shift j k e h = ap (λ (x : ℕ). get_or (setup_state l) x 0) e ∙ word j h

  none-low : (j : ℕ) → j < block_count_word → get_or (setup_state l) j 0 ≡ 0
  none-low j h = low j h ∙ get_or-replicate {A = ℕ} state_words j 0 0 (omega arith)

  floor : (i : ℕ) → i ≤ length l.blocks / block_words → end_before (setup_state l) first_block_word i ≡ end_before l.blocks 0 i
  unfolding end_before
  floor zero h = refl
  floor (suc i) h = rw (block i (omega arith))

  setup-view : view_of (setup_state l) ≡ setup_view l
  unfolding view_of setup_view
  setup-view =
      rw (
        channels-same (replicate state_words 0) (setup_state l) (λ j lo hi. low j (omega arith)),
        services-same (replicate state_words 0) (setup_state l) (λ j lo hi. low j (omega arith)),
        blocks,
        high outstanding_word (omega arith) (omega arith),
        removal-same (replicate state_words 0) (setup_state l) (λ j lo hi. high j (omega arith) (omega arith)),
      )
      (unfold channels_of services_of removal_shown stage_of tabulate pick in refl)
    where
      blocks : blocks_shown (setup_state l) ≡ tabulate (λ i. block_in l.blocks 0 i) (length l.blocks / block_words)
      blocks = unfold blocks_shown in rw count (tabulate-same (λ i. block_in l.blocks 0 i) (λ i. block_at (setup_state l) i) (length l.blocks / block_words) no_block block)

  -- with the mark counted
  marked-sound : sound (with_counts (setup_state l) 1 1) ≡ true
  marked-sound =
      sound-counted (setup_state l) 1 1 setup-length
      (record {
        few = rw count f.few;
        blocks = λ i h. let g : i < length l.blocks / block_words = omega (arith, count) in rw (block i g, floor i (omega arith)) (f.keeps i g);
        ready = λ c h. rw (none-low c (omega arith)) (omega arith);
        services = λ k h. service-idle _ _ _ _ _ (none-low (first_stage_word + k * service_words) (omega arith));
        apart = λ j k i h p q r. q (none-low (first_stage_word + k * service_words) (omega arith));
      })
      (removes-none (setup_state l) _ (high outstanding_word (omega arith) (omega arith)))
      setup-devices
      setup-orders
      setup-ids
      (λ c h. unmarked-sound (setup_state l) (ready_at (setup_state l) c) c (setup-unpeered c h))
      (omega arith) (omega arith) (omega arith) (omega arith)

  marked-shape : Shape (setup_state l)
  marked-shape = record { size = setup-length; few = rw count f.few }

  -- the counts are no part of the blocks
  marked-block : (i : ℕ) → i < length l.blocks / block_words → block_at (with_counts (setup_state l) 1 1) i ≡ block_in l.blocks 0 i
  marked-block i h =
      block_same (setup_state l) (with_counts (setup_state l) 1 1) i (omega (arith, f.few)) (λ j lo hi. counts-frame (setup_state l) 1 1 j (λ p q. omega arith))
      ∙ block i h

  marked-count : blocks_of (with_counts (setup_state l) 1 1) ≡ length l.blocks / block_words
  marked-count = counts-frame (setup_state l) 1 1 block_count_word (λ p q. omega arith) ∙ count

  marked-named : (addr size : ℕ) → named_block (with_counts (setup_state l) 1 1) addr size ≡ named_in l.blocks 0 (length l.blocks / block_words) addr size
  unfolding named_block
  marked-named addr size =
      rw marked-count
      (first-same (length l.blocks / block_words) (λ i. names addr size (block_in l.blocks 0 i)) (λ i. names addr size (block_at (with_counts (setup_state l) 1 1) i))
      (λ i h. ap (names addr size) (marked-block i h)))

-- what holds of the state that setup leaves of accepted lists
abbrev pub marked_state : Lists → List ℕ
marked_state l = with_counts (setup_state l) 1 1

pub record Starts (l : Lists) : Type 0 where
  pub size : length (marked_state l) ≡ state_words
  pub sounds : sound (marked_state l) ≡ true
  pub last : last_of (marked_state l) ≡ 1
  pub held : held_of (marked_state l) ≡ 1
  pub view : view_of (marked_state l) ≡ setup_view l
  pub devices : devices_shown (marked_state l) ≡ setup_devices l
  pub orders : orders_shown (marked_state l) ≡ setup_orders
  pub peers : peers_shown (marked_state l) ≡ setup_peers
  pub ids : ids_shown (marked_state l) ≡ setup_ids l
  pub outstanding : outstanding_of (marked_state l) ≡ 0
  pub counted : blocks_of (marked_state l) ≡ length l.blocks / block_words
  pub given : (i : ℕ) → i < length l.blocks / block_words → block_at (marked_state l) i ≡ block_in l.blocks 0 i
  pub named : (addr size : ℕ) → named_block (marked_state l) addr size ≡ named_in l.blocks 0 (length l.blocks / block_words) addr size

pub starts : (l : Lists) → accepted_lists l ≡ true → Starts l
starts l e =
    let f = whole-lists l e in
    record {
      size = counts-length (setup_state l) 1 1 ∙ setup-length l f;
      sounds = marked-sound l f;
      last = last-counts (setup_state l) 1 1 (setup-length l f);
      held = held-counts (setup_state l) 1 1 (setup-length l f);
      view = counts-view (setup_state l) (marked-shape l f) 1 1 ∙ setup-view l f;
      devices = devices-shown-same (setup_state l) (marked_state l) (λ j lo hi. counts-frame (setup_state l) 1 1 j (λ p q. omega arith)) (setup-devices l f) ∙ setup-shown l f;
      orders = orders-shown-same (setup_state l) (marked_state l) (λ j lo hi. counts-frame (setup_state l) 1 1 j (λ p q. omega arith)) ∙ setup-ordered l f;
      peers = peers-shown-same (setup_state l) (marked_state l) (λ j lo hi. counts-frame (setup_state l) 1 1 j (λ p q. omega arith)) ∙ setup-peers l f;
      ids = ids-shown-same (setup_state l) (marked_state l) (λ j lo hi. counts-frame (setup_state l) 1 1 j (λ p q. omega arith)) (setup-ids l f) ∙ setup-listed l f;
      outstanding = counts-frame (setup_state l) 1 1 outstanding_word (λ p q. omega arith) ∙ high l f outstanding_word (omega arith) (omega arith);
      counted = marked-count l f;
      given = marked-block l f;
      named = marked-named l f;
    }

empty-accepted : accepted_lists no_lists ≡ true
unfolding accepted_lists accepted_blocks blocks_keep accepted_devices devices_keep accepted_ids ids_keep every ◌and◌
empty-accepted = refl

pub empty-last : last_of (setup_state no_lists) ≡ 0
empty-last = high no_lists (whole-lists no_lists empty-accepted) last_word (omega arith) (omega arith)

-- where setup does not refuse, the journal has its length and the lists are accepted
pub setup-accepts : (l : Lists) (words : ℕ) → setup_refusal l words ≡ 0 → (words ≡ journal_words) × (accepted_lists l ≡ true)
setup-accepts l words e = go (eqb words journal_words) refl (accepted_lists l) refl (unfold setup_refusal refusal_in in e)
  where
    go : (b : Bool) → eqb words journal_words ≡ b → (a : Bool) → accepted_lists l ≡ a → ◌≡◌ {A = ℕ} (pick (not b) 1 (pick (not a) 7 0)) 0 → (words ≡ journal_words) × (a ≡ true)
    go true p true q z = (eqb-true words journal_words p, refl)
    go true p false q z = let y : ◌≡◌ {A = ℕ} 7 0 = unfold pick in z in absurd (omega arith)
    go false p a q z = let y : ◌≡◌ {A = ℕ} 1 0 = unfold pick in z in absurd (omega arith)
