-- Words that say a sound state are accepted.
-- Assumes nothing.
use Rattle.std.specs.Prelude.{Some}
use mathlib.Core.Path.{◌≡◌, refl, ap, ◌∙◌}
use mathlib.Core.Bool.{Bool, true, false, not}
use mathlib.Core.List.{List, [], ◌∷◌}
use Prim.Native.Nat.{ℕ, zero, suc, ◌+◌, ◌-◌, ◌*◌, ◌/◌, ◌%◌, ◌^◌, ◌<◌, ◌≤◌}
use native.Mathlib.Nat.{pow-suc}
use native.Mathlib.Omega.{arith}
use lib.ListN.{length, get_or, get_or-replicate}
use lib.Seq.{sets, length-sets}
use lib.Dec.{eqb, leb, ltb}
use borrow.Author.Tests.{le-leb, le-ltb, lt-ltb, eq-eqb, ne_eqb, eqb-true, eqb-false}
use Rattle.basics.specs.Choice.{pick, ◌or◌, first_below, tabulate}
use Rattle.model.specs.declared.Removal.{Removal}
use Rattle.model.specs.Layout.{block_at, block_in, block_words, channel_count, place_count, service_count, first_block_word, last_of, outstanding_of, stage_at, handle_at, minor_at, ready_at, stage_idle, stage_registered, word_of, is_set, removal_of, held_of, with_removal, first_stage_word, service_words, state_words, block_count_word, last_word, held_word, outstanding_word, most_records, first_numbered_word, device_count_word, first_device_word, device_configured_place, device_words, name_place, name_bytes_in, device_in, devices_of, first_permission_word, order_shutdown, order_panic, highest_delay, most_ids, id_words, id_place, id_minor_place, id_count_word, first_id_word, first_peer_word, mark_words, peer_words, bit_of, ids_of, id_in, id_bytes_in, peered_at, peer_handle_at, peer_minor_at}
use Rattle.model.specs.Devices.{words_holding, device_keeps, devices_keep}
use Rattle.model.specs.Blocks.{setup_state, end_of, end_before, names, named_block}
use Rattle.model.specs.Peers.{ids_keep, peers_below, peers_sound}
use Rattle.model.specs.State.{service_sound, room_at, removal_room, collected_sound, result_sound, results_sound, orders_sound, sound}
use Rattle.model.specs.Reading.{Stage, idle, offered, registered, Order, no_order, shutdown, panic, Peer, no_peer, peer}
use Rattle.effects.proofs.OrderEffects.{order-test}
use Rattle.claims.specs.Encoding.{Told, LiveAs, is_offered, is_registered, block_told, CollectedTold, nothing, below, ResultTold, ok, nowork, RemovalTold, SoundTold, SaysService, SaysRemoval, Says, stage_told, handle_told, minor_told, services_told, removal_told, SaysOrder, order_told, delay_told, orders_told, mark_told, marks_told, peers_count, SaysPeer, peer_handle_told, peer_minor_told, peer_word_told, peers_told, low_told, words_told, EncodingHolds}
use Rattle.basics.proofs.Choice.{clash, every-make, first-same, first-facts, pick_true, pick-false, tabulate-at, tabulate-length}
use Rattle.model.proofs.Words.{Arrays, sets_below, sets-above, sets-at, service-frame, service-length, service-word, counts-frame, counts-length, last-counts, held-counts, removal-frame, removal-above, removal-length, removal-back, head-back}
use Rattle.model.proofs.View.{block_same}
use Rattle.model.proofs.Rules.{sound-test, service-idle, live-last, Live, Apart, Base, Outstanding, RemovalFacts, Removes}
use Rattle.model.proofs.Devices.{devices-keep, device-facts, flag-few, name-few}
use Rattle.model.proofs.Marks.{top_bit, low_bit}
use Rattle.model.proofs.Peers.{id-facts, id-few, ids-keep}
use Rattle.effects.proofs.PeerTurns.{Registration, unpeered, peered, registrations-test}
use Rattle.model.proofs.Setup.{WholeLists, whole-lists, setup-length, high as setup-high, count as setup-count, block as setup-block, device-count as setup-devices, device-given as setup-device, id-count as setup-ids, id-words as setup-id}

flag : (b : Bool) → word_of b ≤ 1
flag true = omega arith
flag false = omega arith

-- words that say a live service
live-said : (stage handle minor : ℕ) (v : Stage) → (stage ≡ stage_idle → ⊥) → SaysService stage handle minor v → LiveAs v handle
unfolding SaysService
live-said stage handle minor idle n e = absurd (n e)
live-said stage handle minor (offered h) n e = rw e.1 (is_offered h)
live-said stage handle minor (registered h m) n e = rw e.1 (is_registered h m)

-- no pages collected fit any block
none-fits : (room : ℕ) → collected_sound 0 room ≡ true
unfolding collected_sound pick
none-fits room = go (eqb room 0) refl
  where
    go : (b : Bool) → eqb room 0 ≡ b → pick b (eqb 0 0) (ltb 0 room) ≡ true
    go true e = refl
    go false e = lt-ltb 0 room (let q = eqb-false room 0 e in omega (arith, q))

some_fit : (collected room : ℕ) → collected < room → collected_sound collected room ≡ true
unfolding collected_sound pick
some_fit collected room h = rw (ne_eqb room 0 (λ e. omega arith)) (lt-ltb collected room h)

result-said : (x : ℕ) → ResultTold x → result_sound x ≡ true
unfolding result_sound ◌or◌
result-said _ ok = refl
result-said _ nowork = refl

module _ (s : List ℕ) (t : Told) (w : Says s t) (f : SoundTold t) where
  open_said : (k handle : ℕ) → k < place_count → LiveAs (t.service k) handle → ready_at s (k / service_count) ≡ 1
  open_said k handle h v = w.ready (k / service_count) (omega arith) ∙ ap word_of (f.on_ready k handle h v)

  live_facts : (k : ℕ) → k < place_count → LiveAs (t.service k) (handle_at s k) → stage_at s k ≤ stage_registered → Live (stage_at s k) (handle_at s k) (ready_at s (k / service_count)) (last_of s)
  live_facts k h v g = record {
    stages = g;
    is_ready = open_said k (handle_at s k) h v;
    ours = record { least = f.least k (handle_at s k) h v; most = rw w.last (f.most k (handle_at s k) h v) };
  }

  service-said : (k : ℕ) → k < place_count → (v : Stage) → t.service k ≡ v → service_sound (stage_at s k) (handle_at s k) (minor_at s k) (ready_at s (k / service_count)) (last_of s) ≡ true
  unfolding SaysService ◌or◌
  service-said k h idle e = service-idle _ _ _ _ _ (rw e at (w.service k h))
  service-said k h (offered hd) e =
      let p = rw e at (w.service k h) in
      let n : stage_at s k ≡ stage_idle → ⊥ = λ z. omega (arith, p.0) in
      live-last _ _ _ _ _ n (live_facts k h (live-said _ _ _ _ n (w.service k h)) (omega (arith, p.0)))
      ∙ rw p.0
  service-said k h (registered hd m) e =
      let p = rw e at (w.service k h) in
      let n : stage_at s k ≡ stage_idle → ⊥ = λ z. omega (arith, p.0) in
      live-last _ _ _ _ _ n (live_facts k h (live-said _ _ _ _ n (w.service k h)) (omega (arith, p.0)))
      ∙ rw (p.0, p.2) (le-leb _ _ (f.minors k hd m h e))

  apart-said : Apart s
  apart-said j k l h p q r =
      f.differ j k (handle_at s j) l h
      (live-said _ _ _ _ p (w.service j (omega arith)))
      (rw r (live-said _ _ _ _ q (w.service k h)))

  floor-said : (i : ℕ) → i < length t.lists.blocks / block_words → end_before s first_block_word i ≡ end_before t.lists.blocks 0 i
  unfolding end_before
  floor-said zero h = refl
  floor-said (suc i) h = ap end_of (w.block i (omega arith))

  base-said : Base s (last_of s)
  base-said =
      let b = (whole-lists t.lists f.lists).blocks in
      record {
        few = rw w.count b.few;
        blocks = λ i h. let g : i < length t.lists.blocks / block_words = omega (arith, w.count) in rw (w.block i g, floor-said i g) (b.keeps i g);
        ready = λ c h. rw (w.ready c h) (flag (t.ready c));
        services = λ k h. service-said k h (t.service k) refl;
        apart = apart-said;
      }

  -- the removal
  module _ (o : t.outstanding ≡ true) where
    m : Removal
    m = t.removal

    r : SaysRemoval (removal_of s) t.removal
    r = w.removal o

    g : RemovalTold t.lists.blocks t.last t.removal
    g = f.removes o

    block-said : (a b : ℕ) → named_block s a b ≡ first_below (length t.lists.blocks / block_words) (λ i. names a b (block_in t.lists.blocks 0 i))
    unfolding named_block
    block-said a b =
        rw w.count
        (first-same (length t.lists.blocks / block_words) (λ i. names a b (block_in t.lists.blocks 0 i)) (λ i. names a b (block_at s i))
        (λ i h. ap (names a b) (w.block i h)))

    room-said : (i : ℕ) → t.removal.position < t.removal.count → block_told t.lists.blocks t.removal ≡ Some i → (block_in t.lists.blocks 0 i).configured ≡ 1 → removal_room s (removal_of s) ≡ (block_in t.lists.blocks 0 i).pages
    unfolding removal_room block_told room_at pick
    room-said i p q z =
        rw (
          r.position,
          r.count,
          lt-ltb _ _ p,
          r.address t.removal.position p,
          r.size t.removal.position p,
          block-said (get_or t.removal.address t.removal.position 0) (get_or t.removal.size t.removal.position 0),
          q,
          w.block i (first-facts _ _ i q).below,
          eq-eqb _ 1 z,
        )

    collected-said : CollectedTold t.lists.blocks t.removal → collected_sound (removal_of s).collected (removal_room s (removal_of s)) ≡ true
    collected-said (nothing e) = rw (r.collected, e) (none-fits _)
    collected-said (below i p q z h) = rw (room-said i p q z, r.collected) (some_fit _ _ h)

    results-said : results_sound (removal_of s) ≡ true
    unfolding results_sound
    results-said =
        rw r.position
        (every-make (λ i. result_sound (get_or (removal_of s).result i 0)) t.removal.position
        (λ i h. rw (r.result i h) (result-said _ (g.results i h))))

    removal-said : RemovalFacts s (last_of s) (removal_of s)
    removal-said = record {
      channels = rw r.channel g.channels;
      handles = record { least = rw r.handle g.ours; most = rw (r.handle, w.last) g.handles };
      some = rw r.count g.some;
      few = rw r.count g.few;
      within = rw (r.position, r.count) g.within;
      room = collected-said g.collects;
      results = results-said;
    }

  removes-said : Removes s (last_of s)
  removes-said e = go t.outstanding refl
    where
      go : (b : Bool) → t.outstanding ≡ b → Outstanding s (last_of s)
      go true o = record {
        one = w.outstanding ∙ ap word_of o;
        flag = rw (w.cancelled o) (flag t.removal.cancelled);
        facts = removal-said o;
      }
      go false o = absurd (clash (is_set (outstanding_of s)) (ap is_set (w.outstanding ∙ ap word_of o)) e)

-- the devices' words say accepted ones
devices-said : (s : List ℕ) (t : Told) → Says s t → SoundTold t → devices_keep s first_device_word (devices_of s) ≡ true
devices-said s t w f =
    let d = (whole-lists t.lists f.lists).devices in
    rw w.devices
    (devices-keep t.lists.devices s 0 first_device_word (length t.lists.devices / device_words)
    (λ i h j g n. w.device i h j g)
    (λ i h. flag-said i h ((device-facts t.lists.devices 0 (length t.lists.devices / device_words) d.keeps).keeps i h))
    d.keeps)
  where
    flag-said : (i : ℕ) → i < length t.lists.devices / device_words → device_keeps t.lists.devices 0 i ≡ true → (device_in s first_device_word i).configured ≤ 1
    flag-said i h e =
        let few = flag-few t.lists.devices 0 i e in
        unfold device_in in (rw (w.device i h device_configured_place (omega arith)) (unfold device_in in few))

-- words that say an order
order_small : (order delay : ℕ) (o : Order) → SaysOrder order delay o → leb order order_panic ≡ true
unfolding SaysOrder
order_small order delay no_order e = rw e
order_small order delay (shutdown d) e = rw e.0
order_small order delay panic e = rw e

delay-fits : (order delay : ℕ) (o : Order) → ((d : ℕ) → o ≡ shutdown d → d ≤ highest_delay) → SaysOrder order delay o → (not (eqb order order_shutdown) or leb delay highest_delay) ≡ true
unfolding SaysOrder ◌or◌
delay-fits order delay no_order f e = rw e
delay-fits order delay (shutdown d) f e = rw (e.0, e.1) (le-leb d highest_delay (f d refl))
delay-fits order delay panic f e = rw e

-- the words say sound permissions and a sound order
orders-said : (s : List ℕ) (t : Told) → Says s t → SoundTold t → orders_sound s ≡ true
orders-said s t w f =
    order-test s
    (record {
      shutdowns = rw w.shutdowns (le-leb _ 1 (flag t.orders.shutdown_permitted));
      panics = rw w.panics (le-leb _ 1 (flag t.orders.panic_permitted));
      order = order_small _ _ t.orders.order w.order;
      delay = delay-fits _ _ t.orders.order f.delays w.order;
    })

-- the words say accepted ids
ids-said : (s : List ℕ) (t : Told) → Says s t → SoundTold t → ids_keep s first_id_word (ids_of s) ≡ true
ids-said s t w f =
    let d = (whole-lists t.lists f.lists).ids in
    rw w.ids (ids-keep t.lists.ids s 0 first_id_word (length t.lists.ids / id_words) (λ p h j g. w.id p h j g) d.keeps)

-- the marks of a channel, in one word
mark-few : (x : Peer) → mark_told x < 2
unfolding mark_told
mark-few no_peer = omega arith
mark-few (peer handle minor) = omega arith

marks-few : (ps : ℕ → Peer) (n : ℕ) → marks_told ps n < 2 ^ n
unfolding marks_told
marks-few ps zero = omega arith
marks-few ps (suc n) = rw (pow-suc 2 n) (twice (mark_told (ps n)) (2 ^ n) (marks_told ps n) (mark-few (ps n)) (marks-few ps n))
  where
    twice : (x m w : ℕ) → x < 2 → w < m → x * m + w < m * 2
    twice zero m w h l = omega arith
    twice (suc zero) m w h l = omega arith
    twice (suc (suc x)) m w h l = absurd (omega arith)

marks-bit : (ps : ℕ → Peer) (n p : ℕ) → p < n → bit_of (marks_told ps n) p ≡ mark_told (ps p)
unfolding marks_told
marks-bit ps zero p h = absurd (omega arith)
marks-bit ps (suc n) p h = go (λ l. marks-bit ps n p l) (eqb p n) refl
  where
    go : (p < n → bit_of (marks_told ps n) p ≡ mark_told (ps p)) → (b : Bool) → eqb p n ≡ b → bit_of (mark_told (ps n) * 2 ^ n + marks_told ps n) p ≡ mark_told (ps p)
    go so true e = rw (eqb-true p n e) (top_bit (mark_told (ps n)) (marks_told ps n) n (mark-few (ps n)) (marks-few ps n))
    go so false e =
        let o = eqb-false p n e in
        low_bit (mark_told (ps n)) (marks_told ps n) n p (omega arith) ∙ so (omega arith)

-- and sound peer registrations
module _ (s : List ℕ) (t : Told) (w : Says s t) (f : SoundTold t) (c : ℕ) (h : c < channel_count) where
  mark-said : (mark handle minor : ℕ) (x : Peer) → SaysPeer mark handle minor x → mark ≡ mark_told x
  unfolding SaysPeer mark_told
  mark-said mark handle minor no_peer e = e
  mark-said mark handle minor (peer a b) e = e.0

  peers-count : (n : ℕ) → n ≤ most_ids → peers_below s c n ≡ peers_count (t.peers c) n
  unfolding peers_below peers_count
  peers-count zero b = refl
  peers-count (suc n) b = rw (peers-count n (omega arith), mark-said _ _ _ (t.peers c n) (w.peer c n h (omega arith)))

  peer-said : (p : ℕ) → p < most_ids → (x : Peer) → t.peers c p ≡ x → SaysPeer (peered_at s c p) (peer_handle_at s c p) (peer_minor_at s c p) x → Registration s (ready_at s c) c p
  unfolding SaysPeer
  peer-said p b no_peer e q = unpeered q
  peer-said p b (peer handle minor) e q =
      let x = f.peers c p handle minor h b e in
      let short : (0 < id_place + words_holding (id_bytes_in t.lists.ids 0 p)) = omega arith in
      peered q.0 (w.ready c h ∙ ap word_of x.on_ready) (rw w.ids x.listed) (rw q.1 x.low)
      (rw q.2 (unfold id_in in (rw (w.id p x.listed id_minor_place (omega arith)) (unfold id_in in x.most))))

  -- a mark is of a registration under the handle that the words have
  marked : (p : ℕ) → p < most_ids → peered_at s c p ≡ 1 → (x : Peer) → SaysPeer (peered_at s c p) (peer_handle_at s c p) (peer_minor_at s c p) x → x ≡ peer (peer_handle_at s c p) (peer_minor_at s c p)
  unfolding SaysPeer
  marked p b m no_peer q = absurd (omega arith)
  marked p b m (peer handle minor) q = rw (q.1, q.2)

  peers-said : peers_sound s (ready_at s c) c ≡ true
  peers-said =
      registrations-test s (ready_at s c) c
      (record {
        each = λ p b. peer-said p b (t.peers c p) refl (w.peer c p h b);
        apart = λ q p l b m n e.
            f.peers_differ c q p (peer_handle_at s c q) (peer_minor_at s c q) (peer_minor_at s c p) h l b
            (marked q (omega arith) m (t.peers c q) (w.peer c q h (omega arith)))
            (rw e (marked p b n (t.peers c p) (w.peer c p h b)));
        few = rw (peers-count most_ids (omega arith)) (f.peers_few c h);
      })

accepted-said : (s : List ℕ) (t : Told) → Says s t → SoundTold t → sound s ≡ true
accepted-said s t w f =
    sound-test s
    (record {
      base = base-said s t w f;
      removal = removes-said s t w f;
      counts = omega arith;
      devices = devices-said s t w f;
      orders = orders-said s t w f;
      ids = ids-said s t w f;
      peers = λ c h. peers-said s t w f c h;
    })

-- The words of a state. Those of a service:
service-words : (v : Stage) (stage handle minor : ℕ) → stage ≡ stage_told v → handle ≡ handle_told v → minor ≡ minor_told v → SaysService stage handle minor v
unfolding SaysService stage_told handle_told minor_told
service-words idle stage handle minor p q r = p
service-words (offered h) stage handle minor p q r = (p, q)
service-words (registered h m) stage handle minor p q r = (p, q, r)

below_other : (k n : ℕ) → k < suc n → (k ≡ n → ⊥) → k < n
below_other k n h d = omega (arith, d)

module _ (v : ℕ → Stage) (s : List ℕ) where
  services-length : (n : ℕ) → length (services_told v n s) ≡ length s
  unfolding services_told
  services-length zero = refl
  services-length (suc n) = service-length (services_told v n s) n _ _ _ ∙ services-length n

  services-frame : (n j : ℕ) → (first_stage_word ≤ j → j < first_stage_word + n * service_words → ⊥) → get_or (services_told v n s) j 0 ≡ get_or s j 0
  unfolding services_told
  services-frame zero j h = refl
  services-frame (suc n) j h =
      service-frame (services_told v n s) n _ _ _ j (λ p q. h (omega arith) (omega arith))
      ∙ services-frame n j (λ p q. h p (omega arith))

  services-word : (n : ℕ) → n ≤ place_count → length s ≡ state_words → (k : ℕ) → k < n → (i : ℕ) → i < service_words → get_or (services_told v n s) (first_stage_word + k * service_words + i) 0 ≡ get_or (stage_told (v k) ∷ handle_told (v k) ∷ minor_told (v k) ∷ []) i 0
  unfolding services_told
  services-word zero le size k h i b = absurd (omega arith)
  services-word (suc n) le size k h i b = go (λ l. services-word n (omega arith) size k l i b) (eqb k n) refl
    where
      go : (k < n → get_or (services_told v n s) (first_stage_word + k * service_words + i) 0 ≡ get_or (stage_told (v k) ∷ handle_told (v k) ∷ minor_told (v k) ∷ []) i 0) → (x : Bool) → eqb k n ≡ x → get_or (services_told v (suc n) s) (first_stage_word + k * service_words + i) 0 ≡ get_or (stage_told (v k) ∷ handle_told (v k) ∷ minor_told (v k) ∷ []) i 0
      go u true e = rw (eqb-true k n e) (service-word (services_told v n s) n _ _ _ (services-length n ∙ size) (omega arith) i b)
      go u false e =
          let d = eqb-false k n e in
          service-frame (services_told v n s) n _ _ _ (first_stage_word + k * service_words + i) (λ p q. d (omega arith))
          ∙ u (below_other k n h d)

module _ (t : Told) (f : SoundTold t) where
  whole : WholeLists t.lists
  whole = whole-lists t.lists f.lists

  flags : List ℕ
  flags = tabulate (λ c. word_of (t.ready c)) channel_count

  -- setup's words with the permissions and the order, and with the peer registrations
  permitted : List ℕ
  permitted = sets (setup_state t.lists) first_permission_word (orders_told t.orders)

  permitted-length : length permitted ≡ state_words
  unfolding permitted
  permitted-length = length-sets (setup_state t.lists) first_permission_word (orders_told t.orders) ∙ setup-length t.lists whole

  ordered : List ℕ
  ordered = sets permitted first_peer_word (peers_told t.peers)

  ordered-length : length ordered ≡ state_words
  unfolding ordered
  ordered-length = length-sets permitted first_peer_word (peers_told t.peers) ∙ permitted-length

  peers-length : length (peers_told t.peers) ≡ channel_count * peer_words
  unfolding peers_told
  peers-length = tabulate-length _ (channel_count * peer_words)

  opened : List ℕ
  opened = sets ordered 0 flags

  opened-length : length opened ≡ state_words
  unfolding opened
  opened-length = length-sets ordered 0 flags ∙ ordered-length

  opened-over : (j : ℕ) → channel_count ≤ j → get_or opened j 0 ≡ get_or ordered j 0
  unfolding opened flags
  opened-over j h =
      sets-above ordered flags 0 j (omega (arith, tabulate-length (λ (c : ℕ). word_of (t.ready c)) channel_count))

  -- below the peers' words
  opened-below : (j : ℕ) → channel_count ≤ j → j < first_peer_word → get_or opened j 0 ≡ get_or permitted j 0
  opened-below j h g = opened-over j h ∙ unfold ordered in (sets_below permitted (peers_told t.peers) first_peer_word j g)

  opened-above : (j : ℕ) → channel_count ≤ j → j < first_permission_word → get_or opened j 0 ≡ get_or (setup_state t.lists) j 0
  opened-above j h g = opened-below j h (omega arith) ∙ unfold permitted in (sets_below (setup_state t.lists) (orders_told t.orders) first_permission_word j g)

  opened-ids : (j : ℕ) → id_count_word ≤ j → j < first_peer_word → get_or opened j 0 ≡ get_or (setup_state t.lists) j 0
  opened-ids j h g =
      opened-below j (omega arith) g
      ∙ unfold permitted orders_told in (sets-above (setup_state t.lists) (orders_told t.orders) first_permission_word j (omega arith))

  opened-orders : (i : ℕ) → i < 4 → get_or opened (first_permission_word + i) 0 ≡ get_or (orders_told t.orders) i 0
  opened-orders i h =
      opened-below (first_permission_word + i) (omega arith) (omega arith)
      ∙ unfold permitted orders_told in (sets-at (setup_state t.lists) (orders_told t.orders) first_permission_word i (omega arith) (omega (arith, setup-length t.lists whole)))

  opened-peers : (i : ℕ) → i < channel_count * peer_words → get_or opened (first_peer_word + i) 0 ≡ get_or (peers_told t.peers) i 0
  opened-peers i h =
      opened-over (first_peer_word + i) (omega arith)
      ∙ unfold ordered in (sets-at permitted (peers_told t.peers) first_peer_word i (omega (arith, peers-length)) (omega (arith, peers-length, permitted-length)))

  opened-at : (c : ℕ) → c < channel_count → get_or opened c 0 ≡ word_of (t.ready c)
  unfolding opened ordered permitted flags
  opened-at c h =
      ap (λ (j : ℕ). get_or (sets ordered 0 flags) j 0) (omega arith)
      ∙ sets-at ordered flags 0 c
      (omega (arith, tabulate-length (λ (c : ℕ). word_of (t.ready c)) channel_count))
      (omega (arith, tabulate-length (λ (c : ℕ). word_of (t.ready c)) channel_count, ordered-length))
      ∙ tabulate-at (λ (c : ℕ). word_of (t.ready c)) channel_count c 0 h

  served : List ℕ
  served = services_told t.service place_count opened

  served-length : length served ≡ state_words
  unfolding served
  served-length = services-length t.service opened place_count ∙ opened-length

  low-length : length (low_told t) ≡ state_words
  unfolding low_told served opened ordered permitted flags
  low-length = counts-length served t.last t.held ∙ served-length

  -- all but the services and the counts
  low-frame : (j : ℕ) → (first_stage_word ≤ j → j < block_count_word → ⊥) → (last_word ≤ j → j < last_word + 2 → ⊥) → get_or (low_told t) j 0 ≡ get_or opened j 0
  unfolding low_told served opened ordered permitted flags
  low-frame j p q =
      counts-frame served t.last t.held j q ∙ services-frame t.service opened place_count j (λ a b. p a (omega arith))

  low-service : (k i : ℕ) → k < place_count → i < service_words → get_or (low_told t) (first_stage_word + k * service_words + i) 0 ≡ get_or (stage_told (t.service k) ∷ handle_told (t.service k) ∷ minor_told (t.service k) ∷ []) i 0
  unfolding low_told served opened ordered permitted flags
  low-service k i h b =
      counts-frame served t.last t.held (first_stage_word + k * service_words + i) (λ p q. omega arith)
      ∙ services-word t.service opened place_count (omega arith) opened-length k h i b

  arrays : Arrays (removal_told t.removal)
  unfolding removal_told
  arrays = search (tabulate-length)

  -- below the removal's words
  words-low : (j : ℕ) → j < outstanding_word → get_or (words_told t) j 0 ≡ get_or (low_told t) j 0
  unfolding words_told
  words-low j h = go t.outstanding
    where
      go : (b : Bool) → get_or (pick b (with_removal (low_told t) (removal_told t.removal)) (low_told t)) j 0 ≡ get_or (low_told t) j 0
      go true = unfold pick in removal-frame (low_told t) (removal_told t.removal) j h
      go false = unfold pick in refl

  -- and above them
  words-high : (j : ℕ) → first_numbered_word ≤ j → get_or (words_told t) j 0 ≡ get_or (low_told t) j 0
  unfolding words_told
  words-high j h = go t.outstanding
    where
      go : (b : Bool) → get_or (pick b (with_removal (low_told t) (removal_told t.removal)) (low_told t)) j 0 ≡ get_or (low_told t) j 0
      go true = unfold pick in removal-above (low_told t) (removal_told t.removal) low-length arrays j h
      go false = unfold pick in refl

  -- the devices' words are setup's
  words-given : (j : ℕ) → device_count_word ≤ j → j < first_permission_word → get_or (words_told t) j 0 ≡ get_or (setup_state t.lists) j 0
  words-given j h g = words-high j (omega arith) ∙ low-frame j (λ p q. omega arith) (λ p q. omega arith) ∙ opened-above j (omega arith) g

  words-orders : (i : ℕ) → i < 4 → get_or (words_told t) (first_permission_word + i) 0 ≡ get_or (orders_told t.orders) i 0
  words-orders i h =
      words-high (first_permission_word + i) (omega arith)
      ∙ low-frame (first_permission_word + i) (λ p q. omega arith) (λ p q. omega arith)
      ∙ opened-orders i h

  order-said : (o : Order) (order delay : ℕ) → order ≡ order_told o → delay ≡ delay_told o → SaysOrder order delay o
  unfolding SaysOrder order_told delay_told
  order-said no_order order delay p q = p
  order-said (shutdown d) order delay p q = (p, q)
  order-said panic order delay p q = p

  words-device : (i : ℕ) → i < length t.lists.devices / device_words → (j : ℕ) → j < name_place + words_holding (name_bytes_in t.lists.devices 0 i) → get_or (words_told t) (first_device_word + i * device_words + j) 0 ≡ get_or t.lists.devices (0 + i * device_words + j) 0
  words-device i h j g =
      let short = name-few t.lists.devices 0 i ((device-facts t.lists.devices 0 (length t.lists.devices / device_words) whole.devices.keeps).keeps i h) in
      let few = whole.devices.few in
      words-given (first_device_word + i * device_words + j) (omega arith) (omega arith) ∙ setup-device t.lists whole i h j (omega arith)

  -- the ids' are setup's, and those of peers
  words-ids : (j : ℕ) → id_count_word ≤ j → j < first_peer_word → get_or (words_told t) j 0 ≡ get_or (setup_state t.lists) j 0
  words-ids j h g = words-high j (omega arith) ∙ low-frame j (λ p q. omega arith) (λ p q. omega arith) ∙ opened-ids j h g

  words-id : (p : ℕ) → p < length t.lists.ids / id_words → (j : ℕ) → j < id_place + words_holding (id_bytes_in t.lists.ids 0 p) → get_or (words_told t) (first_id_word + p * id_words + j) 0 ≡ get_or t.lists.ids (0 + p * id_words + j) 0
  words-id p h j g =
      let short = id-few t.lists.ids 0 p ((id-facts t.lists.ids 0 (length t.lists.ids / id_words) whole.ids.keeps).keeps p h) in
      let few = whole.ids.few in
      words-ids (first_id_word + p * id_words + j) (omega arith) (omega arith) ∙ setup-id t.lists whole p h j g

  told_at : (c j : ℕ) → c < channel_count → j < peer_words → get_or (peers_told t.peers) (c * peer_words + j) 0 ≡ peer_word_told (t.peers c) j
  unfolding peers_told
  told_at c j h b =
      let x : (c * peer_words + j) / peer_words ≡ c = omega arith in
      let y : (c * peer_words + j) % peer_words ≡ j = omega arith in
      tabulate-at (λ j. peer_word_told (t.peers (j / peer_words)) (j % peer_words)) (channel_count * peer_words) (c * peer_words + j) 0 (omega arith)
      ∙ rw (x, y)

  words-peer : (c j k : ℕ) → c < channel_count → j < peer_words → k ≡ first_peer_word + (c * peer_words + j) → get_or (words_told t) k 0 ≡ peer_word_told (t.peers c) j
  words-peer c j k h b e =
      rw e
      (words-high (first_peer_word + (c * peer_words + j)) (omega arith)
      ∙ low-frame (first_peer_word + (c * peer_words + j)) (λ p q. omega arith) (λ p q. omega arith)
      ∙ opened-peers (c * peer_words + j) (omega arith)
      ∙ told_at c j h b)

  words-mark : (c p : ℕ) → c < channel_count → p < most_ids → peered_at (words_told t) c p ≡ mark_told (t.peers c p)
  words-mark c p h b =
      rw (words-peer c 0 (first_peer_word + c * peer_words) h (omega arith) (omega arith))
      (unfold peer_word_told pick in (marks-bit (t.peers c) most_ids p b))

  words-handle : (c p : ℕ) → c < channel_count → p < most_ids → peer_handle_at (words_told t) c p ≡ peer_handle_told (t.peers c p)
  unfolding peer_word_told pick
  words-handle c p h b =
      let x : mark_words + p - mark_words ≡ p = omega arith in
      words-peer c (mark_words + p) _ h (omega arith) (omega arith)
      ∙ rw (le-ltb (mark_words + p) mark_words (omega arith), lt-ltb (mark_words + p) (mark_words + most_ids) (omega arith), x)

  words-minor : (c p : ℕ) → c < channel_count → p < most_ids → peer_minor_at (words_told t) c p ≡ peer_minor_told (t.peers c p)
  unfolding peer_word_told pick
  words-minor c p h b =
      let x : mark_words + most_ids + p - mark_words - most_ids ≡ p = omega arith in
      words-peer c (mark_words + most_ids + p) _ h (omega arith) (omega arith)
      ∙ rw (le-ltb (mark_words + most_ids + p) mark_words (omega arith), le-ltb (mark_words + most_ids + p) (mark_words + most_ids) (omega arith), x)

  peer-words : (x : Peer) (mark handle minor : ℕ) → mark ≡ mark_told x → handle ≡ peer_handle_told x → minor ≡ peer_minor_told x → SaysPeer mark handle minor x
  unfolding SaysPeer mark_told peer_handle_told peer_minor_told
  peer-words no_peer mark handle minor p q r = p
  peer-words (peer h m) mark handle minor p q r = (p, q, r)

  words-removal : t.outstanding ≡ true → words_told t ≡ with_removal (low_told t) (removal_told t.removal)
  unfolding words_told
  words-removal o = pick_true _ _ _ o

  words-length : length (words_told t) ≡ state_words
  unfolding words_told
  words-length = go t.outstanding
    where
      go : (b : Bool) → length (pick b (with_removal (low_told t) (removal_told t.removal)) (low_told t)) ≡ state_words
      go true = unfold pick in removal-length (low_told t) (removal_told t.removal) ∙ low-length
      go false = unfold pick in low-length

  words-service : (k i j : ℕ) → k < place_count → i < service_words → j ≡ first_stage_word + k * service_words + i → get_or (words_told t) j 0 ≡ get_or (stage_told (t.service k) ∷ handle_told (t.service k) ∷ minor_told (t.service k) ∷ []) i 0
  words-service k i j h b e = rw e (words-low (first_stage_word + k * service_words + i) (omega arith) ∙ low-service k i h b)

  words-outstanding : (b : Bool) → t.outstanding ≡ b → outstanding_of (words_told t) ≡ word_of b
  unfolding words_told
  words-outstanding true o = rw (pick_true _ _ _ o) (head-back (low_told t) (removal_told t.removal) low-length arrays 0 (omega arith))
  words-outstanding false o =
      rw (pick-false _ _ _ o)
      (low-frame outstanding_word (λ p q. omega arith) (λ p q. omega arith)
      ∙ opened-above outstanding_word (omega arith) (omega arith)
      ∙ setup-high t.lists whole outstanding_word (omega arith) (omega arith)
      ∙ get_or-replicate {A = ℕ} state_words outstanding_word 0 0 (omega arith))

  removal-said-by : t.outstanding ≡ true → SaysRemoval (removal_of (words_told t)) t.removal
  unfolding removal_told
  removal-said-by o =
      let g = f.removes o in
      rw (words-removal o, removal-back (low_told t) (removal_told t.removal) low-length arrays)
      (record {
        channel = refl;
        handle = refl;
        request = refl;
        count = refl;
        position = refl;
        collected = refl;
        address = λ i h. tabulate-at (λ (i : ℕ). get_or t.removal.address i 0) most_records i 0 (omega (arith, g.few));
        size = λ i h. tabulate-at (λ (i : ℕ). get_or t.removal.size i 0) most_records i 0 (omega (arith, g.few));
        result = λ i h. tabulate-at (λ (i : ℕ). get_or t.removal.result i 0) most_records i 0 (omega (arith, g.few, g.within));
      })

  last-said : last_of (low_told t) ≡ t.last
  unfolding low_told served opened ordered permitted flags
  last-said = last-counts served t.last t.held served-length

  held-said : held_of (low_told t) ≡ t.held
  unfolding low_told served opened ordered permitted flags
  held-said = held-counts served t.last t.held served-length

  told-flag : word_of (removal_told t.removal).cancelled ≡ word_of t.removal.cancelled
  unfolding removal_told
  told-flag = refl

  words-said : Says (words_told t) t
  words-said = record {
    ready = λ c h. words-low c (omega arith) ∙ low-frame c (λ p q. omega arith) (λ p q. omega arith) ∙ opened-at c h;
    service = λ k h. service-words (t.service k) _ _ _ (words-service k 0 _ h (omega arith) (omega arith)) (words-service k 1 _ h (omega arith) (omega arith)) (words-service k 2 _ h (omega arith) (omega arith));
    count = words-low block_count_word (omega arith) ∙ low-frame block_count_word (λ p q. omega arith) (λ p q. omega arith) ∙ opened-above block_count_word (omega arith) (omega arith) ∙ setup-count t.lists whole;
    block = λ i h.
        block_same (setup_state t.lists) (words_told t) i (omega (arith, whole.blocks.few))
        (λ j lo hi. words-low j (omega arith) ∙ low-frame j (λ p q. omega arith) (λ p q. omega arith) ∙ opened-above j (omega arith) (omega arith))
        ∙ setup-block t.lists whole i h;
    devices = words-given device_count_word (omega arith) (omega arith) ∙ setup-devices t.lists whole;
    device = words-device;
    last = words-low last_word (omega arith) ∙ last-said;
    held = words-low held_word (omega arith) ∙ held-said;
    outstanding = words-outstanding t.outstanding refl;
    cancelled = λ o. rw (words-removal o) (head-back (low_told t) (removal_told t.removal) low-length arrays 1 (omega arith) ∙ told-flag);
    removal = removal-said-by;
    shutdowns = words-orders 0 (omega arith) ∙ unfold orders_told in refl;
    panics = words-orders 1 (omega arith) ∙ unfold orders_told in refl;
    order = order-said t.orders.order _ _ (words-orders 2 (omega arith) ∙ unfold orders_told in refl) (words-orders 3 (omega arith) ∙ unfold orders_told in refl);
    ids = words-ids id_count_word (omega arith) (omega arith) ∙ setup-ids t.lists whole;
    id = words-id;
    peer = λ c p h b. peer-words (t.peers c p) _ _ _ (words-mark c p h b) (words-handle c p h b) (words-minor c p h b);
  }

pub encoding : EncodingHolds
encoding = record { said = λ t f. (words-said t f, words-length t f); accepted = accepted-said }
