-- The effects of what a peer registers, ends and sends to its services, as Effects.antt shows of each.
-- Assumes nothing.
use Prim.Native.Nat.{ℕ, ◌+◌, ◌≤◌, ◌<◌}
use native.Mathlib.Omega.{arith}
use mathlib.Core.Path.{◌≡◌, refl, sym, ◌∙◌}
use mathlib.Core.Bool.{Bool, true, false}
use mathlib.Core.List.{List, []}
use lib.ListN.{length}
use lib.Dec.{leb}
use borrow.Author.Tests.{leb-false, eqb-false, not-true}
use Rattle.basics.specs.Choice.{pick, ◌or◌, is_found, first_below}
use Rattle.model.specs.declared.Event.{Event}
use Rattle.model.specs.Layout.{channel_count, first_id_word, first_peer_word, ready_at, last_of, output_bytes, most_ids, most_peers, service_count, stage_idle, highest_minor, ids_of, id_at, peered_at, with_peer, without_peer}
use Rattle.model.specs.Peers.{top_bit, is_peered, peered_as, peer_for, peers_below, listed_id}
use Rattle.model.specs.Devices.{same_name}
use Rattle.model.specs.Journal.{peer_registered_event, peer_ended_event, peer_data_event, kind_ordered, fields_of}
use Rattle.model.specs.Messages.{effect, reg_handle, reg_id, reg_ack, unreg_ack, id_taken, is_duplicate, registering_at, registering, peer_unregistered, unregistered, live_as, live_for}
use Rattle.model.specs.Reading.{handle_in, read_in, settled_block, View, read_peers}
use Rattle.basics.proofs.Choice.{on-pick, on-first, both, or-false, clash}
use Rattle.model.proofs.Words.{Agree, peer-frame, peer-length, unpeer-frame, unpeer-length}
use Rattle.model.proofs.Peers.{PeerTurn, id-facts, id-minor}
use Rattle.effects.proofs.PeerTurns.{makes, ends, Registration, unpeered, peered, registrations}
use Rattle.model.proofs.Above.{sets_orders, orders-kept, orders-shown-same, after-orders}
use Rattle.model.proofs.Rules.{Given}
use Rattle.model.proofs.Turns.{aside}
use Rattle.effects.proofs.Events.{Fits, peer-registered-fits, peer-ended-fits, peer-data-fits}
use Rattle.effects.proofs.Needs.{peer-registered-needs, peer-ended-needs, peer-data-needs}
use Rattle.model.proofs.Replies.{short-empty, reg_ack-short, reg_nack-short, unreg_ack-short, unreg_nack-short}
use Rattle.effects.proofs.Effects.{Good, read_by, needed_by, next-number, high-changed, noting-good, ended-good}

-- Peer registrations changed, and nothing else.
module _ (s : List ℕ) (g : Given s) where
  peers-changed : (e : Event) (t reply : List ℕ) → length t ≡ length s → Agree s t 0 first_peer_word → Fits (last_of s + 1) e → ((v : View) → read_by s e v ≡ v) → length reply ≤ output_bytes → aside e.kind ≡ true → kind_ordered < e.kind → needed_by s e → PeerTurn s (effect e t reply) → Good s (effect e t reply)
  peers-changed e t reply size w f r short a above n x =
      high-changed s g e t reply size (λ j lo hi. w j lo (omega arith)) f r short a n
      (sets_orders (λ j lo hi. w j (omega arith) (omega arith)) (orders-kept s t (λ j lo hi. w j (omega arith) (omega arith)) g.facts.orders) (omega arith)
      (λ number. orders-shown-same s t (λ j lo hi. w j (omega arith) (omega arith)) ∙ sym (after-orders number e _ above)))
      x

  -- 24
  pub peer-data-good : (c : ℕ) → c < channel_count → Good s (effect (peer_data_event c) s [])
  unfolding fields_of read_in handle_in settled_block pick aside ◌or◌
  peer-data-good c h =
      peers-changed (peer_data_event c) s [] refl (λ j lo hi. refl) (peer-data-fits _ c (next-number s g) h) (λ x. refl) short-empty refl (omega arith) (peer-data-needs _ _ c)
      (record { ids = λ j lo hi. refl; sounds = g.facts.peers; reads = λ number. unfold read_peers in refl })

  -- 23, or UNREG_NACK
  pub peer-unregistered-good : (c handle : ℕ) → c < channel_count → ready_at s c ≡ 1 → Good s (peer_unregistered s c handle (peer_for s c handle))
  peer-unregistered-good c handle h ready =
      on-first (λ x. Good s (peer_unregistered s c handle x)) most_ids (peered_as s c handle)
      (λ p r. unfold peer_unregistered in (ended c handle p h r.below r.passes))
      (λ _. unfold peer_unregistered in (noting-good s g c _ _ h ready (unreg_nack-short handle)))
    where
      ended : (c handle p : ℕ) → c < channel_count → p < most_ids → peered_as s c handle p ≡ true → Good s (effect (peer_ended_event c handle) (without_peer s c p) (unreg_ack handle))
      ended c handle p h l has =
          unfold fields_of read_in handle_in settled_block pick aside ◌or◌ in
          (peers-changed (peer_ended_event c handle) (without_peer s c p) (unreg_ack handle) (unpeer-length s c p) (λ j lo hi. unpeer-frame s c p j (λ q. omega arith))
          (peer-ended-fits _ c (next-number s g) h handle) (λ x. refl) (unreg_ack-short handle) refl (omega arith) (peer-ended-needs _ _ c handle)
          (ends s g.size c p h l _ handle refl (λ number ps. unfold read_peers in refl) g.facts.peers has))

  -- 22: an id that is listed and not registered there, under a handle that is fresh
  peer-registered-good : (c p minor handle : ℕ) → c < channel_count → ready_at s c ≡ 1 → p < ids_of s → minor ≤ (id_at s p).minor → handle < top_bit → ((q : ℕ) → q < most_ids → peered_as s c handle q ≡ false) → is_peered s c p ≡ false → peers_below s c most_ids < most_peers → Good s (effect (peer_registered_event c p minor handle) (with_peer s c p handle minor) (reg_ack handle minor))
  unfolding fields_of read_in handle_in settled_block pick aside ◌or◌
  peer-registered-good c p minor handle h ready l most low none free few =
      let ids = id-facts s first_id_word (ids_of s) g.facts.ids in
      let b : p < most_ids = omega (arith, ids.few) in
      let m : minor ≤ highest_minor = omega (arith, id-minor s first_id_word p (ids.keeps p l)) in
      peers-changed (peer_registered_event c p minor handle) (with_peer s c p handle minor) (reg_ack handle minor) (peer-length s c p handle minor)
      (λ j lo hi. peer-frame s c p handle minor j (λ q. omega arith) (λ q. omega arith) (λ q. omega arith))
      (peer-registered-fits _ c (next-number s g) h p minor handle b m) (λ x. refl) (reg_ack-short handle minor) refl (omega arith) (peer-registered-needs _ _ c p minor handle)
      (makes s g.size c p handle minor h b _ refl (λ number ps. unfold read_peers in refl) g.facts.peers ready l low most none (unmarked ((registrations s (ready_at s c) c (g.facts.peers c h)).each p b)) few)
    where
      unmarked : Registration s (ready_at s c) c p → peered_at s c p ≡ 0
      unmarked (unpeered z) = z
      unmarked (peered m r i t n) = absurd (clash _ free (rw m))

  -- a test that is not found passes nowhere
  nowhere : (n : ℕ) (f : ℕ → Bool) → is_found (first_below n f) ≡ false → (q : ℕ) → q < n → f q ≡ false
  nowhere n f e q b =
      on-first (λ x. is_found x ≡ false → f q ≡ false) n f
      (λ i r z. absurd (clash _ z (unfold is_found in refl)))
      (λ none z. none q b)
      e

  registering-at-good : (c : ℕ) (m : List ℕ) → c < channel_count → ready_at s c ≡ 1 → reg_handle m < top_bit → ((q : ℕ) → q < most_ids → peered_as s c (reg_handle m) q ≡ false) → peers_below s c most_ids < most_peers → id_taken s c (listed_id s (reg_id m)) ≡ false → Good s (registering_at s c m (listed_id s (reg_id m)))
  unfolding listed_id
  registering-at-good c m h ready low none few free =
      on-first (λ x. id_taken s c x ≡ false → Good s (registering_at s c m x)) (ids_of s) (λ p. same_name (id_at s p).bytes (reg_id m))
      (λ p r z.
      unfold registering_at in
      (on-pick (Good s) _ _ _
      (λ _. peer-registered-good c p _ (reg_handle m) h ready r.below (omega arith) low none (unfold id_taken in z) few)
      (λ _. noting-good s g c _ _ h ready (reg_nack-short (reg_handle m) _ _))))
      (λ _ z. unfold registering_at in (noting-good s g c _ _ h ready (reg_nack-short (reg_handle m) _ _)))
      free

  pub registering-good : (c : ℕ) (m : List ℕ) → c < channel_count → ready_at s c ≡ 1 → Good s (registering s c m)
  unfolding registering is_duplicate
  registering-good c m h ready =
      on-pick (Good s) (is_duplicate s c m) _ _
      (λ _. noting-good s g c _ _ h ready (reg_nack-short (reg_handle m) _ _))
      (λ e. fresh e)
    where
      fresh : (leb top_bit (reg_handle m) or is_found (peer_for s c (reg_handle m)) or id_taken s c (listed_id s (reg_id m)) or leb most_peers (peers_below s c most_ids)) ≡ false → Good s (registering_at s c m (listed_id s (reg_id m)))
      fresh e =
          let x = or-false _ _ e in
          let y = or-false _ _ x.1 in
          let z = or-false _ _ y.1 in
          registering-at-good c m h ready (leb-false _ _ x.0) (nowhere most_ids (peered_as s c (reg_handle m)) y.0) (leb-false _ _ z.1) z.0

  -- UNREG: of ours, or of the peer's
  pub unregistered-good : (c handle : ℕ) → c < channel_count → ready_at s c ≡ 1 → Good s (unregistered s c handle (live_for s c handle))
  unregistered-good c handle h ready =
      on-first (λ x. Good s (unregistered s c handle x)) service_count (live_as s c handle)
      (λ v r. unfold unregistered in (ended-good s g c v _ h ready r.below (eqb-false _ stage_idle (not-true _ (both _ _ r.passes).0)) (unreg_ack-short handle)))
      (λ _. unfold unregistered in (peer-unregistered-good c handle h ready))
