-- The effects of a message received, as Effects.antt shows of each.
-- Assumes nothing.
use Rattle.std.specs.Prelude.{None}
use Prim.Native.Nat.{ℕ, ◌+◌, ◌≤◌, ◌<◌}
use native.Mathlib.Omega.{arith}
use mathlib.Core.Path.{◌≡◌, refl, sym}
use mathlib.Core.List.{List, []}
use mathlib.Core.Bool.{true}
use lib.Dec.{eqb}
use borrow.Author.Tests.{eqb-true}
use Rattle.wire.proofs.Laws.{number_bound}
use Rattle.model.specs.declared.Message.{Message}
use Rattle.model.specs.declared.Message.TheVariants.{InitReq, RegReq, RegAck, RegNack, Unreg, UnregAck, UnregNack, Data, Nack, Bad}
use Rattle.model.specs.Layout.{memory_service, device_service, place_of, ready_at, channel_count, highest_minor, last_of, place_count, most_ids, service_count, stage_registered, stage_at}
use Rattle.model.specs.Messages.{decoded, decoded_by_type, registered_as, registered_for, route, DS-INV-HDL, effect, nack}
use Rattle.model.specs.Calls.{data_for, peer_data, heard, hears, receiving, routed}
use Rattle.basics.specs.Choice.{pick, ◌or◌}
use Rattle.model.specs.Peers.{peered_as, peer_for}
use Rattle.model.specs.declared.Route.{Route}
use Rattle.model.specs.declared.Route.TheVariants.{Memory, Devices, Orders, Host}
use Rattle.basics.proofs.Choice.{on-pick, on-first, first-nowhere, both}
use Rattle.model.proofs.Rules.{Ours, live-rules, Given}
use Rattle.effects.proofs.Events.{delivered-fits, data-refused-fits}
use Rattle.model.proofs.Replies.{short-empty, nack-short}
use Rattle.effects.proofs.Effects.{Good, next-number, base-now, unchanged, closing-good, initiated-good, noting-good, acknowledged-good, not-acknowledged-good}
use Rattle.model.proofs.Turns.{aside}
use Rattle.effects.proofs.MemoryEffects.{memory-good}
use Rattle.effects.proofs.DeviceEffects.{devices-good}
use Rattle.effects.proofs.OrderEffects.{answered-order-good}
use Rattle.effects.proofs.PeerEffects.{peer-data-good, registering-good, unregistered-good}
use Rattle.model.specs.Journal.{delivered_event, fields_of, data_refused_event}
use Rattle.model.specs.Reading.{handle_in, read_in, settled_block, view_of}
use Rattle.model.specs.Replay.{shows_ready, shows_stage, is_registered}
use Rattle.model.proofs.Shown.{shows-none, shows-open, shows-test, registered-here}
use Rattle.effects.proofs.Needs.{delivered-needs, data-refused-needs}

-- versions are numbers of 16 bits
abbrev Versions : Message → Type 0
Versions (InitReq major) = major ≤ highest_minor
Versions (RegReq handle) = Unit {0}
Versions (RegAck handle minor) = minor ≤ highest_minor
Versions (RegNack handle) = Unit {0}
Versions (Unreg handle) = Unit {0}
Versions UnregAck = Unit {0}
Versions UnregNack = Unit {0}
Versions (Data handle) = Unit {0}
Versions Nack = Unit {0}
Versions Bad = Unit {0}

versions : (m : List ℕ) → Versions (decoded m)
unfolding decoded decoded_by_type
versions m =
    on-pick Versions _ _ _
    (λ _. on-pick Versions _ _ _ (λ _. omega (arith, number_bound m 8 2))
    (λ _. on-pick Versions _ _ _ (λ _. tt)
    (λ _. on-pick Versions _ _ _ (λ _. omega (arith, number_bound m 16 2))
    (λ _. on-pick Versions _ _ _ (λ _. tt)
    (λ _. on-pick Versions _ _ _ (λ _. tt)
    (λ _. on-pick Versions _ _ _ (λ _. tt)
    (λ _. on-pick Versions _ _ _ (λ _. tt)
    (λ _. on-pick Versions _ _ _ (λ _. tt)
    (λ _. on-pick Versions _ _ _ (λ _. tt) (λ _. tt))))))))))
    (λ _. tt)

-- The service that a route is of, where it is answered inside.
abbrev Routed : ℕ → Route → Type 0
Routed v Memory = v ≡ memory_service
Routed v Devices = v ≡ device_service
Routed v Orders = Unit {0}
Routed v Host = Unit {0}

route-of : (v : ℕ) → Routed v (route v)
unfolding route
route-of v =
    on-pick (Routed v) _ _ _ (λ e. eqb-true v memory_service e)
    (λ _. on-pick (Routed v) _ _ _ (λ e. eqb-true v device_service e)
    (λ _. on-pick (Routed v) _ _ _ (λ _. tt) (λ _. tt)))

module _ (s : List ℕ) (g : Given s) where
  delivered-good : (c v : ℕ) → c < channel_count → v < service_count → shows_ready (view_of s) c ≡ true → is_registered (shows_stage (view_of s) c v) ≡ true → Good s (effect (delivered_event c v) s [])
  unfolding read_in handle_in settled_block pick fields_of aside ◌or◌
  delivered-good c v h l r n =
      unchanged s g (delivered_event c v) [] (delivered-fits _ c (next-number s g) h v l) (λ x. refl) short-empty refl refl (delivered-needs _ _ c v r n)

  data-refused-good : (c handle : ℕ) → c < channel_count → ready_at s c ≡ 1 → registered_for s c handle ≡ None → Good s (effect (data_refused_event c handle) s (nack handle DS-INV-HDL))
  unfolding read_in handle_in settled_block pick fields_of aside ◌or◌
  data-refused-good c handle h ready e =
      unchanged s g (data_refused_event c handle) _ (data-refused-fits _ c (next-number s g) h handle) (λ v. refl) (nack-short handle _) refl refl
      (data-refused-needs _ _ c handle (shows-open s c h ready) (shows-none s g.facts.base c handle h e))

  -- no service of ours is registered under the handle
  peer-or-refused : (c handle : ℕ) → c < channel_count → ready_at s c ≡ 1 → registered_for s c handle ≡ None → Good s (peer_data s c handle (peer_for s c handle))
  unfolding peer_data
  peer-or-refused c handle h ready e =
      on-first (λ x. Good s (peer_data s c handle x)) most_ids (peered_as s c handle)
      (λ p r. peer-data-good s g c h)
      (λ _. data-refused-good c handle h ready e)

  routed-good : (c handle : ℕ) (payload : List ℕ) (v : ℕ) (x : Route) → Routed v x → c < channel_count → v < service_count → shows_ready (view_of s) c ≡ true → is_registered (shows_stage (view_of s) c v) ≡ true → Ours 0 (last_of s + 1) handle → Good s (routed s c handle payload v x)
  unfolding routed
  routed-good c handle payload v Memory q h l r n o = memory-good s g c handle payload (record { below = h; ready = r; shown = rw (sym q) n }) o
  routed-good c handle payload v Devices q h l r n o = devices-good s g c (record { below = h; ready = r; shown = rw (sym q) n }) handle payload
  routed-good c handle payload v Orders q h l r n o = answered-order-good s g c handle v payload h l
  routed-good c handle payload v Host q h l r n o = delivered-good c v h l r n

  data-good : (c handle : ℕ) (payload : List ℕ) → c < channel_count → ready_at s c ≡ 1 → Good s (data_for s c handle payload (registered_for s c handle))
  unfolding data_for
  data-good c handle payload h ready =
      on-first (λ x. Good s (data_for s c handle payload x)) service_count (registered_as s c handle)
      (λ v r.
      let p = both _ _ r.passes in
      let k : place_of c v < place_count = omega (arith, r.below) in
      let two : stage_at s (place_of c v) ≡ stage_registered = eqb-true _ stage_registered p.0 in
      let u = (live-rules _ _ _ _ _ (λ q. omega (arith, two)) ((base-now s g).services (place_of c v) k)).ours in
      routed-good c handle payload v (route v) (route-of v) h r.below
      (shows-open s c h ready)
      (shows-test s c h v r.below is_registered (registered-here s (place_of c v) two))
      (record { least = omega (arith, u.least, eqb-true _ handle p.1); most = omega (arith, u.most, eqb-true _ handle p.1) }))
      (λ none. peer-or-refused c handle h ready (first-nowhere service_count (registered_as s c handle) none))

  heard-good : (c : ℕ) (m : List ℕ) (x : Message) → c < channel_count → hears (eqb (ready_at s c) 1) x ≡ true → Versions x → Good s (heard s c m x)
  unfolding heard hears
  heard-good c m (InitReq major) h y v = initiated-good s g c major h v
  heard-good c m (RegReq handle) h y v = registering-good s g c m h (eqb-true _ 1 y)
  heard-good c m (RegAck handle minor) h y v = acknowledged-good s g c handle minor h (eqb-true _ 1 y) v
  heard-good c m (RegNack handle) h y v = not-acknowledged-good s g c handle h (eqb-true _ 1 y)
  heard-good c m (Unreg handle) h y v = unregistered-good s g c handle h (eqb-true _ 1 y)
  heard-good c m UnregAck h y v = noting-good s g c _ [] h (eqb-true _ 1 y) short-empty
  heard-good c m UnregNack h y v = noting-good s g c _ [] h (eqb-true _ 1 y) short-empty
  heard-good c m (Data handle) h y v = data-good c handle _ h (eqb-true _ 1 y)
  heard-good c m Nack h y v = noting-good s g c _ [] h (eqb-true _ 1 y) short-empty
  heard-good c m Bad h y v = closing-good s g c 1 h

  pub receiving-good : (c : ℕ) (m : List ℕ) → c < channel_count → Good s (receiving s c m)
  unfolding receiving
  receiving-good c m h =
      on-pick (Good s) _ _ _ (λ y. heard-good c m (decoded m) h y (versions m)) (λ _. closing-good s g c 1 h)
