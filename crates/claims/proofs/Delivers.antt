-- Data reaches a service exactly when the view shows its handle registered on the channel, and reaches that service.
-- Assumes nothing.
use Rattle.std.specs.Prelude.{Option, Some, None}
use Prim.Native.Nat.{ℕ, ◌+◌, ◌*◌, ◌/◌, ◌%◌, ◌≤◌, ◌<◌}
use native.Mathlib.Omega.{arith}
use mathlib.Core.Path.{◌≡◌, refl, sym, ap, ◌∙◌}
use mathlib.Core.Bool.{Bool, true, false, not}
use mathlib.Core.List.{List, []}
use lib.ListN.{length, get_or, drop}
use lib.Seq.{take-append_seam}
use lib.Dec.{ltb, eqb}
use borrow.Author.Tests.{eq-eqb, ne_eqb, le-leb, ltb-true, ltb-false, eqb-true, eqb-false}
use Rattle.wire.specs.BigEndian.{bytes_of, written}
use Rattle.basics.specs.Choice.{pick, ◌and◌, ◌or◌, first_below, is_found, is_at}
use Rattle.model.specs.declared.Event.{Event}
use Rattle.model.specs.declared.Message.TheVariants.{Data}
use Rattle.model.specs.Journal.{served_by, answered_event, code_none, data_refused_event, delivered_event, peer_data_event, kind_peer_data}
use Rattle.model.specs.Messages.{Effect, DS-INV-HDL, closing, decoded, decoded_by_type, ds_data, ds_message, effect, most_payload, nack, payload_fits, payload_length, registered_as, registered_for, route, well_formed, whole_message}
use Rattle.model.specs.Memory.{memory_reply, Progress, answered_memory, answering, answering_configure, answering_error, beginning, blocked, cancelling, configure_reply, configured_by, querying, reporting}
use Rattle.model.specs.Calls.{act, accepted, allowed, data_for, peer_data, effect_of, heard, hears, in_range, outcome, pages_of, receive, receiving, refusal_of, refused, routed}
use Rattle.model.specs.Devices.{named_device}
use Rattle.model.specs.declared.DeviceOperation.{DeviceOperation}
use Rattle.model.specs.DeviceRequests.{operation_of, device_number, device_id, device_type, device_name, device_reply, answering_device, asking_device, device_for, device_asked, answered_device}
use Rattle.model.specs.Orders.{order_number, order_reply, not_ordered, ordering, ordering_for, answered_order}
use Rattle.model.specs.Peers.{top_bit, is_peered, peered_as, peer_for}
use Rattle.model.specs.Reading.{view_of, no_peer, peer, peer_place, peers_shown, has_handle}
use Rattle.claims.specs.Demand3.{same_bytes, Delivers, WellFormedData, reached, reached_peer, reply_of, shows_peer}
use Rattle.model.specs.Reading.{shows_registered, shows_service}
use Rattle.basics.proofs.Choice.{clash, on-pick, on-first, first-nowhere, first-same, both, and-false-right, tabulate-at}
use Rattle.model.proofs.Shown.{shows-service, shows_first}
use Rattle.model.proofs.Rules.{Sound, live-rules}
use Rattle.effects.proofs.PeerTurns.{Registration, unpeered, peered, registrations}
use Rattle.effects.proofs.MemoryEffects.{on-memory, numbered}
use Rattle.effects.proofs.Taken.{Taken, taken}
use Rattle.model.proofs.Calls.{passed, on-act}
use Rattle.claims.proofs.Kept.{noted-is}
use Rattle.model.specs.Layout.{channel_count, data_header_bytes, handle_at, memory_service, device_service, shutdown_service, panic_service, place_count, place_of, ready_at, service_count, stage_at, stage_registered, state_words, most_ids, peered_at, peer_handle_at, peer_minor_at}

-- well-formed data is decoded as data under its handle
pub data-decoded : (m : List ℕ) (handle : ℕ) → WellFormedData m handle → decoded m ≡ Data handle
unfolding decoded well_formed whole_message payload_fits decoded_by_type pick ◌and◌
data-decoded m handle d =
    rw (
      eq-eqb (length m) _ d.whole,
      le-leb (payload_length m) most_payload d.bounded,
      d.is_data,
      le-leb 8 (payload_length m) d.has_handle,
      d.under,
    )

-- The service that an effect tells of, by its reply and its event.
unfoldable pub reached_by : ℕ → Effect → Option ℕ
reached_by handle e = pick (same_bytes e.reply (nack handle DS-INV-HDL)) None (served_by e.event)

-- the reply of an accepted call
pub reply-is : (s j out : List ℕ) (pages : ℕ) (e : Effect) → reply_of (accepted s j out pages e) ≡ e.reply
unfolding reply_of accepted written
reply-is s j out pages e = take-append_seam e.reply (drop (length e.reply) out)

-- the outcome tells what the effect tells
pub reached-of : (s j out : List ℕ) (pages : ℕ) (e : Effect) (t : Taken s j out e) (handle : ℕ) → reached handle (accepted s j out pages e) ≡ reached_by handle e
unfolding reached reached_by
reached-of s j out pages e t handle = rw (reply-is s j out pages e, noted-is s j out pages e t)

-- A registered service, and what is found.
module _ (s : List ℕ) (g : Sound s) where
  -- a registered service's words
  live : (c handle v : ℕ) → c < channel_count → v < service_count → registered_as s c handle v ≡ true → (stage_at s (place_of c v) ≡ stage_registered) × (handle_at s (place_of c v) ≡ handle) × (ready_at s c ≡ 1)
  live c handle v h l e =
      let p = both (eqb (stage_at s (place_of c v)) stage_registered) (eqb (handle_at s (place_of c v)) handle) e in
      let two : stage_at s (place_of c v) ≡ stage_registered = eqb-true (stage_at s (place_of c v)) stage_registered p.0 in
      let k : place_of c v < place_count = omega arith in
      let four : place_of c v / service_count ≡ c = omega arith in
      let u = rw four at (live-rules _ _ _ _ _ (λ q. omega (arith, two)) (g.base.services (place_of c v) k)) in
      (two, eqb-true _ handle p.1, u.is_ready)

  -- on a closed channel none is registered
  none-closed : (c handle v : ℕ) → c < channel_count → v < service_count → eqb (ready_at s c) 1 ≡ false → registered_as s c handle v ≡ false
  none-closed c handle v h l r = go (registered_as s c handle v) refl
    where
      go : (b : Bool) → registered_as s c handle v ≡ b → b ≡ false
      go true e = absurd (eqb-false _ 1 r (live c handle v h l e).2)
      go false e = refl

  -- no two services of a channel are registered under one handle
  apart : (c handle v w : ℕ) → c < channel_count → v < w → w < service_count → registered_as s c handle v ≡ true → registered_as s c handle w ≡ true → ⊥
  apart c handle v w h l k e f =
      let a = live c handle v h (omega arith) e in
      let b = live c handle w h k f in
      g.base.apart (place_of c v) (place_of c w) (omega arith) (omega arith)
      (λ q. omega (arith, a.0)) (λ q. omega (arith, b.0)) (a.1 ∙ sym b.1)

  -- the one that is found is the one that is registered
  found-one : (c handle v : ℕ) → c < channel_count → v < service_count → is_at v (registered_for s c handle) ≡ registered_as s c handle v
  found-one c handle v h l =
      on-first (λ x. is_at v x ≡ registered_as s c handle v) service_count (registered_as s c handle)
      (λ i r. unfold is_at in (go i r.below r.passes (eqb i v) refl (ltb i v) refl (registered_as s c handle v) refl))
      (λ none. unfold is_at in (sym (none v l)))
    where
      go : (i : ℕ) → i < service_count → registered_as s c handle i ≡ true → (x : Bool) → eqb i v ≡ x → (y : Bool) → ltb i v ≡ y → (z : Bool) → registered_as s c handle v ≡ z → x ≡ z
      go i b p true x y q true z = refl
      go i b p true x y q false z = absurd (clash _ z (ap (λ (k : ℕ). registered_as s c handle k) (sym (eqb-true i v x)) ∙ p))
      go i b p false x y q false z = refl
      go i b p false x true q true z = absurd (apart c handle i v h (ltb-true i v q) l p z)
      go i b p false x false q true z =
          let d = eqb-false i v x in
          absurd (apart c handle v i h (above i v (ltb-false i v q) d) b z p)
        where
          above : (a b : ℕ) → b ≤ a → (a ≡ b → ⊥) → b < a
          above a b m n = omega arith

-- A reply of the memory service is no NACK: they differ in the fourth byte.
memory-no-nack : (handle h type argument request : ℕ) (records : List ℕ) → same_bytes (memory_reply h type argument request records) (nack handle DS-INV-HDL) ≡ false
unfolding memory_reply ds_data ds_message nack bytes_of same_bytes ◌and◌
memory-no-nack handle h type argument request records = refl

device-no-nack : (handle h request result status : ℕ) → same_bytes (device_reply h request result status) (nack handle DS-INV-HDL) ≡ false
unfolding device_reply ds_data ds_message nack bytes_of same_bytes ◌and◌
device-no-nack handle h request result status = refl

order-no-nack : (handle h request result : ℕ) (reason : List ℕ) → same_bytes (order_reply h request result reason) (nack handle DS-INV-HDL) ≡ false
unfolding order_reply ds_data ds_message nack bytes_of same_bytes ◌and◌
order-no-nack handle h request result reason = refl

empty-no-nack : (handle : ℕ) → same_bytes [] (nack handle DS-INV-HDL) ≡ false
unfolding ds_message nack bytes_of same_bytes
empty-no-nack handle = refl

-- Every answer of the memory service tells of service 0, and its reply is no NACK.
record OfMemory (e : Effect) : Type 0 where
  serves : served_by e.event ≡ Some memory_service
  no_nack : (handle : ℕ) → same_bytes e.reply (nack handle DS-INV-HDL) ≡ false

-- its events
served-answered : (c v code request : ℕ) → served_by (answered_event c v code request) ≡ Some v
unfolding served_by pick ◌or◌
served-answered c v code request = refl

answering-of : (s : List ℕ) (c code request h type argument request' : ℕ) (records : List ℕ) → OfMemory (answering s c code request (memory_reply h type argument request' records))
unfolding answering
answering-of s c code request h type argument request' records = record {
  serves = served-answered c memory_service code request;
  no_nack = λ handle. memory-no-nack handle h type argument request' records;
}

configure-of : (p : Progress) (c h request : ℕ) (b : List ℕ) (n : ℕ) → OfMemory (answering_configure p c h request b n)
unfolding answering_configure configure_reply
configure-of p c h request b n =
    on-pick OfMemory _ _ _
    (λ e. answering-of p.state c _ request h _ n request _)
    (λ e. record { serves = unfold served_by pick ◌and◌ ◌or◌ in refl; no_nack = λ handle. memory-no-nack handle h _ n request _ })

beginning-of : (s : List ℕ) (c h request : ℕ) (b : List ℕ) (n : ℕ) → OfMemory (beginning s c h request b n)
unfolding beginning
beginning-of s c h request b n = record { serves = unfold served_by pick ◌and◌ ◌or◌ in refl; no_nack = empty-no-nack }

reporting-of : (s : List ℕ) (c h request : ℕ) → OfMemory (reporting s c h request)
unfolding reporting answering
reporting-of s c h request = record {
  serves = served-answered c memory_service code_none request;
  no_nack =
      λ handle.
      on-pick (λ (l : List ℕ). same_bytes l (nack handle DS-INV-HDL) ≡ false) _ _ _
      (λ e. memory-no-nack handle h _ _ request _)
      (λ e. memory-no-nack handle h _ _ request _);
}

cancelling-of : (s : List ℕ) (c h request : ℕ) → OfMemory (cancelling s c h request)
unfolding cancelling
cancelling-of s c h request =
    on-pick OfMemory _ _ _
    (λ e. record { serves = unfold served_by pick ◌and◌ ◌or◌ in refl; no_nack = λ handle. memory-no-nack handle h _ _ request _ })
    (λ e. answering-of s c _ request h _ _ request _)

memory-of : (s : List ℕ) (c h : ℕ) (b : List ℕ) → OfMemory (answered_memory s c h b)
unfolding blocked querying answering_error
memory-of s c h b =
    on-memory OfMemory s c h b
    (record {
      on_blocked = λ request n f. answering-of (numbered s c b) c _ request h _ n request _;
      on_configure = λ request n f o. configure-of (configured_by (numbered s c b) b n) c h request b n;
      on_unconfigure = λ request n f o. beginning-of (numbered s c b) c h request b n;
      on_query = λ request n f. answering-of (numbered s c b) c _ request h _ n request _;
      on_status = λ request. reporting-of (numbered s c b) c h request;
      on_cancel = λ request. cancelling-of (numbered s c b) c h request;
      on_error = λ request. answering-of (numbered s c b) c _ request h _ _ request _;
    })
    (answering-of s c _ _ h _ _ _ _)

-- what each route tells of
module _ (s : List ℕ) (c handle : ℕ) where
  memory-tells : (payload : List ℕ) → reached_by handle (answered_memory s c handle payload) ≡ Some memory_service
  unfolding reached_by pick
  memory-tells payload = let o = memory-of s c handle payload in rw (o.no_nack handle) o.serves

  -- every answer of the virtual devices' service tells of service 1, and its reply is no NACK
  devices-tell : (payload : List ℕ) → reached_by handle (answered_device s c handle payload) ≡ Some device_service
  unfolding answered_device
  devices-tell payload =
      on-pick (λ (e : Effect). reached_by handle e ≡ Some device_service) _ _ _
      (λ _. asked (operation_of (device_type payload)))
      (λ _. unfold answering_device in (told _ s _ _ _ (served-answered c device_service _ _)))
    where
      told : (e : Event) (t : List ℕ) (request result status : ℕ) → served_by e ≡ Some device_service → reached_by handle (effect e t (device_reply handle request result status)) ≡ Some device_service
      told e t request result status q = unfold reached_by pick in (rw (device-no-nack handle handle request result status) q)

      named : (o : DeviceOperation) (x : Option ℕ) → reached_by handle (device_for s c handle (device_number payload) o x) ≡ Some device_service
      named o (Some i) = unfold device_for asking_device in (told _ _ _ _ _ (unfold served_by pick ◌and◌ ◌or◌ in refl))
      named o None = unfold device_for answering_device in (told _ s _ _ _ (served-answered c device_service _ _))

      asked : (x : Option DeviceOperation) → reached_by handle (device_asked s c handle payload x) ≡ Some device_service
      asked (Some o) = unfold device_asked in (named o (named_device s (device_id payload) (device_name payload)))
      asked None = unfold device_asked answering_device in (told _ s _ _ _ (served-answered c device_service _ _))

  -- every answer of a service of orders tells of it
  orders-tell : (v : ℕ) (payload : List ℕ) → reached_by handle (answered_order s c handle v payload) ≡ Some v
  unfolding answered_order ordering_for
  orders-tell v payload =
      on-pick (λ (e : Effect). reached_by handle e ≡ Some v) _ _ _ (λ _. not_left _ _ _)
      (λ _. on-pick (λ (e : Effect). reached_by handle e ≡ Some v) _ _ _ (λ _. not_left _ _ _)
      (λ _. on-pick (λ (e : Effect). reached_by handle e ≡ Some v) _ _ _ (λ _. not_left _ _ _)
      (λ _. on-pick (λ (e : Effect). reached_by handle e ≡ Some v) _ _ _ (λ _. left _ _) (λ _. left _ _))))
    where
      not_left : (request result : ℕ) (reason : List ℕ) → reached_by handle (not_ordered s c handle v request result reason) ≡ Some v
      not_left request result reason =
          unfold not_ordered reached_by pick in (rw (order-no-nack handle handle request result reason) (unfold served_by pick ◌or◌ in refl))

      left : (order delay : ℕ) → reached_by handle (ordering s c handle v (order_number payload) order delay) ≡ Some v
      left order delay =
          unfold ordering reached_by pick in (rw (order-no-nack handle handle (order_number payload) _ []) (unfold served_by pick ◌or◌ in refl))

  host-tells : (v : ℕ) → reached_by handle (effect (delivered_event c v) s []) ≡ Some v
  unfolding reached_by served_by pick ◌or◌
  host-tells v = rw (empty-no-nack handle)

  none-tells : (e : Event) (reply : List ℕ) → served_by e ≡ None → reached_by handle (effect e s reply) ≡ None
  unfolding reached_by
  none-tells e reply q = on-pick (λ x. x ≡ None) _ _ _ (λ _. refl) (λ _. q)

  -- data that no service of ours is registered for
  peer-tells : (x : Option ℕ) → reached_by handle (peer_data s c handle x) ≡ None
  unfolding peer_data
  peer-tells (Some p) = none-tells (peer_data_event c) _ (unfold served_by pick ◌and◌ ◌or◌ in refl)
  peer-tells None = none-tells (data_refused_event c handle) _ (unfold served_by pick ◌and◌ ◌or◌ in refl)

  -- data, for the service that is found
  data-tells : (payload : List ℕ) (x : Option ℕ) → reached_by handle (data_for s c handle payload x) ≡ x
  unfolding data_for
  data-tells payload None = peer-tells (peer_for s c handle)
  data-tells payload (Some v) = go (eqb v memory_service) refl (eqb v device_service) refl (eqb v shutdown_service or eqb v panic_service) refl
    where
      go : (b : Bool) → eqb v memory_service ≡ b → (d : Bool) → eqb v device_service ≡ d → (o : Bool) → (eqb v shutdown_service or eqb v panic_service) ≡ o → reached_by handle (routed s c handle payload v (route v)) ≡ Some v
      go true z d y o x = unfold route pick routed in rw z (memory-tells payload ∙ ap Some (sym (eqb-true v memory_service z)))
      go false z true y o x = unfold route pick routed in rw (z, y) (devices-tell payload ∙ ap Some (sym (eqb-true v device_service y)))
      go false z false y true x = unfold route pick routed in rw (z, y, x) (orders-tell v payload)
      go false z false y false x = unfold route pick routed in rw (z, y, x) (host-tells v)

-- a message that closes the channel reaches no service
closing-tells : (s : List ℕ) (c by handle : ℕ) → reached_by handle (closing s c by) ≡ None
unfolding closing reached_by served_by
closing-tells s c by handle = on-pick (λ x. x ≡ None) _ _ _ (λ _. refl) (λ _. unfold pick ◌and◌ ◌or◌ in refl)

-- data on any channel
receiving-tells : (s : List ℕ) (g : Sound s) (c handle : ℕ) → c < channel_count → (m : List ℕ) → decoded m ≡ Data handle → reached_by handle (receiving s c m) ≡ registered_for s c handle
unfolding receiving heard hears
receiving-tells s g c handle h m d =
    rw d
    (on-pick (λ (e : Effect). reached_by handle e ≡ registered_for s c handle) _ _ _
    (λ r. data-tells s c handle _ (registered_for s c handle))
    (λ r.
    closing-tells s c 1 handle
    ∙ sym (first-nowhere service_count (registered_as s c handle) (λ v l. none-closed s g c handle v h l r))))

-- data that reached the memory service is answered by it
pub memory-answers : (s : List ℕ) (c handle : ℕ) (m : List ℕ) → WellFormedData m handle → reached_by handle (effect_of s (receive c m)) ≡ Some memory_service → effect_of s (receive c m) ≡ answered_memory s c handle (drop data_header_bytes m)
unfolding effect_of receiving heard hears
memory-answers s c handle m d =
    rw (data-decoded m handle d)
    (on-pick (λ (e : Effect). reached_by handle e ≡ Some memory_service → e ≡ answered_memory s c handle (drop data_header_bytes m)) _ _ _
    (λ r e. found (registered_for s c handle) (sym (data-tells s c handle _ (registered_for s c handle)) ∙ e))
    (λ r e. absurd (nowhere (sym (closing-tells s c 1 handle) ∙ e))))
  where
    found : (x : Option ℕ) → x ≡ Some memory_service → data_for s c handle (drop data_header_bytes m) x ≡ answered_memory s c handle (drop data_header_bytes m)
    found x e = unfold data_for route routed pick in rw e

    nowhere : None ≡ Some memory_service → ⊥
    nowhere e = let z : ◌≡◌ {A = ℕ} 0 1 = cc in omega arith

-- the data clause of an accepted receive
pub channel-within : (s j out : List ℕ) (c : ℕ) (m : List ℕ) → refusal_of s j out (receive c m) ≡ 0 → c < channel_count
unfolding refusal_of in_range
channel-within s j out c m z =
    ltb-true c channel_count (passed s (length j) (length out) (ltb c channel_count) (allowed s (receive c m)) z).is_within

received-tells : (s : List ℕ) (g : Sound s) (c handle : ℕ) → c < channel_count → (m : List ℕ) → WellFormedData m handle → reached_by handle (effect_of s (receive c m)) ≡ registered_for s c handle
unfolding effect_of
received-tells s g c handle h m d = receiving-tells s g c handle h m (data-decoded m handle d)

pub delivers : (s j : List ℕ) (c handle : ℕ) (m out : List ℕ) → length s ≡ state_words → WellFormedData m handle → (outcome s j (act (receive c m) out)).refusal ≡ 0 → Delivers (view_of s) c handle (outcome s j (act (receive c m) out))
unfolding shows_registered
delivers s j c handle m out size d =
    on-act (λ r. r.refusal ≡ 0 → Delivers (view_of s) c handle r) s j out (receive c m)
    (λ z _. yes-case z)
    (λ n q. absurd (n (unfold refused in q)))
  where
    yes-case : refusal_of s j out (receive c m) ≡ 0 → Delivers (view_of s) c handle (accepted s j out (pages_of s (receive c m)) (effect_of s (receive c m)))
    yes-case z =
        let t = taken s j out (receive c m) size z in
        let g = t.given.facts in
        let h = channel-within s j out c m z in
        let tells : reached handle (accepted s j out (pages_of s (receive c m)) (effect_of s (receive c m))) ≡ registered_for s c handle =
        reached-of s j out (pages_of s (receive c m)) (effect_of s (receive c m)) t handle ∙ received-tells s g c handle h m d in
        let same : first_below service_count (shows_service (view_of s) c handle) ≡ registered_for s c handle =
        shows_first s g.base c handle h in
        record {
          exactly = ap is_found (tells ∙ sym same);
          that_one = λ v l. ap (is_at v) tells ∙ found-one s g c handle v h l ∙ sym (shows-service s g.base c handle v h l);
        }

-- The same of a peer's services.
unfoldable pub reached_peer_by : ℕ → Effect → Bool
reached_peer_by handle e = not (same_bytes e.reply (nack handle DS-INV-HDL)) and eqb e.event.kind kind_peer_data

peer-reached-of : (s j out : List ℕ) (pages : ℕ) (e : Effect) (t : Taken s j out e) (handle : ℕ) → reached_peer handle (accepted s j out pages e) ≡ reached_peer_by handle e
unfolding reached_peer reached_peer_by
peer-reached-of s j out pages e t handle = rw (reply-is s j out pages e, noted-is s j out pages e t)

-- an entry of another kind
other-kind : (handle : ℕ) (e : Effect) → (e.event.kind ≡ kind_peer_data → ⊥) → reached_peer_by handle e ≡ false
unfolding reached_peer_by
other-kind handle e n = and-false-right _ _ (ne_eqb _ kind_peer_data n)

-- what reached one of our services is of another kind
ours-other : (handle v : ℕ) (e : Effect) → reached_by handle e ≡ Some v → e.event.kind ≡ kind_peer_data → ⊥
unfolding reached_by
ours-other handle v e r k =
    on-pick (λ (x : Option ℕ). x ≡ Some v → ⊥) (same_bytes e.reply (nack handle DS-INV-HDL)) None (served_by e.event) (λ _ q. no q)
    (λ _ q. no (sym none ∙ q)) r
  where
    no : None ≡ Some v → ⊥
    no q = let z : ◌≡◌ {A = ℕ} 0 1 = cc in omega arith

    none : served_by e.event ≡ None
    none = unfold served_by in (rw k (unfold pick ◌and◌ ◌or◌ in refl))

module _ (s : List ℕ) (g : Sound s) (c handle : ℕ) (h : c < channel_count) where
  -- a peer's handle lacks the top bit, and its channel is ready
  peer-low : (p : ℕ) → p < most_ids → peered_as s c handle p ≡ true → (handle < top_bit) × (ready_at s c ≡ 1)
  peer-low p l e =
      let x = both _ _ e in
      go (eqb-true _ 1 x.0) (eqb-true _ handle x.1) ((registrations s (ready_at s c) c (g.peers c h)).each p l)
    where
      go : peered_at s c p ≡ 1 → peer_handle_at s c p ≡ handle → Registration s (ready_at s c) c p → (handle < top_bit) × (ready_at s c ≡ 1)
      go m q (unpeered z) = absurd (omega arith)
      go m q (peered y r i t n) = (rw q at t, r)

  -- ours has it
  no-peer-ours : (v : ℕ) → v < service_count → registered_as s c handle v ≡ true → (p : ℕ) → p < most_ids → peered_as s c handle p ≡ false
  no-peer-ours v l e p b = go (peered_as s c handle p) refl
    where
      go : (x : Bool) → peered_as s c handle p ≡ x → x ≡ false
      go false q = refl
      go true q =
          let a = live s g c handle v h l e in
          let k : place_of c v < place_count = omega arith in
          let u = (live-rules _ _ _ _ _ (λ z. omega (arith, a.0)) (g.base.services (place_of c v) k)).ours in
          absurd (omega (arith, u.least, a.1, (peer-low p b q).0))

  no-peer-closed : eqb (ready_at s c) 1 ≡ false → (p : ℕ) → p < most_ids → peered_as s c handle p ≡ false
  no-peer-closed r p b = go (peered_as s c handle p) refl
    where
      go : (x : Bool) → peered_as s c handle p ≡ x → x ≡ false
      go false q = refl
      go true q = absurd (eqb-false _ 1 r (peer-low p b q).1)

  found_none : ((p : ℕ) → p < most_ids → peered_as s c handle p ≡ false) → false ≡ is_found (peer_for s c handle)
  found_none n = unfold is_found in (rw (first-nowhere most_ids (peered_as s c handle) n))

  peer-data-tells : (x : Option ℕ) → reached_peer_by handle (peer_data s c handle x) ≡ is_found x
  unfolding peer_data is_found
  peer-data-tells (Some p) = unfold reached_peer_by ◌and◌ in (rw (empty-no-nack handle))
  peer-data-tells None = other-kind handle (effect (data_refused_event c handle) s (nack handle DS-INV-HDL)) (λ q. omega arith)

  data-tells-peer : (payload : List ℕ) → reached_peer_by handle (data_for s c handle payload (registered_for s c handle)) ≡ is_found (peer_for s c handle)
  data-tells-peer payload =
      on-first (λ x. reached_peer_by handle (data_for s c handle payload x) ≡ is_found (peer_for s c handle)) service_count (registered_as s c handle)
      (λ v r. other-kind handle (data_for s c handle payload (Some v)) (ours-other handle v _ (data-tells s c handle payload (Some v))) ∙ found_none (no-peer-ours v r.below r.passes))
      (λ _. unfold data_for in (peer-data-tells (peer_for s c handle)))

  receiving-tells-peer : (m : List ℕ) → decoded m ≡ Data handle → reached_peer_by handle (receiving s c m) ≡ is_found (peer_for s c handle)
  unfolding receiving heard hears
  receiving-tells-peer m d =
      rw d
      (on-pick (λ (e : Effect). reached_peer_by handle e ≡ is_found (peer_for s c handle)) _ _ _
      (λ r. data-tells-peer _)
      (λ r. other-kind handle (closing s c 1) closing-other ∙ found_none (no-peer-closed r)))
    where
      closing-other : (closing s c 1).event.kind ≡ kind_peer_data → ⊥
      closing-other = unfold closing in (λ q. omega arith)

  -- what is shown is what is registered
  shows-peered : (p : ℕ) → p < most_ids → has_handle handle (get_or (peers_shown s) (peer_place c p) no_peer) ≡ peered_as s c handle p
  unfolding peers_shown
  shows-peered p b =
      let x : (c * most_ids + p) / most_ids ≡ c = omega arith in
      let y : (c * most_ids + p) % most_ids ≡ p = omega arith in
      ap (has_handle handle) (tabulate-at _ (channel_count * most_ids) (peer_place c p) no_peer (omega arith))
      ∙ rw (x, y) (go (is_peered s c p))
    where
      go : (x : Bool) → has_handle handle (pick x (peer (peer_handle_at s c p) (peer_minor_at s c p)) no_peer) ≡ (x and eqb (peer_handle_at s c p) handle)
      go true = unfold has_handle pick ◌and◌ in refl
      go false = unfold has_handle pick ◌and◌ in refl

  shows-peer : shows_peer (peers_shown s) c handle ≡ is_found (peer_for s c handle)
  unfolding shows_peer
  shows-peer = ap is_found (first-same most_ids (peered_as s c handle) _ shows-peered)

pub delivers-peer : (s j : List ℕ) (c handle : ℕ) (m out : List ℕ) → length s ≡ state_words → WellFormedData m handle → (outcome s j (act (receive c m) out)).refusal ≡ 0 → reached_peer handle (outcome s j (act (receive c m) out)) ≡ shows_peer (peers_shown s) c handle
delivers-peer s j c handle m out size d =
    on-act (λ r. r.refusal ≡ 0 → reached_peer handle r ≡ shows_peer (peers_shown s) c handle) s j out (receive c m)
    (λ z _. yes-case z)
    (λ n q. absurd (n (unfold refused in q)))
  where
    yes-case : refusal_of s j out (receive c m) ≡ 0 → reached_peer handle (accepted s j out (pages_of s (receive c m)) (effect_of s (receive c m))) ≡ shows_peer (peers_shown s) c handle
    yes-case z =
        let t = taken s j out (receive c m) size z in
        let g = t.given.facts in
        let h = channel-within s j out c m z in
        peer-reached-of s j out (pages_of s (receive c m)) (effect_of s (receive c m)) t handle
        ∙ unfold effect_of in (receiving-tells-peer s g c handle h m (data-decoded m handle d))
        ∙ sym (shows-peer s g c handle h)
