-- A request of the virtual devices' service: its form, its response, and what it does.
-- Assumes nothing.
use Rattle.std.specs.Prelude.{Some, None}
use mathlib.Core.Path.{◌≡◌, refl, sym, ap, ◌∙◌}
use mathlib.Core.Bool.{true, false, not}
use mathlib.Core.List.{List, []}
use Prim.Native.Nat.{ℕ, ◌+◌, ◌-◌, ◌%◌, ◌<◌, ◌≤◌}
use native.Mathlib.Omega.{arith}
use lib.ListN.{length, set}
use lib.Seq.{sets}
use lib.Dec.{eqb}
use borrow.Author.Tests.{eq-eqb, ne_eqb, eqb-true, lt-ltb, ltb-true}
use Rattle.wire.specs.BigEndian.{byte_at, bytes_of, written}
use Rattle.wire.proofs.Laws.{bytes_low, sets-written}
use Rattle.model.specs.declared.DeviceOperation.{DeviceOperation}
use Rattle.model.specs.declared.Event.{Event}
use Rattle.basics.specs.Choice.{◌and◌, every, pick}
use Rattle.model.specs.Layout.{data_header_bytes, device_at, device_header_bytes, device_reply_bytes, device_service, devices_of, ds_header_bytes, first_device_word, most_devices, output_bytes, with_device}
use Rattle.model.specs.Journal.{answered_event, device_event}
use Rattle.model.specs.Messages.{DS-DATA, ds_data, ds_message}
use Rattle.model.specs.Devices.{devices_keep, named_device}
use Rattle.model.specs.DeviceRequests.{DR-VIO-RES-FAILURE, DR-VIO-RES-BLOCKED, DR-VIO-RES-OK, DR-VIO-STAT-NOT-PRESENT, answered_device, answering_device, asking_device, configured_after, device_asked, device_for, device_id, device_name, device_number, device_reply, device_result, device_status, device_type, has_name, operation_of}
use Rattle.model.specs.Handler.{Handles}
use Rattle.basics.proofs.Choice.{and-false, and-false-right, both, first-facts, join, pick-false, pick_true}
use Rattle.model.proofs.Replies.{device-short}
use Rattle.device_list.proofs.Names.{devices-few}

-- The form of a name.
module _ (b : List ℕ) where
  pub name-long : has_name b ≡ true → device_header_bytes < length b
  unfolding has_name
  name-long e = ltb-true _ _ (both _ _ e).0

  pub name-ends : has_name b ≡ true → byte_at b (length b - 1) ≡ 0
  unfolding has_name
  name-ends e = eqb-true _ 0 (both _ _ (both _ _ e).1).0

  -- where it is long enough and ends in a zero, the bytes before that decide
  pub name-last : device_header_bytes < length b → byte_at b (length b - 1) ≡ 0 → has_name b ≡ every (length b - 1 - device_header_bytes) (λ k. not (eqb (byte_at b (device_header_bytes + k)) 0))
  unfolding has_name ◌and◌
  name-last h z = rw (lt-ltb _ _ h, eq-eqb _ 0 z)

-- The response, field by field.
module _ (handle request result status : ℕ) (out : List ℕ) where
  pub response-stored : {o₁ o₂ o₃ o₄ o₅ o₆ : List ℕ} → output_bytes ≤ length out
      → o₁ ≡ sets out 0 (bytes_of 4 DS-DATA) → o₂ ≡ sets o₁ 4 (bytes_of 4 (data_header_bytes - ds_header_bytes + device_reply_bytes))
      → o₃ ≡ sets o₂ 8 (bytes_of 8 handle) → o₄ ≡ sets o₃ 16 (bytes_of 8 request)
      → o₅ ≡ sets o₄ 24 (bytes_of 4 (result % 4294967296)) → o₆ ≡ sets o₅ 28 (bytes_of 4 (status % 4294967296))
      → set o₆ 32 0 ≡ written (device_reply handle request result status) out
  response-stored {o₁} {o₂} {o₃} {o₄} {o₅} {o₆} room e₁ e₂ e₃ e₄ e₅ e₆ =
      stored (e₅ ∙ ap (sets o₄ 24) (bytes_low 4 result)) (e₆ ∙ ap (sets o₅ 28) (bytes_low 4 status))
      ∙ sets-written (device_reply handle request result status) out (omega (arith, device-short handle request result status))
    where
      stored : o₅ ≡ sets o₄ 24 (bytes_of 4 result) → o₆ ≡ sets o₅ 28 (bytes_of 4 status) → set o₆ 32 0 ≡ sets out 0 (device_reply handle request result status)
      stored f₅ f₆ = unfold device_reply ds_data ds_message bytes_of in rw (f₆, f₅, e₄, e₃, e₂, e₁)

  response-length : data_header_bytes + device_reply_bytes ≡ length (device_reply handle request result status)
  unfolding device_reply ds_data ds_message bytes_of
  response-length = refl

-- nothing is changed
pub refuse-handles : (s out : List ℕ) (c handle request result : ℕ) {e : Event} {out' : List ℕ} → out' ≡ written (device_reply handle request result DR-VIO-STAT-NOT-PRESENT) out → e ≡ answered_event c device_service result request → Handles (answering_device s c handle request result) out (data_header_bytes + device_reply_bytes) e s out'
unfolding answering_device
refuse-handles s out c handle request result w n =
    record { length' = response-length handle request result DR-VIO-STAT-NOT-PRESENT out; notes = n; state = refl; output = w }

-- The result for a known device: for a status request; and for a change that is not already made, where the mark decides.
module _ (o : DeviceOperation) (configured busy : ℕ) where
  abbrev result_for : ℕ
  result_for = device_result o (record { id = 0; configured = configured; busy = busy; name = [] })

  pub result-status : not o.changes ≡ true → DR-VIO-RES-OK ≡ result_for
  unfolding device_result
  result-status t = sym (pick_true _ _ _ t)

  module _ (t : not o.changes ≡ false) where
    pub result-already : configured ≡ o.configured → DR-VIO-RES-OK ≡ result_for
    unfolding device_result
    result-already e = sym (pick-false _ _ _ t ∙ pick_true _ _ _ (eq-eqb _ _ e))

    module _ (n : configured ≡ o.configured → ⊥) where
      past : result_for ≡ pick (o.blockable and eqb busy 1) DR-VIO-RES-BLOCKED DR-VIO-RES-OK
      unfolding device_result
      past = pick-false _ _ _ t ∙ pick-false _ _ _ (ne_eqb _ _ n)

      pub result-blocked : o.blockable ≡ true → busy ≡ 1 → DR-VIO-RES-BLOCKED ≡ result_for
      result-blocked b m = sym (past ∙ pick_true _ _ _ (join _ _ b (eq-eqb _ _ m)))

      pub result-forced : o.blockable ≡ false → DR-VIO-RES-OK ≡ result_for
      result-forced b = sym (past ∙ pick-false _ _ _ (and-false _ _ b))

      pub result-free : (busy ≡ 1 → ⊥) → DR-VIO-RES-OK ≡ result_for
      result-free m = sym (past ∙ pick-false _ _ _ (and-false-right _ _ (ne_eqb _ _ m)))

-- a known device asked for, by its two words
module _ (s out : List ℕ) (c handle request : ℕ) (o : DeviceOperation) (i : ℕ) {before busy result after status : ℕ}
    (b : before ≡ (device_at s i).configured) (m : busy ≡ (device_at s i).busy)
    (r : result ≡ device_result o (record { id = 0; configured = before; busy = busy; name = [] }))
    (a : after ≡ pick (o.changes and eqb result DR-VIO-RES-OK) o.configured before) (t : status ≡ device_status after) where
  result-is : device_result o (device_at s i) ≡ result
  unfolding device_result
  result-is = sym (r ∙ rw (b, m))

  after_is : configured_after o (device_at s i) ≡ after
  unfolding configured_after
  after_is = rw result-is (sym (a ∙ rw b))

  pub ask-handles : {e : Event} {s' out' : List ℕ} → out' ≡ written (device_reply handle request result status) out → s' ≡ with_device s i after → e ≡ device_event c result i after → Handles (asking_device s c handle request o i) out (data_header_bytes + device_reply_bytes) e s' out'
  unfolding asking_device
  ask-handles w st n =
      rw (result-is, after_is, ← t)
      (record { length' = response-length handle request result status out; notes = n; state = st; output = w })

-- a device found has a place
pub named-place : (s : List ℕ) (id : ℕ) (name : List ℕ) (i : ℕ) → devices_keep s first_device_word (devices_of s) ≡ true → named_device s id name ≡ Some i → i < most_devices
unfolding named_device
named-place s id name i e f =
    let h = (first-facts _ _ i f).below in
    omega (arith, devices-few s first_device_word (devices_of s) e)

-- A request's form: no name, no type, or both.
module _ (s : List ℕ) (c handle : ℕ) (b : List ℕ) {request : ℕ} (n : request ≡ device_number b) where
  pub no_name : has_name b ≡ false → answering_device s c handle request DR-VIO-RES-FAILURE ≡ answered_device s c handle b
  unfolding answered_device
  no_name z = ap (λ (k : ℕ). answering_device s c handle k DR-VIO-RES-FAILURE) n ∙ sym (pick-false _ _ _ z)

  pub no-type : has_name b ≡ true → operation_of (device_type b) ≡ None → answering_device s c handle request DR-VIO-RES-FAILURE ≡ answered_device s c handle b
  unfolding answered_device device_asked
  no-type h z = rw n (sym (pick_true _ _ _ h ∙ rw z))

  pub formed : {o : DeviceOperation} {id : ℕ} {name : List ℕ} → has_name b ≡ true → operation_of (device_type b) ≡ Some o → id ≡ device_id b → name ≡ device_name b → device_for s c handle request o (named_device s id name) ≡ answered_device s c handle b
  unfolding answered_device device_asked
  formed h z i m = rw (n, i, m) (sym (pick_true _ _ _ h ∙ rw z))
