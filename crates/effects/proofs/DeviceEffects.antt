-- The effects of the virtual devices' service, as Effects.antt shows of each.
-- Assumes nothing.
use Rattle.std.specs.Prelude.{Option, Some, None}
use Prim.Native.Nat.{ℕ, ◌≤◌, ◌<◌}
use native.Mathlib.Omega.{arith}
use mathlib.Core.Path.{◌≡◌, refl}
use mathlib.Core.Bool.{true}
use mathlib.Core.List.{List}
use lib.ListN.{length}
use Rattle.basics.specs.Choice.{pick, ◌or◌}
use Rattle.model.specs.declared.DeviceOperation.{DeviceOperation}
use Rattle.model.specs.Layout.{channel_count, device_service, Device, device_at, devices_of, first_device_word, with_device, output_bytes}
use Rattle.model.specs.Devices.{named_device}
use Rattle.model.specs.DeviceRequests.{operation_of, device_result, configured_after, device_type, device_number, device_id, device_name, answering_device, asking_device, device_for, device_asked, answered_device}
use Rattle.model.specs.Journal.{answered_event, device_event, fields_of}
use Rattle.model.specs.Messages.{effect}
use Rattle.model.specs.Reading.{handle_in, read_in, settled_block, view_of}
use Rattle.model.specs.Replay.{shows_ready, shows_stage, is_registered}
use Rattle.basics.proofs.Choice.{on-pick, first-facts}
use Rattle.model.proofs.Words.{device-frame, device-length}
use Rattle.model.proofs.Devices.{device-facts, flag-few}
use Rattle.model.proofs.Peers.{leaves_peers}
use Rattle.model.proofs.Above.{asks_device}
use Rattle.model.proofs.Rules.{Given}
use Rattle.model.proofs.Turns.{aside}
use Rattle.effects.proofs.Events.{code_end, answered-fits, device-fits}
use Rattle.effects.proofs.Needs.{answered-needs, device-needs}
use Rattle.model.proofs.Replies.{device-short}
use Rattle.effects.proofs.Effects.{Good, next-number, unchanged, high-changed}

-- a device that is named is one of the state's
device-less : (s : List ℕ) (id : ℕ) (name : List ℕ) (i : ℕ) → named_device s id name ≡ Some i → i < devices_of s
unfolding named_device
device-less s id name i e = (first-facts (devices_of s) _ i e).below

-- a request asks for 0 or 1, and so does what it leaves
abbrev Flagged : Option DeviceOperation → Type 0
Flagged (Some o) = o.configured ≤ 1
Flagged None = Unit

operation-flag : (type : ℕ) → Flagged (operation_of type)
unfolding operation_of
operation-flag type =
    on-pick Flagged _ _ _ (λ _. omega arith)
    (λ _. on-pick Flagged _ _ _ (λ _. omega arith)
    (λ _. on-pick Flagged _ _ _ (λ _. omega arith)
    (λ _. on-pick Flagged _ _ _ (λ _. omega arith) (λ _. tt))))

after-flag : (o : DeviceOperation) (d : Device) → o.configured ≤ 1 → d.configured ≤ 1 → configured_after o d ≤ 1
unfolding configured_after
after-flag o d p q = on-pick (λ (n : ℕ). n ≤ 1) _ _ _ (λ _. p) (λ _. q)

result-small : (o : DeviceOperation) (d : Device) → device_result o d < code_end
unfolding device_result
result-small o d =
    on-pick (λ (n : ℕ). n < code_end) _ _ _ (λ _. omega arith)
    (λ _. on-pick (λ (n : ℕ). n < code_end) _ _ _ (λ _. omega arith)
    (λ _. on-pick (λ (n : ℕ). n < code_end) _ _ _ (λ _. omega arith) (λ _. omega arith)))

-- data has reached the service on a ready channel
pub record ReachesDevices (s : List ℕ) (c : ℕ) : Type 0 where
  pub below : c < channel_count
  pub ready : shows_ready (view_of s) c ≡ true
  pub shown : is_registered (shows_stage (view_of s) c device_service) ≡ true

module _ (s : List ℕ) (g : Given s) (c : ℕ) (h : ReachesDevices s c) where
  -- 10
  answering-good : (handle request result : ℕ) → result < code_end → Good s (answering_device s c handle request result)
  unfolding answering_device fields_of read_in handle_in settled_block pick aside ◌or◌
  answering-good handle request result k =
      unchanged s g (answered_event c device_service result request) _ (answered-fits _ c (next-number s g) h.below device_service result request (omega arith) k)
      (λ v. refl) (device-short handle request result _) refl refl (answered-needs _ _ c device_service result request h.ready h.shown)

  -- 18: one device's flag, and nothing else
  device-changed : (result i flag : ℕ) (reply : List ℕ) → result < code_end → i < devices_of s → flag ≤ 1 → length reply ≤ output_bytes → Good s (effect (device_event c result i flag) (with_device s i flag) reply)
  unfolding fields_of read_in handle_in settled_block pick aside ◌or◌
  device-changed result i flag reply k l small short =
      let e = device-frame s i flag in
      let few = (device-facts s first_device_word (devices_of s) g.facts.devices).few in
      high-changed s g (device_event c result i flag) (with_device s i flag) reply (device-length s i flag) (λ j lo hi. e j (λ p q. omega arith))
      (device-fits _ c (next-number s g) h.below result i flag k (omega arith)) (λ v. refl) short refl (device-needs _ _ c result i flag)
      (asks_device i flag l small (λ j lo hi. refl) refl refl refl)
      (leaves_peers s (effect (device_event c result i flag) (with_device s i flag) reply) g.facts.peers (λ j lo hi. e j (λ p q. omega arith)) (λ j lo hi. e j (λ p q. omega arith)) (omega arith) (omega arith))

  asking-good : (handle request : ℕ) (o : DeviceOperation) (i : ℕ) → o.configured ≤ 1 → i < devices_of s → Good s (asking_device s c handle request o i)
  unfolding asking_device
  asking-good handle request o i flag l =
      let old = flag-few s first_device_word i ((device-facts s first_device_word (devices_of s) g.facts.devices).keeps i l) in
      device-changed (device_result o (device_at s i)) i (configured_after o (device_at s i)) _ (result-small o (device_at s i)) l (after-flag o (device_at s i) flag old)
      (device-short handle request _ _)

  for-good : (handle request : ℕ) (o : DeviceOperation) (id : ℕ) (name : List ℕ) → o.configured ≤ 1 → (x : Option ℕ) → named_device s id name ≡ x → Good s (device_for s c handle request o x)
  unfolding device_for
  for-good handle request o id name flag (Some i) e = asking-good handle request o i flag (device-less s id name i e)
  for-good handle request o id name flag None e =
      answering-good handle request _ (on-pick (λ (n : ℕ). n < code_end) _ _ _ (λ _. omega arith) (λ _. omega arith))

  asked-good : (handle : ℕ) (b : List ℕ) (x : Option DeviceOperation) → Flagged x → Good s (device_asked s c handle b x)
  unfolding device_asked
  asked-good handle b (Some o) flag =
      for-good handle (device_number b) o (device_id b) (device_name b) flag (named_device s (device_id b) (device_name b)) refl
  asked-good handle b None flag = answering-good handle (device_number b) _ (omega arith)

  pub devices-good : (handle : ℕ) (b : List ℕ) → Good s (answered_device s c handle b)
  unfolding answered_device
  devices-good handle b =
      on-pick (Good s) _ _ _
      (λ _. asked-good handle b (operation_of (device_type b)) (operation-flag (device_type b)))
      (λ _. answering-good handle (device_number b) _ (omega arith))
