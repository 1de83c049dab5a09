-- What each kind's event needs of what is shown, as facts.
-- Assumes nothing.
use Prim.Native.Nat.{ℕ, ◌^◌, ◌<◌}
use mathlib.Core.Path.{◌≡◌, refl}
use mathlib.Core.Bool.{true, not}
use lib.ListN.{length}
use borrow.Author.Tests.{lt-ltb}
use Rattle.basics.specs.Choice.{pick, ◌and◌, ◌or◌}
use Rattle.model.specs.Layout.{memory_service}
use Rattle.model.specs.Journal.{six_bits, settled_word, fields_of, ready_event, closed_event, version_refused_event, offered_event, registered_event, offer_refused_event, service_ended_event, delivered_event, data_refused_event, answered_event, configured_event, begun_event, cancelled_event, collected_event, settled_event, removal_end_event, noted_event, device_event, permitted_event, taken_event, ordered_event, peer_registered_event, peer_ended_event, peer_data_event}
use Rattle.model.specs.Reading.{settled_block, settled_record, View, shows_registered}
use Rattle.model.specs.Replay.{needed_in, shows_ready, shows_stage, is_idle, is_offered_as, is_offered, is_live, is_registered, is_removing, channel_need, service_need, handle_need, removal_need, settles, block_need, needed}
use Rattle.basics.proofs.Choice.{join}
use Rattle.effects.proofs.SettledWord.{block_back, record-back}

module _ (number : ℕ) (x : View) (c : ℕ) where
  pub ready-needs : needed (fields_of number (ready_event c)) 0 x ≡ true
  unfolding fields_of needed_in settled_record settled_block channel_need service_need handle_need removal_need block_need pick ◌and◌ ◌or◌
  ready-needs = refl

  pub closed-needs : (by : ℕ) → needed (fields_of number (closed_event c by)) by x ≡ true
  unfolding fields_of needed_in settled_record settled_block channel_need service_need handle_need removal_need block_need pick ◌and◌ ◌or◌
  closed-needs by = refl

  pub version-needs : (major : ℕ) → needed (fields_of number (version_refused_event c major)) 0 x ≡ true
  unfolding fields_of needed_in settled_record settled_block channel_need service_need handle_need removal_need block_need pick ◌and◌ ◌or◌
  version-needs major = refl

  pub offered-needs : (v : ℕ) → shows_ready x c ≡ true → is_idle (shows_stage x c v) ≡ true → needed (fields_of number (offered_event c v)) 0 x ≡ true
  unfolding fields_of needed_in settled_record settled_block channel_need service_need handle_need removal_need block_need pick ◌and◌ ◌or◌
  offered-needs v r t = join _ _ r (join _ _ t refl)

  pub registered-needs : (v minor handle : ℕ) → shows_ready x c ≡ true → is_offered_as handle (shows_stage x c v) ≡ true → needed (fields_of number (registered_event c v minor handle)) handle x ≡ true
  unfolding fields_of needed_in settled_record settled_block channel_need service_need handle_need removal_need block_need pick ◌and◌ ◌or◌
  registered-needs v minor handle r t = join _ _ r (join _ _ t refl)

  pub refused-needs : (v : ℕ) → shows_ready x c ≡ true → is_offered (shows_stage x c v) ≡ true → needed (fields_of number (offer_refused_event c v)) 0 x ≡ true
  unfolding fields_of needed_in settled_record settled_block channel_need service_need handle_need removal_need block_need pick ◌and◌ ◌or◌
  refused-needs v r t = join _ _ r (join _ _ t refl)

  pub ended-needs : (v : ℕ) → shows_ready x c ≡ true → is_live (shows_stage x c v) ≡ true → needed (fields_of number (service_ended_event c v)) 0 x ≡ true
  unfolding fields_of needed_in settled_record settled_block channel_need service_need handle_need removal_need block_need pick ◌and◌ ◌or◌
  ended-needs v r t = join _ _ r (join _ _ t refl)

  pub delivered-needs : (v : ℕ) → shows_ready x c ≡ true → is_registered (shows_stage x c v) ≡ true → needed (fields_of number (delivered_event c v)) 0 x ≡ true
  unfolding fields_of needed_in settled_record settled_block channel_need service_need handle_need removal_need block_need pick ◌and◌ ◌or◌
  delivered-needs v r t = join _ _ r (join _ _ t refl)

  pub data-refused-needs : (handle : ℕ) → shows_ready x c ≡ true → not (shows_registered x c handle) ≡ true → needed (fields_of number (data_refused_event c handle)) handle x ≡ true
  unfolding fields_of needed_in settled_record settled_block channel_need service_need handle_need removal_need block_need pick ◌and◌ ◌or◌
  data-refused-needs handle r t = join _ _ r (join _ _ t refl)

  pub answered-needs : (v code request : ℕ) → shows_ready x c ≡ true → is_registered (shows_stage x c v) ≡ true → needed (fields_of number (answered_event c v code request)) request x ≡ true
  unfolding fields_of needed_in settled_record settled_block channel_need service_need handle_need removal_need block_need pick ◌and◌ ◌or◌
  answered-needs v code request r t = join _ _ r (join _ _ t refl)

  pub configured-needs : (blocks : ℕ) → shows_ready x c ≡ true → is_registered (shows_stage x c memory_service) ≡ true → blocks < 2 ^ length x.blocks → needed (fields_of number (configured_event c blocks)) blocks x ≡ true
  unfolding fields_of needed_in settled_record settled_block channel_need service_need handle_need removal_need block_need pick ◌and◌ ◌or◌
  configured-needs blocks r t l = join _ _ r (join _ _ t (lt-ltb blocks (2 ^ length x.blocks) l))

  pub begun-needs : (n request : ℕ) → shows_ready x c ≡ true → is_registered (shows_stage x c memory_service) ≡ true → needed (fields_of number (begun_event c n request)) request x ≡ true
  unfolding fields_of needed_in settled_record settled_block channel_need service_need handle_need removal_need block_need pick ◌and◌ ◌or◌
  begun-needs n request r t = join _ _ r (join _ _ t refl)

  pub cancelled-needs : (request : ℕ) → shows_ready x c ≡ true → is_registered (shows_stage x c memory_service) ≡ true → is_removing x.removal ≡ true → needed (fields_of number (cancelled_event c request)) request x ≡ true
  unfolding fields_of needed_in settled_record settled_block channel_need service_need handle_need removal_need block_need pick ◌and◌ ◌or◌
  cancelled-needs request r t m = join _ _ r (join _ _ t (join _ _ m refl))

  pub collected-needs : (pages : ℕ) → is_removing x.removal ≡ true → needed (fields_of number (collected_event c pages)) 0 x ≡ true
  unfolding fields_of needed_in settled_record settled_block channel_need service_need handle_need removal_need block_need pick ◌and◌ ◌or◌
  collected-needs pages m = join _ _ m refl

  pub settled-needs : (place code pages block : ℕ) → is_removing x.removal ≡ true → settles place pages block x.blocks x.removal ≡ true → block < six_bits → place < six_bits → needed (fields_of number (settled_event c place code pages block)) (settled_word block place) x ≡ true
  unfolding fields_of needed_in channel_need service_need handle_need removal_need block_need pick ◌and◌ ◌or◌
  settled-needs place code pages block m t b p = rw (block_back block place b, record-back block place 0 b p) (join _ _ m t)

  pub end-needs : (code replied request : ℕ) → is_removing x.removal ≡ true → needed (fields_of number (removal_end_event c code replied request)) request x ≡ true
  unfolding fields_of needed_in settled_record settled_block channel_need service_need handle_need removal_need block_need pick ◌and◌ ◌or◌
  end-needs code replied request m = join _ _ m refl

  pub noted-needs : (type : ℕ) → shows_ready x c ≡ true → needed (fields_of number (noted_event c type)) type x ≡ true
  unfolding fields_of needed_in settled_record settled_block channel_need service_need handle_need removal_need block_need pick ◌and◌ ◌or◌
  noted-needs type r = join _ _ r refl

  pub device-needs : (result place configured : ℕ) → needed (fields_of number (device_event c result place configured)) configured x ≡ true
  unfolding fields_of needed_in settled_record settled_block channel_need service_need handle_need removal_need block_need pick ◌and◌ ◌or◌
  device-needs result place configured = refl

  pub ordered-needs : (v result delay : ℕ) → needed (fields_of number (ordered_event c v result delay)) delay x ≡ true
  unfolding fields_of needed_in settled_record settled_block channel_need service_need handle_need removal_need block_need pick ◌and◌ ◌or◌
  ordered-needs v result delay = refl

  pub permitted-needs : (v permitted : ℕ) → needed (fields_of number (permitted_event v permitted)) 0 x ≡ true
  unfolding fields_of needed_in settled_record settled_block channel_need service_need handle_need removal_need block_need pick ◌and◌ ◌or◌
  permitted-needs v permitted = refl

  pub taken-needs : needed (fields_of number taken_event) 0 x ≡ true
  unfolding fields_of needed_in settled_record settled_block channel_need service_need handle_need removal_need block_need pick ◌and◌ ◌or◌
  taken-needs = refl

  pub peer-registered-needs : (place minor handle : ℕ) → needed (fields_of number (peer_registered_event c place minor handle)) handle x ≡ true
  unfolding fields_of needed_in settled_record settled_block channel_need service_need handle_need removal_need block_need pick ◌and◌ ◌or◌
  peer-registered-needs place minor handle = refl

  pub peer-ended-needs : (handle : ℕ) → needed (fields_of number (peer_ended_event c handle)) handle x ≡ true
  unfolding fields_of needed_in settled_record settled_block channel_need service_need handle_need removal_need block_need pick ◌and◌ ◌or◌
  peer-ended-needs handle = refl

  pub peer-data-needs : needed (fields_of number (peer_data_event c)) 0 x ≡ true
  unfolding fields_of needed_in settled_record settled_block channel_need service_need handle_need removal_need block_need pick ◌and◌ ◌or◌
  peer-data-needs = refl
