-- Each kind's event fits an entry: its fields fit their bits, and those that its kind does not name are 0.
-- Assumes nothing.
use Prim.Native.Nat.{ℕ, ◌*◌, ◌≤◌, ◌<◌}
use borrow.Author.Tests.{lt-ltb}
use native.Mathlib.Omega.{arith}
use mathlib.Core.Path.{◌≡◌, refl}
use mathlib.Core.Bool.{true}
use Rattle.entry.specs.Word.{InRange}
use Rattle.basics.specs.Choice.{◌and◌, ◌or◌}
use Rattle.model.specs.declared.Event.{Event}
use Rattle.model.specs.Layout.{channel_count, service_count, most_blocks, most_devices, most_records, most_ids, highest_number, highest_minor, most_budget}
use Rattle.model.specs.Journal.{six_bits, settled_word, word_keeps, fields_named, kinds, unnamed_zero, keeps_table, fields_of, ready_event, closed_event, version_refused_event, offered_event, registered_event, offer_refused_event, service_ended_event, delivered_event, data_refused_event, answered_event, configured_event, begun_event, cancelled_event, collected_event, settled_event, removal_end_event, noted_event, device_event, permitted_event, taken_event, ordered_event, peer_registered_event, peer_ended_event, peer_data_event}

pub record Fits (number : ℕ) (e : Event) : Type 0 where
  pub range : InRange (fields_of number e)
  pub table : keeps_table e ≡ true

-- what a code of three bits is below
abbrev pub code_end : ℕ
code_end = 8

module _ (number c : ℕ) (n : number ≤ highest_number) (h : c < channel_count) where
  pub ready-fits : Fits number (ready_event c)
  unfolding fields_of fields_named word_keeps kinds unnamed_zero ◌and◌ ◌or◌
  ready-fits = record { range = omega arith; table = refl }

  pub closed-fits : (by : ℕ) → Fits number (closed_event c by)
  unfolding fields_of fields_named word_keeps kinds unnamed_zero ◌and◌ ◌or◌
  closed-fits by = record { range = omega arith; table = refl }

  pub version-fits : (major : ℕ) → major ≤ highest_minor → Fits number (version_refused_event c major)
  unfolding fields_of fields_named word_keeps kinds unnamed_zero ◌and◌ ◌or◌
  version-fits major m = record { range = omega arith; table = refl }

  pub offered-fits : (v : ℕ) → v < service_count → Fits number (offered_event c v)
  unfolding fields_of fields_named word_keeps kinds unnamed_zero ◌and◌ ◌or◌
  offered-fits v l = record { range = omega arith; table = refl }

  pub registered-fits : (v minor handle : ℕ) → v < service_count → minor ≤ highest_minor → Fits number (registered_event c v minor handle)
  unfolding fields_of fields_named word_keeps kinds unnamed_zero ◌and◌ ◌or◌
  registered-fits v minor handle l m = record { range = omega arith; table = refl }

  pub refused-fits : (v : ℕ) → v < service_count → Fits number (offer_refused_event c v)
  unfolding fields_of fields_named word_keeps kinds unnamed_zero ◌and◌ ◌or◌
  refused-fits v l = record { range = omega arith; table = refl }

  pub ended-fits : (v : ℕ) → v < service_count → Fits number (service_ended_event c v)
  unfolding fields_of fields_named word_keeps kinds unnamed_zero ◌and◌ ◌or◌
  ended-fits v l = record { range = omega arith; table = refl }

  pub delivered-fits : (v : ℕ) → v < service_count → Fits number (delivered_event c v)
  unfolding fields_of fields_named word_keeps kinds unnamed_zero ◌and◌ ◌or◌
  delivered-fits v l = record { range = omega arith; table = refl }

  pub data-refused-fits : (handle : ℕ) → Fits number (data_refused_event c handle)
  unfolding fields_of fields_named word_keeps kinds unnamed_zero ◌and◌ ◌or◌
  data-refused-fits handle = record { range = omega arith; table = refl }

  pub answered-fits : (v code request : ℕ) → v < service_count → code < code_end → Fits number (answered_event c v code request)
  unfolding fields_of fields_named word_keeps kinds unnamed_zero ◌and◌ ◌or◌
  answered-fits v code request l k = record { range = omega arith; table = refl }

  pub configured-fits : (blocks : ℕ) → Fits number (configured_event c blocks)
  unfolding fields_of fields_named word_keeps kinds unnamed_zero ◌and◌ ◌or◌
  configured-fits blocks = record { range = omega arith; table = refl }

  pub begun-fits : (records request : ℕ) → records ≤ most_records → Fits number (begun_event c records request)
  unfolding fields_of fields_named word_keeps kinds unnamed_zero ◌and◌ ◌or◌
  begun-fits records request few = record { range = omega arith; table = refl }

  pub cancelled-fits : (request : ℕ) → Fits number (cancelled_event c request)
  unfolding fields_of fields_named word_keeps kinds unnamed_zero ◌and◌ ◌or◌
  cancelled-fits request = record { range = omega arith; table = refl }

  pub collected-fits : (pages : ℕ) → pages ≤ most_budget → Fits number (collected_event c pages)
  unfolding fields_of fields_named word_keeps kinds unnamed_zero ◌and◌ ◌or◌
  collected-fits pages p = record { range = omega arith; table = refl }

  pub settled-fits : (place code pages block : ℕ) → place < most_records → code < code_end → pages ≤ most_budget → block < most_blocks → Fits number (settled_event c place code pages block)
  unfolding fields_of fields_named word_keeps kinds unnamed_zero ◌and◌ ◌or◌
  settled-fits place code pages block p k l b = record { range = omega arith; table = lt-ltb (settled_word block place) (six_bits * six_bits) (omega arith) }

  pub end_fits : (code replied request : ℕ) → code < code_end → replied ≤ 1 → Fits number (removal_end_event c code replied request)
  unfolding fields_of fields_named word_keeps kinds unnamed_zero ◌and◌ ◌or◌
  end_fits code replied request k r = record { range = omega arith; table = refl }

  pub noted-fits : (type : ℕ) → Fits number (noted_event c type)
  unfolding fields_of fields_named word_keeps kinds unnamed_zero ◌and◌ ◌or◌
  noted-fits type = record { range = omega arith; table = refl }

  pub device-fits : (result place configured : ℕ) → result < code_end → place < most_devices → Fits number (device_event c result place configured)
  unfolding fields_of fields_named word_keeps kinds unnamed_zero ◌and◌ ◌or◌
  device-fits result place configured k p = record { range = omega arith; table = refl }

  pub ordered-fits : (v result delay : ℕ) → v < service_count → result < code_end → Fits number (ordered_event c v result delay)
  unfolding fields_of fields_named word_keeps kinds unnamed_zero ◌and◌ ◌or◌
  ordered-fits v result delay l k = record { range = omega arith; table = refl }

  pub peer-registered-fits : (place minor handle : ℕ) → place < most_ids → minor ≤ highest_minor → Fits number (peer_registered_event c place minor handle)
  unfolding fields_of fields_named word_keeps kinds unnamed_zero ◌and◌ ◌or◌
  peer-registered-fits place minor handle l m = record { range = omega arith; table = refl }

  pub peer-ended-fits : (handle : ℕ) → Fits number (peer_ended_event c handle)
  unfolding fields_of fields_named word_keeps kinds unnamed_zero ◌and◌ ◌or◌
  peer-ended-fits handle = record { range = omega arith; table = refl }

  pub peer-data-fits : Fits number (peer_data_event c)
  unfolding fields_of fields_named word_keeps kinds unnamed_zero ◌and◌ ◌or◌
  peer-data-fits = record { range = omega arith; table = refl }

-- the host's own, which have no channel
pub permitted-fits : (number v permitted : ℕ) → number ≤ highest_number → v < service_count → permitted ≤ 1 → Fits number (permitted_event v permitted)
unfolding fields_of fields_named word_keeps kinds unnamed_zero ◌and◌ ◌or◌
permitted-fits number v permitted n l p = record { range = omega arith; table = refl }

pub taken-fits : (number : ℕ) → number ≤ highest_number → Fits number taken_event
unfolding fields_of fields_named word_keeps kinds unnamed_zero ◌and◌ ◌or◌
taken-fits number n = record { range = omega arith; table = refl }
