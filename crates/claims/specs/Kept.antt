-- What every call keeps: soundness; what a refusal leaves; the slot, the output and the run that a call may touch; what a work step replies and
-- notes; the removal, stored and loaded.
-- Assumes nothing.
use Rattle.std.specs.Prelude.{ℕ, ◌+◌, ◌-◌, ◌*◌, ◌/◌, ◌≤◌, ◌<◌, min, ◌≡◌, true, false, List, length, get_or, drop, take, eqb}
use Rattle.wire.specs.BigEndian.{number_at}
use Rattle.entry.specs.Word.{unpacked}
use Rattle.basics.specs.Choice.{pick, ◌or◌}
use Rattle.model.specs.declared.Event.{Event}
use Rattle.model.specs.declared.Removal.{Removal}
use Rattle.model.specs.Layout.{memory_service, most_records, entry_words, output_bytes, state_words, last_of, held_of, outstanding_of, cancelled_of, removal_of, with_counts, with_removal}
use Rattle.model.specs.Blocks.{Lists}
use Rattle.model.specs.State.{sound}
use Rattle.model.specs.Journal.{kind_collected, kind_settled, keeps_table, slot_of, entries_at, words_of, entry_at}
use Rattle.model.specs.Messages.{registered_as}
use Rattle.model.specs.Calls.{Action, Call, act, work, drain, Outcome, outcome, set_up}
use Rattle.claims.specs.Demand3.{runs, start, history, noted}

-- The state of an accepted setup is sound, every call keeps a sound state sound, and so refusal 8 meets no state that the agent made, but the empty one of a refused
-- setup (02, ticket 8: "a state with last number 0 is not sound").
pub record SoundnessKept : Type 0 where
  pub by_setup :
      (l : Lists) (j : List ℕ) →
      (set_up l j).refusal ≡ 0 →
      (sound (set_up l j).state ≡ true) × (length (set_up l j).state ≡ state_words)
  pub refused_setup : (l : Lists) (j : List ℕ) → ((set_up l j).refusal ≡ 0 → ⊥) → sound (set_up l j).state ≡ false
  pub by_call :
      (s j : List ℕ) (call : Call) →
      length s ≡ state_words →
      sound s ≡ true →
      (sound (outcome s j call).state ≡ true) × (length (outcome s j call).state ≡ state_words)
  pub by_list : (l : Lists) (j : List ℕ) (calls : List Call) → (set_up l j).refusal ≡ 0 → sound (runs (start l j) (history (start l j) calls)).state ≡ true

-- A setup, of the journal that it is lent: refused, it "writes nothing anywhere"; else no slot is touched but that of number 1, of the entry that it "adds" (02, ticket 8).
pub record SetupKept : Type 0 where
  pub refused_journal : (l : Lists) (j : List ℕ) → ((set_up l j).refusal ≡ 0 → ⊥) → (set_up l j).journal ≡ j
  pub other_slots :
      (l : Lists) (j : List ℕ) (i : ℕ) →
      (i ≡ slot_of 1 → ⊥) →
      (i ≡ slot_of 1 + 1 → ⊥) →
      get_or (set_up l j).journal i 0 ≡ get_or j i 0

-- what a call may write beside the state and the journal: its output or its run
unfoldable pub buffer_of : Call → List ℕ
buffer_of (act a out) = out
buffer_of (drain run) = run

-- "A refusal returns its number, the state it was given .. and reply length 0, and writes nothing anywhere."
pub record RefusalKept (s j : List ℕ) (call : Call) (r : Outcome) : Type 0 where
  pub same_state : r.state ≡ s
  pub same_journal : r.journal ≡ j
  pub same_buffer : r.buffer ≡ buffer_of call
  pub no_count : r.count ≡ 0
  pub no_pages : r.pages ≡ 0

-- "An accepted call writes its reply at the start of the output, touches no output byte beyond it, and adds one entry": in its own slot.
pub record EntryAdded (s j out : List ℕ) (r : Outcome) : Type 0 where
  pub last_next : last_of r.state ≡ last_of s + 1
  pub held_next : held_of r.state ≡ held_of s + 1
  pub number_next : (unpacked (entry_at r.journal (last_of s + 1)).first).number ≡ last_of s + 1
  -- "Fields not named are 0"
  pub table : keeps_table (noted r) ≡ true
  pub other_slots :
      (i : ℕ) →
      (i ≡ slot_of (last_of s + 1) → ⊥) →
      (i ≡ slot_of (last_of s + 1) + 1 → ⊥) →
      get_or r.journal i 0 ≡ get_or j i 0
  pub same_length : length r.journal ≡ length j
  pub reply_fits : r.count ≤ output_bytes
  pub same_output : length r.buffer ≡ length out
  pub rest_of_output : drop r.count r.buffer ≡ drop r.count out

-- "Drain copies the oldest entries to the start of a lent word run .., forgets them, .. adds none, and touches no other word."
pub record DrainKept (s j : List ℕ) (run : List ℕ) (r : Outcome) : Type 0 where
  pub same_journal : r.journal ≡ j
  pub held_less : r.state ≡ with_counts s (last_of s) (held_of s - r.count)
  pub whole : r.count ≡ min (held_of s) (length run / entry_words)
  pub same_run : length r.buffer ≡ length run
  pub oldest : take (r.count * entry_words) r.buffer ≡ words_of (entries_at j (last_of s - held_of s + 1) r.count)
  pub rest_of_run : drop (r.count * entry_words) r.buffer ≡ drop (r.count * entry_words) run

pub record CallsKept : Type 0 where
  pub refusal :
      (s j : List ℕ) (call : Call) →
      ((outcome s j call).refusal ≡ 0 → ⊥) →
      RefusalKept s j call (outcome s j call)
  pub adds :
      (s j out : List ℕ) (a : Action) →
      length s ≡ state_words →
      (outcome s j (act a out)).refusal ≡ 0 →
      EntryAdded s j out (outcome s j (act a out))
  pub removes :
      (s j run : List ℕ) →
      length s ≡ state_words →
      (outcome s j (drain run)).refusal ≡ 0 →
      DrainKept s j run (outcome s j (drain run))

-- the pages that an entry tells of: the count of kinds 14 and 15
unfoldable pub pages_in : Event → ℕ
pages_in e = pick (eqb e.kind kind_collected or eqb e.kind kind_settled) e.count 0

-- A work step. The late reply: what it writes is under the removal's own handle, and that handle is registered for service 0 on the
-- removal's channel as the step begins; where it is not, nothing is written. The pages moved are in its result and in its entry.
pub record WorkKept : Type 0 where
  pub under_own_handle :
      (s j : List ℕ) (budget : ℕ) (out : List ℕ) →
      length s ≡ state_words →
      (outcome s j (act (work budget) out)).refusal ≡ 0 →
      0 < (outcome s j (act (work budget) out)).count →
      (number_at (outcome s j (act (work budget) out)).buffer 8 8 ≡ (removal_of s).handle)
      × (registered_as s (removal_of s).channel (removal_of s).handle memory_service ≡ true)
  pub pages_noted :
      (s j : List ℕ) (budget : ℕ) (out : List ℕ) →
      length s ≡ state_words →
      (outcome s j (act (work budget) out)).refusal ≡ 0 →
      (outcome s j (act (work budget) out)).pages ≡ pages_in (noted (outcome s j (act (work budget) out)))

-- the removal as a record of numbers and arrays: what is stored is loaded, and what is loaded is stored
pub record RemovalKept : Type 0 where
  pub load_after_store :
      (s : List ℕ) (m : Removal) →
      length s ≡ state_words →
      (length m.address ≡ most_records) × (length m.size ≡ most_records) × (length m.result ≡ most_records) →
      removal_of (with_removal s m) ≡ m
  pub store_after_load :
      (s : List ℕ) →
      length s ≡ state_words →
      outstanding_of s ≡ 1 →
      cancelled_of s ≤ 1 →
      with_removal s (removal_of s) ≡ s
