-- What every call keeps, as specs/Kept.antt states it.
-- Assumes nothing.
use Prim.Native.Nat.{ℕ, ◌+◌, ◌-◌, ◌*◌, ◌/◌, ◌≤◌, min}
use native.Mathlib.Omega.{arith}
use mathlib.Core.Path.{◌≡◌, refl, sym, ◌∙◌}
use mathlib.Core.Bool.{Bool, true, false}
use lib.Dec.{eqb}
use borrow.Author.Tests.{eqb-true, eqb-false}
use mathlib.Core.List.{List, [], ◌∷◌}
use lib.ListN.{get_or, length, drop, length-append, length-drop}
use lib.Seq.{take_at, drop_at, drop-append_seam}
use Rattle.wire.specs.BigEndian.{written}
use Rattle.model.specs.State.{sound}
use Rattle.model.specs.Messages.{Effect}
use Rattle.model.specs.Calls.{Call, act, drain, Action, accepted, drained, effect_of, outcome, pages_of, refused, SetUp, setup_refusal, set_up}
use Rattle.claims.specs.Demand3.{Run, after, doing, history, noted, runs, start}
use Rattle.claims.specs.Kept.{SoundnessKept, SetupKept, CallsKept, DrainKept, EntryAdded, RefusalKept, RemovalKept, buffer_of}
use Rattle.basics.proofs.Choice.{on-pick}
use Rattle.model.proofs.Words.{counts-length, last-counts, held-counts, removal-back, removal-again}
use Rattle.model.proofs.View.{shape-moves}
use Rattle.model.proofs.Rules.{sound-facts}
use Rattle.model.proofs.Sounds.{sound-counted}
use Rattle.model.proofs.Ring.{event-back, fields_back, stored_same, stored-else, stored-length, length-entries, length-words}
use Rattle.effects.proofs.Effects.{shape}
use Rattle.effects.proofs.Taken.{Taken, taken}
use Rattle.model.proofs.Calls.{on-act, on-drain}
use Rattle.model.proofs.Above.{turn-keeps, turn-orders}
use Rattle.model.proofs.Peers.{ids-same}
use Rattle.model.proofs.Setup.{setup-accepts, starts, empty-last}
use Rattle.model.specs.Journal.{mark_event, entries_at, entry_of, fields_of, words_of}
use Rattle.model.specs.Blocks.{Lists, no_lists, setup_state}
use Rattle.model.specs.Layout.{entry_words, held_of, last_of, state_words}

-- An accepted action.
module _ (s j out : List ℕ) (pages : ℕ) (e : Effect) (t : Taken s j out e) where
  new-size : length e.state ≡ state_words
  new-size = (shape-moves t.good.moves (shape s t.given)).size

  accepted-sound : (sound (accepted s j out pages e).state ≡ true) × (length (accepted s j out pages e).state ≡ state_words)
  unfolding accepted
  accepted-sound =
      let g = t.good in (
        sound-counted e.state (last_of s + 1) (held_of s + 1) new-size g.base g.removal
            (turn-keeps s t.given.size t.given.facts.devices e g.above)
            (turn-orders s t.given.size t.given.facts.devices e t.given.facts.orders g.above)
            (ids-same s e.state g.peers.ids t.given.facts.ids) g.peers.sounds
            (omega arith) (omega (arith, t.given.number)) (omega (arith, t.room)) (omega (arith, t.given.facts.counts.numbered)),
        counts-length e.state _ _ ∙ new-size,
      )

  reply-fits : length e.reply ≤ length out
  reply-fits = omega (arith, t.good.fits, t.bytes)

  -- what its entry tells is what it notes
  pub noted-is : noted (accepted s j out pages e) ≡ e.event
  unfolding noted accepted
  noted-is =
      rw (
        last-counts e.state (last_of s + 1) (held_of s + 1) new-size,
        stored_same j (last_of s + 1) (entry_of (last_of s + 1) e.event) t.words,
      )
      (event-back (last_of s + 1) e.event t.good.entry.range)

  accepted-adds : EntryAdded s j out (accepted s j out pages e)
  accepted-adds = record {
    last_next = unfold accepted in (last-counts e.state (last_of s + 1) (held_of s + 1) new-size);
    held_next = unfold accepted in (held-counts e.state (last_of s + 1) (held_of s + 1) new-size);
    number_next =
        unfold accepted in
        rw (
          stored_same j (last_of s + 1) (entry_of (last_of s + 1) e.event) t.words,
          fields_back (last_of s + 1) e.event t.good.entry.range,
        )
        (unfold fields_of in refl);
    table = rw noted-is t.good.entry.table;
    other_slots = λ i p r. unfold accepted in (stored-else j (last_of s + 1) i (entry_of (last_of s + 1) e.event) p r);
    same_length = unfold accepted in (stored-length j (last_of s + 1) (entry_of (last_of s + 1) e.event));
    reply_fits = unfold accepted in t.good.fits;
    same_output = unfold accepted written in (simp (length-append, length-drop) (omega (arith, reply-fits)));
    rest_of_output = unfold accepted written in (drop-append_seam e.reply (drop (length e.reply) out));
  }

-- An accepted drain.
module _ (s j run : List ℕ) (size : length s ≡ state_words) (good : sound s ≡ true) (n : ℕ) (few : n ≤ held_of s) where
  drained-sound : (sound (drained s j run n).state ≡ true) × (length (drained s j run n).state ≡ state_words)
  unfolding drained
  drained-sound =
      let f = sound-facts s good in
      let c = f.counts in (
        sound-counted s (last_of s) (held_of s - n) size f.base f.removal f.devices f.orders f.ids f.peers c.some c.lasts (omega (arith, c.helds)) (omega (arith, c.numbered)),
        counts-length s _ _ ∙ size,
      )

copied-length : (j : List ℕ) (i n : ℕ) → length (words_of (entries_at j i n)) ≡ n * entry_words
copied-length j i n = rw (length-words, length-entries)

drained-kept : (s j run : List ℕ) (n : ℕ) → n ≡ min (held_of s) (length run / entry_words) → DrainKept s j run (drained s j run n)
unfolding drained
drained-kept s j run n e =
    let copy : List ℕ = words_of (entries_at j (last_of s - held_of s + 1) n) in
    let l = copied-length j (last_of s - held_of s + 1) n in
    record {
      same_journal = refl;
      held_less = refl;
      whole = e;
      same_run = simp (length-append, length-drop) (omega (arith, l));
      oldest = take_at copy _ (n * entry_words) l;
      rest_of_run = drop_at copy _ (n * entry_words) l;
    }

-- a refusal leaves all as it was
refused-kept : (s j out : List ℕ) (n : ℕ) (call : Call) → buffer_of call ≡ out → RefusalKept s j call (refused s j out n)
unfolding refused
refused-kept s j out n call q = record {
  same_state = refl;
  same_journal = refl;
  same_buffer = sym q;
  no_count = refl;
  no_pages = refl;
}

-- Every call by itself.
leaves_all : (s j : List ℕ) (call : Call) → ((outcome s j call).refusal ≡ 0 → ⊥) → RefusalKept s j call (outcome s j call)
leaves_all s j (act a out) =
    on-act (λ x. (x.refusal ≡ 0 → ⊥) → RefusalKept s j (act a out) x) s j out a
    (λ z d. absurd (d (unfold accepted in refl)))
    (λ z d. refused-kept s j out _ (act a out) (unfold buffer_of in refl))
leaves_all s j (drain run) =
    on-drain (λ x. (x.refusal ≡ 0 → ⊥) → RefusalKept s j (drain run) x) s j run
    (λ z n few e d. absurd (d (unfold drained in refl)))
    (λ z d. refused-kept s j run _ (drain run) (unfold buffer_of in refl))

adds : (s j out : List ℕ) (a : Action) → length s ≡ state_words → (outcome s j (act a out)).refusal ≡ 0 → EntryAdded s j out (outcome s j (act a out))
adds s j out a size =
    on-act (λ x. x.refusal ≡ 0 → EntryAdded s j out x) s j out a
    (λ z q. accepted-adds s j out (pages_of s a) (effect_of s a) (taken s j out a size z))
    (λ z q. absurd (z (unfold refused in q)))

removes : (s j run : List ℕ) → (outcome s j (drain run)).refusal ≡ 0 → DrainKept s j run (outcome s j (drain run))
removes s j run =
    on-drain (λ x. x.refusal ≡ 0 → DrainKept s j run x) s j run
    (λ z n few e q. drained-kept s j run n e)
    (λ z q. absurd (z (unfold refused in q)))

pub calls-kept : CallsKept
calls-kept = record { refusal = leaves_all; adds = adds; removes = λ s j run size z. removes s j run z }

-- Soundness.
call-sound : (s j : List ℕ) (call : Call) → length s ≡ state_words → sound s ≡ true → (sound (outcome s j call).state ≡ true) × (length (outcome s j call).state ≡ state_words)
call-sound s j (act a out) size good =
    on-act (λ x. (sound x.state ≡ true) × (length x.state ≡ state_words)) s j out a
    (λ z. accepted-sound s j out (pages_of s a) (effect_of s a) (taken s j out a size z))
    (λ z. unfold refused in (good, size))
call-sound s j (drain run) size good =
    on-drain (λ x. (sound x.state ≡ true) × (length x.state ≡ state_words)) s j run
    (λ z n few e. drained-sound s j run size good n few)
    (λ z. unfold refused in (good, size))

setup-kept : (l : Lists) (j : List ℕ) → (set_up l j).refusal ≡ 0 → (sound (set_up l j).state ≡ true) × (length (set_up l j).state ≡ state_words)
unfolding set_up
setup-kept l j =
    on-pick (λ (r : SetUp). r.refusal ≡ 0 → (sound r.state ≡ true) × (length r.state ≡ state_words)) (eqb (setup_refusal l (length j)) 0) _ _
    (λ e z. let s = starts l (setup-accepts l (length j) (eqb-true _ 0 e)).1 in (s.sounds, s.size))
    (λ e z. absurd (eqb-false _ 0 e z))

-- the empty state has no last number
empty-unsound : sound (setup_state no_lists) ≡ false
empty-unsound = go (sound (setup_state no_lists)) refl
  where
    go : (b : Bool) → sound (setup_state no_lists) ≡ b → b ≡ false
    go true e = absurd (none (sound-facts (setup_state no_lists) e).counts.some)
      where
        none : 1 ≤ last_of (setup_state no_lists) → ⊥
        none h = let z = empty-last in omega (arith, h, z)
    go false e = refl

setup-refused : (l : Lists) (j : List ℕ) → ((set_up l j).refusal ≡ 0 → ⊥) → sound (set_up l j).state ≡ false
unfolding set_up
setup-refused l j =
    on-pick (λ (r : SetUp). (r.refusal ≡ 0 → ⊥) → sound r.state ≡ false) (eqb (setup_refusal l (length j)) 0) _ _
    (λ e n. absurd (n refl))
    (λ e z. empty-unsound)

runs-sound : (calls : List Call) (u : Run) → sound u.state ≡ true → length u.state ≡ state_words → sound (runs u (history u calls)).state ≡ true
unfolding runs history
runs-sound [] u good size = good
runs-sound (call ∷ calls) u good size =
    let r = call-sound u.state u.journal call size good in
    runs-sound calls (after u (doing u call)) (unfold after in r.0) (unfold after in r.1)

list-sound : (l : Lists) (j : List ℕ) (calls : List Call) → (set_up l j).refusal ≡ 0 → sound (runs (start l j) (history (start l j) calls)).state ≡ true
list-sound l j calls z =
    let s = setup-kept l j z in
    runs-sound calls (start l j) (unfold start in s.0) (unfold start in s.1)

pub soundness-kept : SoundnessKept
soundness-kept = record { by_setup = setup-kept; refused_setup = setup-refused; by_call = call-sound; by_list = list-sound }

pub setup-keeps : SetupKept
unfolding set_up
setup-keeps = record {
  refused_journal = λ l j. on-pick (λ (r : SetUp). (r.refusal ≡ 0 → ⊥) → r.journal ≡ j) (eqb (setup_refusal l (length j)) 0) _ _ (λ e n. absurd (n refl)) (λ e n. refl);
  other_slots = λ l j i p r. on-pick (λ (u : SetUp). get_or u.journal i 0 ≡ get_or j i 0) (eqb (setup_refusal l (length j)) 0) _ _ (λ e. stored-else j 1 i (entry_of 1 mark_event) p r) (λ e. refl);
}

pub removal-kept : RemovalKept
removal-kept = record {
  load_after_store =
      λ s m size a. removal-back s m size (record { addresses = a.0; sizes = a.1; results = a.2 });
  store_after_load = removal-again;
}
