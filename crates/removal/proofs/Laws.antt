-- The cases of a removal's work step, the late reply, and what a sound state gives.
-- Assumes nothing.
use Rattle.std.specs.Prelude.{Option, Some, None}
use mathlib.Core.Path.{◌≡◌, refl, sym, ap, ◌∙◌}
use mathlib.Core.Bool.{Bool, true, false}
use mathlib.Core.List.{List, []}
use Prim.Native.Nat.{ℕ, ◌+◌, ◌-◌, ◌*◌, ◌<◌, ◌≤◌, min}
use native.Mathlib.Omega.{arith}
use lib.ListN.{length, get_or}
use lib.Seq.{sets}
use lib.Dec.{eqb, ltb}
use borrow.Author.Tests.{eqb-true, leb-false, ltb-true, ne_eqb, eq-eqb, lt-leb, le-leb, lt-ltb, le-ltb}
use Rattle.wire.specs.BigEndian.{written}
use Rattle.basics.specs.Choice.{pick, ◌or◌, joined}
use Rattle.model.specs.declared.Event.{Event}
use Rattle.model.specs.declared.Removal.{Removal}
use Rattle.model.specs.Layout.{removal_of, block_at, is_set, last_of, cancelled_of, cancelled_word, first_address_word, first_numbered_word, first_result_word, first_size_word, most_blocks, most_records, output_bytes, outstanding_of, outstanding_word, position_word, reply_header_bytes, result_bytes, with_configured, with_removal, without_removal}
use Rattle.model.specs.Blocks.{named_block}
use Rattle.model.specs.State.{sound, collected_sound, removal_room, room_at}
use Rattle.model.specs.Journal.{collected_event, removal_end_event, settled_event}
use Rattle.model.specs.Messages.{effect}
use Rattle.model.specs.Memory.{result_record, DR-MEM-OK, DR-MEM-RES-CANCELLED, DR-MEM-RES-FAILURE, DR-MEM-RES-NOWORK, DR-MEM-RES-OK, memory_reply}
use Rattle.model.specs.Work.{late_reply, addr_now, all_settled, block_now, collecting, collects, end_code, ending, failing_code, moving, pages_moved, result_at, settled, size_now, step_of, still_registered, working, works_at, works_on}
use Rattle.model.specs.Handler.{Handles, HandlesSilently, HandlesStep}
use Rattle.basics.proofs.Choice.{on-pick, or-false, pick_true, pick-false}
use Rattle.model.proofs.Words.{Agree, configured-frame, removal-same}
use Rattle.model.proofs.Replies.{result-length}
use Rattle.model.proofs.Rules.{RemovalFacts, sound-facts, sound-block}
use Rattle.model.proofs.Search.{sound-in-order}
use Rattle.model.proofs.Sounds.{named-less}
use Rattle.model.proofs.Handlers.{silent-handles}
use Rattle.records.specs.Header.{memory_header}
use Rattle.records.proofs.Parts.{results-stored}
use Rattle.removal_state.proofs.Laws.{address_is, cancelled-is, position-is, result-is, size_is}
use Rattle.removal.specs.Fits.{late_record, Fits, Held, CanWork, GoesOn, StepsSilently}

-- the code of the end
module _ (s : List ℕ) (m : Removal) where
  pub code-cancelled : m.cancelled ≡ true → end_code s m ≡ DR-MEM-RES-CANCELLED
  unfolding end_code pick
  code-cancelled e = rw e

  pub code-settled : m.cancelled ≡ false → m.count ≤ m.position → end_code s m ≡ DR-MEM-RES-OK
  unfolding end_code pick
  code-settled go h = rw (go, le-leb _ _ h)

  pub code-failing : m.cancelled ≡ false → m.position < m.count → end_code s m ≡ failing_code (block_now s m)
  unfolding end_code pick
  code-failing go h = rw (go, lt-leb _ _ h)

-- the block that the record at the position names, by the words read
pub block_read : (s : List ℕ) {at addr size : ℕ} → at ≡ get_or s position_word 0 → (removal_of s).position < most_records → addr ≡ get_or s (first_address_word + at) 0 → size ≡ get_or s (first_size_word + at) 0 → named_block s addr size ≡ block_now s (removal_of s)
block_read s {at} p l a z =
    let h : at < most_records = omega (arith, position-is s p) in
    rw (← position-is s p, address_is s at h, size_is s at h, ← a, ← z)

-- record i's result at the end, by the words read
module _ (s : List ℕ) (i : ℕ) {position : ℕ} (p : position ≡ get_or s position_word 0) where
  pub result-settled : {r : ℕ} → i < most_records → i < position → r ≡ get_or s (first_result_word + i) 0 → r ≡ result_at s (removal_of s) i
  unfolding result_at
  result-settled h l e = e ∙ sym (pick_true _ _ _ (lt-ltb _ _ (rw (position-is s p) at l)) ∙ result-is s i h)

  module _ (l : position ≤ i) {x : Bool} (e : x ≡ is_set (cancelled_of s)) where
    not-settled : result_at s (removal_of s) i ≡ pick (removal_of s).cancelled DR-MEM-RES-CANCELLED (pick (eqb i (removal_of s).position) (end_code s (removal_of s)) DR-MEM-RES-FAILURE)
    unfolding result_at
    not-settled = pick-false _ _ _ (le-ltb _ _ (rw (position-is s p) at l))

    pub result-cancelled : x ≡ true → DR-MEM-RES-CANCELLED ≡ result_at s (removal_of s) i
    result-cancelled f = sym (not-settled ∙ pick_true _ _ _ (cancelled-is s e f))

    pub result-failing : {code : ℕ} → x ≡ false → i ≡ position → code ≡ end_code s (removal_of s) → code ≡ result_at s (removal_of s) i
    result-failing f q c = c ∙ sym (not-settled ∙ pick-false _ _ _ (cancelled-is s e f) ∙ pick_true _ _ _ (eq-eqb _ _ (q ∙ position-is s p)))

    pub result-after : x ≡ false → (i ≡ position → ⊥) → DR-MEM-RES-FAILURE ≡ result_at s (removal_of s) i
    result-after f d = sym (not-settled ∙ pick-false _ _ _ (cancelled-is s e f) ∙ pick-false _ _ _ (ne_eqb _ _ (λ q. d (q ∙ sym (position-is s p)))))

-- a record of the late reply
pub late-record : (s : List ℕ) (i : ℕ) {addr size r : ℕ} → i < most_records → addr ≡ get_or s (first_address_word + i) 0 → size ≡ get_or s (first_size_word + i) 0 → r ≡ result_at s (removal_of s) i → result_record s addr size r ≡ late_record s i
late-record s i h a z e = rw (address_is s i h, size_is s i h, a, z, e)

pub late-written : (s out : List ℕ) {n handle request l : ℕ} {out₁ out' : List ℕ} → n ≡ (removal_of s).count → handle ≡ (removal_of s).handle → request ≡ (removal_of s).request → (removal_of s).count ≤ most_records → output_bytes ≤ length out
    → (l ≡ reply_header_bytes + n * result_bytes) × (out₁ ≡ sets out 0 (memory_header handle DR-MEM-OK n request (n * result_bytes)))
    → out' ≡ sets out₁ reply_header_bytes (joined (late_record s) n)
    → (l ≡ length (late_reply s (removal_of s))) × (out' ≡ written (late_reply s (removal_of s)) out)
unfolding late_reply
late-written s out {n} {handle} {request} c h q few room first second =
    let r = results-stored handle request n (late_record s) (λ i. result-length s _ _ _) out (omega arith) room first second in
    let same : memory_reply handle DR-MEM-OK n request (joined (late_record s) n) ≡ late_reply s (removal_of s) = rw (c, h, q) in
    (r.long ∙ ap length same, r.output ∙ ap (λ (x : List ℕ). written x out) same)

-- What a sound state with a removal gives.
module _ (s : List ℕ) (good : sound s ≡ true) (out : is_set (outstanding_of s) ≡ true) where
  pub facts : RemovalFacts s (last_of s) (removal_of s)
  facts = ((sound-facts s good).removal out).facts

  pub fits : Fits s (removal_of s)
  fits = record { blocks = sound-in-order s good; records = facts.few }

  pub can-work : ((removal_of s).cancelled or all_settled (removal_of s)) ≡ false → CanWork s
  can-work e =
      let o = (sound-facts s good).removal out in
      record {
        is_sound = good;
        held = record { one = o.one; flag = o.flag };
        channel = facts.channels;
        fits = fits;
        more = leb-false _ _ (or-false _ _ e).1;
        room = facts.room;
      }

below-room : (n room pages : ℕ) → collected_sound n room ≡ true → room ≤ pages → 1 ≤ pages → n < pages
unfolding collected_sound pick
below-room n room pages e l some = go (eqb room 0) refl e
  where
    go : (b : Bool) → eqb room 0 ≡ b → pick b (eqb n 0) (ltb n room) ≡ true → n < pages
    go true q t = let z = eqb-true n 0 t in omega arith
    go false q t = let z = ltb-true n room t in omega arith

pub goes_on_lem : (s : List ℕ) (i : ℕ) → CanWork s → block_now s (removal_of s) ≡ Some i → GoesOn s (removal_of s) i
goes_on_lem s i w e =
    let less = named-less s (addr_now (removal_of s)) (size_now (removal_of s)) i e in
    let k = sound-block s i w.is_sound less in
    record {
      known = omega (arith, less, w.fits.blocks);
      place = omega (arith, w.more, w.fits.records);
      remain = below-room _ _ _ w.room room k.some;
    }
  where
    room : removal_room s (removal_of s) ≤ (block_at s i).pages
    room =
        unfold removal_room room_at in
        (on-pick (λ (n : ℕ). n ≤ (block_at s i).pages) _ _ _
        (λ _. rw e (on-pick (λ (n : ℕ). n ≤ (block_at s i).pages) _ _ _ (λ _. omega arith) (λ _. omega arith)))
        (λ _. omega arith))

-- The end.
module _ (s : List ℕ) (m : Removal) (out : List ℕ) {c request : ℕ} (p : c ≡ m.channel) (q : request ≡ m.request) {e : Event} {s' : List ℕ} where
  pub ends-replied : {code l : ℕ} {out' : List ℕ} → still_registered s m ≡ true → code ≡ end_code s m → (l ≡ length (late_reply s m)) × (out' ≡ written (late_reply s m) out) → e ≡ removal_end_event c code 1 request → s' ≡ without_removal s → Handles (ending s m) out l e s' out'
  unfolding ending pick
  ends-replied r k w notes state =
      rw r (record { length' = w.0; notes = notes ∙ rw (p, q, k); state = state; output = w.1 })

  pub ends-silent : {code : ℕ} → still_registered s m ≡ false → code ≡ end_code s m → e ≡ removal_end_event c code 0 request → s' ≡ without_removal s → Handles (ending s m) out 0 e s' out
  unfolding ending pick written
  ends-silent r k notes state =
      rw r (record { length' = refl; notes = notes ∙ rw (p, q, k); state = state; output = refl })

-- a block's flag is no part of the removal
module _ (s : List ℕ) (i : ℕ) (h : i < most_blocks) {t : List ℕ} (e : t ≡ with_configured s i 0) where
  flag-left : Agree s (with_configured s i 0) outstanding_word first_numbered_word
  flag-left j lo hi = configured-frame s i 0 j (λ a b. omega arith)

  pub removal-kept : removal_of t ≡ removal_of s
  removal-kept = ap removal_of e ∙ removal-same s (with_configured s i 0) flag-left

  pub held_kept : Held s → Held t
  held_kept k = rw e (record { one = flag-left outstanding_word (omega arith) (omega arith) ∙ k.one; flag = omega (arith, flag-left cancelled_word (omega arith) (omega arith), k.flag) })

-- The steps of block i.
pub collects-last : (s : List ℕ) (i : ℕ) {n : ℕ} {e : Event} {s₁ s' : List ℕ} → i < most_blocks → (removal_of s).collected + n ≡ (block_at s i).pages → s₁ ≡ with_configured s i 0
    → HandlesSilently (effect (settled_event (removal_of s₁).channel (removal_of s₁).position DR-MEM-RES-OK n i) (with_removal s₁ (settled (removal_of s₁) DR-MEM-RES-OK)) []) 0 e s'
    → HandlesSilently (collects s (removal_of s) i n) 0 e s'
unfolding collects pick
collects-last s i k q first h = rw (eq-eqb _ _ q, ← first) (rw (removal-kept s i k first) at h)

module _ (s : List ℕ) (m : Removal) (i : ℕ) {e : Event} {s' : List ℕ} where
  pub collects-some : {n : ℕ} → (m.collected + n ≡ (block_at s i).pages → ⊥) → s' ≡ with_removal s (collecting m n) → {c : ℕ} → c ≡ m.channel → e ≡ collected_event c n
      → HandlesSilently (collects s m i n) 0 e s'
  unfolding collects pick
  collects-some d state q notes = rw (ne_eqb _ _ d) (record { no_reply = refl; length' = refl; notes = notes ∙ rw q; state = state })

  pub works-nowork : (budget : ℕ) → (block_at s i).configured ≡ 0
      → HandlesSilently (effect (settled_event m.channel m.position DR-MEM-RES-NOWORK 0 i) (with_removal s (settled m DR-MEM-RES-NOWORK)) []) 0 e s'
      → StepsSilently (works_on s m i budget) 0 e 0 s'
  unfolding works_on pick
  works-nowork budget z h = rw (eq-eqb _ _ z) (record { handles = h; moves = refl })

  pub works-collects : (budget n : ℕ) {pages collected : ℕ} → ((block_at s i).configured ≡ 0 → ⊥) → pages ≡ (block_at s i).pages → collected ≡ m.collected → n ≡ min budget (pages - collected)
      → HandlesSilently (collects s m i n) 0 e s' → StepsSilently (works_on s m i budget) 0 e n s'
  unfolding works_on pages_moved pick
  works-collects budget n d p c q h =
      let q' : n ≡ min budget ((block_at s i).pages - m.collected) = rw (p, c) at q in
      rw (ne_eqb _ _ d, ← q') (record { handles = h; moves = refl })

-- The step by what was found.
module _ (s : List ℕ) (m : Removal) (budget : ℕ) (out : List ℕ) {l : ℕ} {e : Event} {n : ℕ} {s' out' : List ℕ} where
  pub at-permanent : (i : ℕ) → ((block_at s i).permanent ≡ 0 → ⊥) → HandlesStep (moving 0 (ending s m)) out l e n s' out' → HandlesStep (works_at s m budget (Some i)) out l e n s' out'
  unfolding works_at pick
  at-permanent i d h = rw (ne_eqb _ _ d) h

  pub at-movable : (i : ℕ) → (block_at s i).permanent ≡ 0 → out' ≡ out → StepsSilently (works_on s m i budget) l e n s' → HandlesStep (works_at s m budget (Some i)) out l e n s' out'
  unfolding works_at pick
  at-movable i z q h = rw (eq-eqb _ _ z, q) (record { handles = silent-handles out h.handles; moves = h.moves })

  pub at-nowhere : HandlesStep (moving 0 (ending s m)) out l e n s' out' → HandlesStep (works_at s m budget None) out l e n s' out'
  unfolding works_at
  at-nowhere h = h

module _ (s : List ℕ) (budget : ℕ) (out : List ℕ) {l : ℕ} {e : Event} {n : ℕ} {s' out' : List ℕ} where
  pub step-over : ((removal_of s).cancelled or all_settled (removal_of s)) ≡ true → HandlesStep (moving 0 (ending s (removal_of s))) out l e n s' out' → HandlesStep (working s budget) out l e n s' out'
  unfolding step_of pick
  step-over q h = rw q h

  pub step-found : ((removal_of s).cancelled or all_settled (removal_of s)) ≡ false → {x : Option ℕ} → x ≡ block_now s (removal_of s) → HandlesStep (works_at s (removal_of s) budget x) out l e n s' out' → HandlesStep (working s budget) out l e n s' out'
  unfolding step_of pick
  step-found q {x} f h = rw (q, ← f) h
