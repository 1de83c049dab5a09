-- A removal's numbers, the fields of STATUS's record, and what each answer does, from what its parts do.
-- Assumes nothing.
use Rattle.std.specs.Prelude.{Option, Some, None}
use mathlib.Core.Path.{◌≡◌, refl, sym, ◌∙◌, subst}
use mathlib.Core.Bool.{Bool, true, false, not}
use mathlib.Core.List.{List, []}
use Prim.Native.Nat.{ℕ, ◌+◌, ◌*◌, ◌<◌, ◌≤◌}
use native.Mathlib.Omega.{arith}
use lib.ListN.{length, get_or}
use lib.Seq.{sets}
use borrow.Author.Tests.{lt-ltb, le-ltb, eqb-true, ltb-true}
use Rattle.wire.specs.BigEndian.{bytes_of}
use Rattle.wire.proofs.Laws.{sets-whole}
use Rattle.basics.specs.Choice.{pick, ◌and◌, joined}
use Rattle.model.specs.declared.Event.{Event}
use Rattle.model.specs.declared.Removal.{Removal}
use Rattle.model.specs.declared.Request.{Request}
use Rattle.model.specs.declared.Request.TheVariants.{Configure, Unconfigure, Query, Status, Cancel, Malformed}
use Rattle.model.specs.Layout.{memory_service, collected_word, count_word, first_size_word, position_word, removal_of, is_set, memory_header_bytes, most_records, output_bytes, outstanding_of, pair_bytes, reply_header_bytes, result_bytes, status_bytes, with_number, with_removal}
use Rattle.model.specs.Blocks.{named_block, most_pages, page_size}
use Rattle.model.specs.State.{sound, collected_sound, removal_room, room_at, room_of}
use Rattle.model.specs.Journal.{code_none, answered_event, cancelled_event, code_blocked}
use Rattle.model.specs.Messages.{effect}
use Rattle.model.specs.Memory.{DR-MEM-OK, DR-MEM-RES-BLOCKED, addr_in, answering, answered_memory, answering_error, request_number, requested, right_form, rises, argument_of, blocked, cancelling, has_records, marked, memory_reply, reporting, request_of, result_record, size_in, status_record}
use Rattle.model.specs.Handler.{Handles}
use Rattle.basics.proofs.Choice.{on-pick, both, and-false, and-false-right}
use Rattle.model.proofs.Rules.{sound-facts, sound-block}
use Rattle.model.proofs.Sounds.{named-less}
use Rattle.model.proofs.Replies.{result-length, status-length}
use Rattle.removal_state.proofs.Laws.{collected-is, count-is, position-is, size_is}
use Rattle.requests.proofs.Laws.{counted}
use Rattle.records.specs.Header.{memory_header}
use Rattle.records.proofs.Parts.{reply-length, reply-stored, results-stored}

-- A sound removal's numbers.
collected-fits : (collected room : ℕ) → collected_sound collected room ≡ true → collected ≤ room
unfolding collected_sound
collected-fits collected room =
    on-pick (λ (t : Bool). t ≡ true → collected ≤ room) _ _ _
    (λ z e. omega (arith, eqb-true collected 0 e))
    (λ z e. omega (arith, ltb-true collected room e))

room_fits : (s : List ℕ) (addr size : ℕ) → sound s ≡ true → room_of s addr size ≤ most_pages
room_fits s addr size e = go (named_block s addr size) refl
  where
    go : (x : Option ℕ) → named_block s addr size ≡ x → room_at s x ≤ most_pages
    go (Some i) q =
        unfold room_at in
        (on-pick (λ (n : ℕ). n ≤ most_pages) _ _ _
        (λ t. (sound-block s i e (named-less s addr size i q)).few)
        (λ _. omega arith))
    go None q = unfold room_at in (omega arith)

removal-room-fits : (s : List ℕ) (m : Removal) → sound s ≡ true → removal_room s m ≤ most_pages
unfolding removal_room
removal-room-fits s m e = on-pick (λ (n : ℕ). n ≤ most_pages) _ _ _ (λ _. room_fits s _ _ e) (λ _. omega arith)

pub removal-fits : (s : List ℕ) → sound s ≡ true → is_set (outstanding_of s) ≡ true → ((removal_of s).count ≤ most_records) × ((removal_of s).collected ≤ most_pages)
removal-fits s e o =
    let f = ((sound-facts s e).removal o).facts in
    (f.few, omega (arith, collected-fits _ _ f.room, removal-room-fits s (removal_of s) e))

-- the two fields of STATUS's record fill its part
module _ (part : List ℕ) (m : Removal) (long : length part ≡ status_bytes) {p₁ p₂ : List ℕ} where
  status-some : m.position < m.count → p₁ ≡ sets part 0 (bytes_of 8 (get_or m.size m.position 0)) → p₂ ≡ sets p₁ 8 (bytes_of 8 (m.collected * page_size)) → p₂ ≡ status_record m
  status-some h e₁ e₂ = stored ∙ sets-whole (status_record m) part (long ∙ sym (status-length m))
    where
      stored : p₂ ≡ sets part 0 (status_record m)
      stored = unfold status_record pick bytes_of in rw (lt-ltb _ _ h, e₂, e₁)

  status-settled : m.count ≤ m.position → p₁ ≡ sets part 0 (bytes_of 8 0) → p₂ ≡ sets p₁ 8 (bytes_of 8 0) → p₂ ≡ status_record m
  status-settled h e₁ e₂ = stored ∙ sets-whole (status_record m) part (long ∙ sym (status-length m))
    where
      stored : p₂ ≡ sets part 0 (status_record m)
      stored = unfold status_record pick bytes_of in rw (le-ltb _ _ h, e₂, e₁)

-- by the words that were read
module _ (part s : List ℕ) (long : length part ≡ status_bytes) (few : (removal_of s).count ≤ most_records) {position count : ℕ} (p : position ≡ get_or s position_word 0) (n : count ≡ get_or s count_word 0) where
  pub told-some : {size collected : ℕ} {p₁ p₂ : List ℕ} → position < count → size ≡ get_or s (first_size_word + position) 0 → collected ≡ get_or s collected_word 0 → p₁ ≡ sets part 0 (bytes_of 8 size) → p₂ ≡ sets p₁ 8 (bytes_of 8 (collected * page_size)) → p₂ ≡ status_record (removal_of s)
  told-some {size} l z c e₁ e₂ =
      let below : position < most_records = omega (arith, count-is s n) in
      let size-now : size ≡ get_or (removal_of s).size (removal_of s).position 0 = rw (← position-is s p) (z ∙ sym (size_is s position below)) in
      status-some part (removal_of s) long (rw (← position-is s p, ← count-is s n) l) (rw size-now at e₁) (rw (collected-is s c) at e₂)

  pub told-settled : {p₁ p₂ : List ℕ} → count ≤ position → p₁ ≡ sets part 0 (bytes_of 8 0) → p₂ ≡ sets p₁ 8 (bytes_of 8 0) → p₂ ≡ status_record (removal_of s)
  told-settled l e₁ e₂ = status-settled part (removal_of s) long (rw (← position-is s p, ← count-is s n) l) e₁ e₂

-- STATUS and CANCEL.
-- the answer where there is nothing to tell or to change
abbrev pub Unchanged : List ℕ → List ℕ → ℕ → ℕ → ℕ → ℕ → Event → List ℕ → Type 0
Unchanged s out c handle request l e out' =
    Handles (answering s c code_none request (memory_reply handle DR-MEM-OK 0 request [])) out l e s out'

module _ (s out : List ℕ) (c handle request : ℕ) {l : ℕ} {e : Event} {out' : List ℕ} where
  pub report-none : false ≡ is_set (outstanding_of s) → Unchanged s out c handle request l e out' → Handles (reporting s c handle request) out l e s out'
  unfolding reporting pick
  report-none f h = rw (← f) h

  pub cancel-idle : false ≡ is_set (outstanding_of s) → Unchanged s out c handle request l e out' → Handles (cancelling s c handle request) out l e s out'
  unfolding cancelling pick ◌and◌
  cancel-idle f h = rw (← f) h

  pub cancel-again : true ≡ is_set (outstanding_of s) → (removal_of s).cancelled ≡ true → Unchanged s out c handle request l e out' → Handles (cancelling s c handle request) out l e s out'
  unfolding cancelling pick ◌and◌
  cancel-again t k h = rw (← t, k) h

  pub cancel-marks : {s' : List ℕ} {e' : Event} → true ≡ is_set (outstanding_of s) → (removal_of s).cancelled ≡ false → Unchanged s out c handle request l e out' → s' ≡ with_removal s (marked (removal_of s)) → e' ≡ cancelled_event c request → Handles (cancelling s c handle request) out l e' s' out'
  unfolding cancelling answering pick ◌and◌
  cancel-marks {s'} {e'} t k h f n =
      rw (← t)
      (subst (λ (b : Bool). Handles (pick (not b) (effect (cancelled_event c request) (with_removal s (marked (removal_of s))) (memory_reply handle DR-MEM-OK 0 request [])) (answering s c code_none request (memory_reply handle DR-MEM-OK 0 request []))) out l e' s' out')
      (sym k)
      (record { length' = h.length'; notes = n; state = f; output = h.output }))

pub report-some : (s out : List ℕ) (c handle request : ℕ) {e : Event} {out₁ out' : List ℕ} → true ≡ is_set (outstanding_of s) → e ≡ answered_event c memory_service code_none request → output_bytes ≤ length out → out₁ ≡ sets out 0 (memory_header handle DR-MEM-OK 1 request status_bytes) → out' ≡ sets out₁ reply_header_bytes (status_record (removal_of s)) → Handles (reporting s c handle request) out (reply_header_bytes + status_bytes) e s out'
unfolding reporting answering pick
report-some s out c handle request t n room h w =
    rw (← t)
    (record {
      length' = reply-length handle DR-MEM-OK 1 request (status_record (removal_of s)) out (status-length (removal_of s));
      notes = n;
      state = refl;
      output = reply-stored handle DR-MEM-OK 1 request (status_record (removal_of s)) out status_bytes (status-length (removal_of s)) (omega arith) h w;
    })

-- the record of a pair that was read
pub pair_same : (s b : List ℕ) (i r : ℕ) {addr size : ℕ} → addr ≡ addr_in b i → size ≡ size_in b i → result_record s addr size r ≡ result_record s (addr_in b i) (size_in b i) r
pair_same s b i r a z = rw (a, z)

-- every record BLOCKED
pub block-handles : (s b out : List ℕ) (c handle request n : ℕ) {l : ℕ} {e : Event} {out₁ out' : List ℕ} → n ≤ most_records → output_bytes ≤ length out
    → (l ≡ reply_header_bytes + n * result_bytes) × (out₁ ≡ sets out 0 (memory_header handle DR-MEM-OK n request (n * result_bytes)))
    → out' ≡ sets out₁ reply_header_bytes (joined (λ i. result_record s (addr_in b i) (size_in b i) DR-MEM-RES-BLOCKED) n)
    → e ≡ answered_event c memory_service code_blocked request → Handles (blocked s c handle request b n) out l e s out'
unfolding blocked answering
block-handles s b out c handle request n few room h w notes =
    let r = results-stored handle request n (λ i. result_record s (addr_in b i) (size_in b i) DR-MEM-RES-BLOCKED) (λ i. result-length s (addr_in b i) (size_in b i) DR-MEM-RES-BLOCKED) out few room h w in
    record { length' = r.long; notes = notes; state = refl; output = r.output }

-- A request with records has the most, and all their bytes.
abbrev pub Whole : List ℕ → ℕ → Type 0
Whole b n = (n ≤ most_records) × (length b ≡ memory_header_bytes + n * pair_bytes)

abbrev pub Formed : List ℕ → Request → Type 0
Formed b (Configure n) = Whole b n
Formed b (Unconfigure n) = Whole b n
Formed b (Query n) = Whole b n
Formed b Status = Unit {0}
Formed b Cancel = Unit {0}
Formed b Malformed = Unit {0}

formed-all : (b : List ℕ) → Formed b (request_of b)
unfolding request_of
formed-all b =
    on-pick (Formed b) _ _ _ (λ e. tt)
    (λ _. on-pick (Formed b) _ _ _ (λ e. some (both _ _ e).1)
    (λ _. on-pick (Formed b) _ _ _ (λ e. some (both _ _ e).1)
    (λ _. on-pick (Formed b) _ _ _ (λ e. some (both _ _ e).1)
    (λ _. on-pick (Formed b) _ _ _ (λ e. tt)
    (λ _. on-pick (Formed b) _ _ _ (λ e. tt) (λ e. tt))))))
  where
    some : has_records b ≡ true → Whole b (argument_of b)
    some e = let k = counted b e in (k.few, k.whole)

pub formed : (b : List ℕ) {x : Request} (y : Request) → x ≡ request_of b → x ≡ y → Formed b y
formed b y e d = subst (Formed b) (sym e ∙ d) (formed-all b)

-- A request's form and its number.
module _ (s : List ℕ) (c handle : ℕ) (b : List ℕ) {request : ℕ} {asked : Request} (n : request ≡ request_number b) (a : asked ≡ request_of b) where
  pub form-error : false ≡ right_form asked → answering_error s c handle request ≡ answered_memory s c handle b
  unfolding answered_memory pick
  form-error z = sym (rw (← n, ← a, ← z, and-false false (rises s c request) refl))

  pub number-error : false ≡ rises s c request → answering_error s c handle request ≡ answered_memory s c handle b
  unfolding answered_memory pick
  number-error z = sym (rw (← n, ← a, ← z, and-false-right (right_form asked) false refl))

  pub number-risen : true ≡ right_form asked → true ≡ rises s c request → requested (with_number s c 1 request) c handle request b asked ≡ answered_memory s c handle b
  unfolding answered_memory pick ◌and◌
  number-risen z w = sym (rw (← n, ← a, ← z, ← w))
