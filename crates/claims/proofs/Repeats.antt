-- A pair that stands twice, as specs/Repeats.antt states it.
-- Assumes nothing.
use Rattle.std.specs.Prelude.{Some}
use Prim.Native.Nat.{ℕ, ◌+◌, ◌*◌, ◌%◌, ◌^◌, ◌≤◌, ◌<◌}
use native.Mathlib.Omega.{arith}
use mathlib.Core.Path.{◌≡◌, refl, sym, ap, ◌∙◌}
use mathlib.Core.Bool.{true, false}
use mathlib.Core.List.{List, [], ◌++◌, append_assoc}
use lib.ListN.{length, get_or}
use lib.Seq.{get_or-set_same, take_at, drop_at}
use borrow.Author.Tests.{le-leb, le-ltb, eq-eqb, lt-ltb}
use Rattle.wire.specs.BigEndian.{bytes_of, number_at}
use Rattle.wire.proofs.Laws.{length-bytes, number-of-bytes}
use Rattle.basics.specs.Choice.{pick, ◌and◌, is_found, joined}
use Rattle.model.specs.declared.Event.{Event}
use Rattle.model.specs.Layout.{memory_service, reply_header_bytes, result_bytes, query_bytes, outstanding_of, removal_of, most_records, state_words, memory_header_bytes, is_set, outstanding_word, most_blocks, blocks_of, with_removal}
use Rattle.model.specs.Journal.{kind_settled, begun_event, kind_removal_end}
use Rattle.model.specs.declared.Request.TheVariants.{Configure, Query, Unconfigure}
use Rattle.model.specs.Memory.{DR-MEM-OK, DR-MEM-RES-NOWORK, Progress, addr_in, size_in, answered_memory, answering, answering_configure, blocked, configure_reply, configured_by, query_record, querying, request_number, request_of, requested, result_record, has_records, DR-MEM-CONFIGURE, DR-MEM-UNCONFIGURE, DR-MEM-QUERY, right_form, rises, new_removal, beginning, memory_reply}
use Rattle.model.specs.Messages.{Effect, effect}
use Rattle.model.specs.Work.{settled, WorkStep, working, ending, collects, pages_moved, late_reply, result_at}
use Rattle.model.specs.Calls.{Outcome, accepted, act, receive, work, effect_of, outcome, pages_of, refusal_of}
use Rattle.model.specs.Reading.{View, setup_view}
use Rattle.model.specs.Blocks.{named_block}
use Rattle.claims.specs.Demand3.{Run, Done, new_run, runs, noted, reached, reply_of}
use Rattle.claims.specs.EveryList.{AllMeet, OfEveryList}
use Rattle.claims.specs.Repeats.{Repeat, Repeats, Requests, Hears, Begun, request_in, SettledNowork, address_at, size_at, settled_unconfigured, result_in, answer_in}
use Rattle.model.specs.declared.Request.{Request}
use Rattle.model.specs.declared.Removal.{Removal}
use Rattle.effects.proofs.WorkEffects.{on_step}
use Rattle.model.proofs.Turns.{SameRemoval, same_blocks, new-removal}
use Rattle.basics.proofs.Choice.{on-pick, tabulate-at, pick-false}
use Rattle.model.proofs.Words.{number-frame, loaded-arrays}
use Rattle.model.proofs.View.{shape-moves}
use Rattle.claims.proofs.Steps.{Step, adds, nowork, ok, ends, step_of}
use Rattle.model.proofs.Replies.{behind, record-stands, result-length, query-length}
use Rattle.model.proofs.Rules.{sound-facts, Given}
use Rattle.effects.proofs.Effects.{shape, number-only, given-numbers}
use Rattle.effects.proofs.MemoryEffects.{numbered, new-arrays}
use Rattle.claims.proofs.Configured.{repeat-result}
use Rattle.effects.proofs.Taken.{taken}
use Rattle.model.proofs.Calls.{on-accepted}
use Rattle.claims.proofs.Kept.{noted-is}
use Rattle.claims.proofs.WorkKept.{work-allowed}
use Rattle.claims.proofs.Delivers.{channel-within, reached_by, reply-is, reached-of, memory-answers}
use Rattle.model.proofs.Setup.{marked_state, starts}
use Rattle.claims.proofs.Lists.{Kept, AfterCall, grown, shifted, on_list, meets-outcome}
use Rattle.claims.proofs.Demand3.{at_first, meets-before, meets-here}
use Rattle.claims.proofs.Settled.{settled-none, settled-turn, settled-counted, accepted-removal, NoworkKept, nowork-same, nowork-turn, counted-removal, repeat-unconfigured}

-- what a step that settles a repeat does
module _ (s : List ℕ) (q : settled_unconfigured s ≡ true) (few : (removal_of s).count ≤ most_records) (k : ℕ) (again : Repeat (address_at (removal_of s)) (size_at (removal_of s)) k (removal_of s).position) where
  nowork-step : (e : Effect) → Step s e → outstanding_of s ≡ 1 → e.event.kind ≡ kind_settled → (e.event.code ≡ DR-MEM-RES-NOWORK) × (get_or (removal_of e.state).result (removal_of s).position 0 ≡ DR-MEM-RES-NOWORK)
  nowork-step e (adds i n w b r d ev) o h = absurd (omega (arith, ap (λ (v : Event). v.kind) ev, h))
  nowork-step e (nowork i w b r z ev) o h = (
    ap (λ (v : Event). v.code) ev,
    rw r.removal (unfold settled in (get_or-set_same (removal_of s).result (removal_of s).position DR-MEM-RES-NOWORK 0 (omega (arith, (loaded-arrays s).results, w.more)))),
  )
  nowork-step e (ok i n w b other now r d ev) o h = absurd (d (repeat-unconfigured s q o k again i w.named))
  nowork-step e (ends b z y) o h = absurd (omega (arith, y, h))

-- an accepted step that settles a repeat
settles-nowork : (s j out : List ℕ) (budget : ℕ) (r : Outcome) → length s ≡ state_words → settled_unconfigured s ≡ true → r ≡ outcome s j (act (work budget) out) → r.refusal ≡ 0 → (noted r).kind ≡ kind_settled → (k : ℕ) → Repeat (address_at (removal_of s)) (size_at (removal_of s)) k (removal_of s).position → SettledNowork (removal_of s) r
settles-nowork s j out budget r size q same z settles k again =
    on-accepted (λ x. (noted x).kind ≡ kind_settled → SettledNowork (removal_of s) x) s j out (work budget) r same z go settles
  where
    go : (y : refusal_of s j out (work budget) ≡ 0) → (noted (accepted s j out (pages_of s (work budget)) (effect_of s (work budget)))).kind ≡ kind_settled → SettledNowork (removal_of s) (accepted s j out (pages_of s (work budget)) (effect_of s (work budget)))
    go y h =
        let t = taken s j out (work budget) size y in
        let n = noted-is s j out (pages_of s (work budget)) (effect_of s (work budget)) t in
        let one = t.given.facts.removal (work-allowed s j out budget y) in
        let step : Step s (effect_of s (work budget)) = unfold effect_of in (step_of s t.given (work-allowed s j out budget y) budget) in
        let p = nowork-step s q one.facts.few k again (effect_of s (work budget)) step one.one (ap (λ (v : Event). v.kind) (sym n) ∙ h) in
        record {
          in_entry = ap (λ (v : Event). v.code) n ∙ p.0;
          in_state = rw (accepted-removal s j out (pages_of s (work budget)) (effect_of s (work budget))).removal p.1;
        }

-- The result of record i in a reply of result records.
records-in : (s : List ℕ) (addr size result : ℕ → ℕ) (handle request n i : ℕ) → i < n → result_in (memory_reply handle DR-MEM-OK n request (joined (λ i. result_record s (addr i) (size i) (result i)) n)) i ≡ result i % 256 ^ 4
records-in s addr size result handle request n i h =
    let x =
    record-stands handle DR-MEM-OK n request n i result_bytes (λ i. result_record s (addr i) (size i) (result i)) (λ i. result-length s (addr i) (size i) (result i)) h in
    rw x.parts
    (behind x.before _ (reply_header_bytes + i * result_bytes) 16 4 x.long ∙ result-of (addr i) (size i) (result i) x.after)
  where
    result-of : (addr size result : ℕ) (rest : List ℕ) → number_at (result_record s addr size result ++ rest) 16 4 ≡ result % 256 ^ 4
    result-of addr size result rest =
        unfold result_record in
        (simp append_assoc
        (behind (bytes_of 8 addr) _ 8 8 4 (length-bytes 8 addr)
        ∙ behind (bytes_of 8 size) _ 8 0 4 (length-bytes 8 size)
        ∙ number-of-bytes 4 result _))

-- of a reply to CONFIGURE
result-in : (p : Progress) (handle request : ℕ) (b : List ℕ) (n i : ℕ) → i < n → result_in (configure_reply p handle request b n) i ≡ get_or p.results i 0 % 256 ^ 4
unfolding configure_reply
result-in p handle request b n i h =
    records-in p.state (addr_in b) (size_in b) (λ i. get_or p.results i 0) handle request n i h

-- of the late reply, of a settled record
late-result : (s : List ℕ) (m : Removal) (i : ℕ) → i < m.position → m.position ≤ m.count → result_in (late_reply s m) i ≡ get_or m.result i 0 % 256 ^ 4
unfolding late_reply
late-result s m i h w =
    records-in s (address_at m) (size_at m) (result_at s m) m.handle m.request m.count i (omega arith)
    ∙ ap (λ (x : ℕ). x % 256 ^ 4) settled-one
  where
    settled-one : result_at s m i ≡ get_or m.result i 0
    settled-one = unfold result_at pick in rw (lt-ltb i m.position h)

-- the reply of an end that has one
late_of : (s : List ℕ) (budget : ℕ) → (working s budget).effects.event.kind ≡ kind_removal_end → (working s budget).effects.event.count ≡ 1 → (working s budget).effects.reply ≡ late_reply s (removal_of s)
late_of s budget =
    on_step (λ (x : WorkStep). x.effects.event.kind ≡ kind_removal_end → x.effects.event.count ≡ 1 → x.effects.reply ≡ late_reply s (removal_of s)) s (removal_of s) budget
    (record {
      on_end =
          unfold ending in
          (on-pick (λ (e : Effect). e.event.kind ≡ kind_removal_end → e.event.count ≡ 1 → e.reply ≡ late_reply s (removal_of s)) _ _ _
          (λ _ k n. refl)
          (λ _ k n. absurd (omega arith)));
      on_nowork = λ i w z k n. absurd (omega arith);
      on_collect = λ i w d. collected-late i;
    })
  where
    collected-late : (i : ℕ) → (collects s (removal_of s) i (pages_moved s (removal_of s) i budget)).event.kind ≡ kind_removal_end → (collects s (removal_of s) i (pages_moved s (removal_of s) i budget)).event.count ≡ 1 → (collects s (removal_of s) i (pages_moved s (removal_of s) i budget)).reply ≡ late_reply s (removal_of s)
    collected-late i =
        unfold collects in
        (on-pick (λ (e : Effect). e.event.kind ≡ kind_removal_end → e.event.count ≡ 1 → e.reply ≡ late_reply s (removal_of s)) _ _ _
        (λ _ k n. absurd (omega arith))
        (λ _ k n. absurd (omega arith)))

-- an end that replies
replies-nowork : (s j out : List ℕ) (budget : ℕ) (r : Outcome) → length s ≡ state_words → NoworkKept s → r ≡ outcome s j (act (work budget) out) → r.refusal ≡ 0 → (noted r).kind ≡ kind_removal_end → (noted r).count ≡ 1 → (k i : ℕ) → i < (removal_of s).position → Repeat (address_at (removal_of s)) (size_at (removal_of s)) k i → result_in (reply_of r) i ≡ DR-MEM-RES-NOWORK
replies-nowork s j out budget r size q same z kind count k i h again =
    on-accepted (λ x. (noted x).kind ≡ kind_removal_end → (noted x).count ≡ 1 → result_in (reply_of x) i ≡ DR-MEM-RES-NOWORK) s j out (work budget) r same z go kind count
  where
    late : (e : Effect) → e ≡ (working s budget).effects → e.event.kind ≡ kind_removal_end → e.event.count ≡ 1 → e.reply ≡ late_reply s (removal_of s)
    late e x = rw x (late_of s budget)

    is-step : effect_of s (work budget) ≡ (working s budget).effects
    is-step = unfold effect_of in refl

    go : (y : refusal_of s j out (work budget) ≡ 0) → (noted (accepted s j out (pages_of s (work budget)) (effect_of s (work budget)))).kind ≡ kind_removal_end → (noted (accepted s j out (pages_of s (work budget)) (effect_of s (work budget)))).count ≡ 1 → result_in (reply_of (accepted s j out (pages_of s (work budget)) (effect_of s (work budget)))) i ≡ DR-MEM-RES-NOWORK
    go y a c =
        let t = taken s j out (work budget) size y in
        let n = noted-is s j out (pages_of s (work budget)) (effect_of s (work budget)) t in
        let one = t.given.facts.removal (work-allowed s j out budget y) in
        rw (reply-is s j out (pages_of s (work budget)) (effect_of s (work budget)), late (effect_of s (work budget)) is-step (ap (λ (v : Event). v.kind) (sym n) ∙ a) (ap (λ (v : Event). v.count) (sym n) ∙ c))
        (late-result s (removal_of s) i h one.facts.within
        ∙ ap (λ (x : ℕ). x % 256 ^ 4) (q one.one i k h again))

-- A request by its bytes is what the decoder says.
module _ (b : List ℕ) (type n : ℕ) (q : Requests b type n) where
  long : memory_header_bytes ≤ length b
  long = omega (arith, q.whole)

  has-records : has_records b ≡ true
  unfolding has_records ◌and◌
  has-records = rw (q.argument, le-leb 1 n q.some, le-leb n most_records q.few, eq-eqb _ _ q.whole)

  is-configure : type ≡ DR-MEM-CONFIGURE → request_of b ≡ Configure n
  unfolding request_of pick ◌and◌
  is-configure e = rw (le-ltb _ _ long, q.is_type, e, has-records, q.argument)

  is-unconfigure : type ≡ DR-MEM-UNCONFIGURE → request_of b ≡ Unconfigure n
  unfolding request_of pick ◌and◌
  is-unconfigure e = rw (le-ltb _ _ long, q.is_type, e, has-records, q.argument)

  is-query : type ≡ DR-MEM-QUERY → request_of b ≡ Query n
  unfolding request_of pick ◌and◌
  is-query e = rw (le-ltb _ _ long, q.is_type, e, has-records, q.argument)

-- one of right form whose number rises is carried out
risen-answer : (s : List ℕ) (c handle : ℕ) (b : List ℕ) (x : Request) → request_of b ≡ x → right_form x ≡ true → rises s c (request_number b) ≡ true → answered_memory s c handle b ≡ requested (numbered s c b) c handle (request_number b) b x
unfolding answered_memory pick ◌and◌
risen-answer s c handle b x e f h = rw (e, f, h)

-- while none is outstanding
module _ (s : List ℕ) (c handle request : ℕ) (b : List ℕ) (n : ℕ) (o : is_set (outstanding_of s) ≡ false) where
  configure-reply : (requested s c handle request b (Configure n)).reply ≡ configure_reply (configured_by s b n) handle request b n
  unfolding requested answering_configure answering
  configure-reply =
      rw (pick-false (is_set (outstanding_of s)) (blocked s c handle request b n) (answering_configure (configured_by s b n) c handle request b n) o)
      (on-pick (λ (e : Effect). e.reply ≡ configure_reply (configured_by s b n) handle request b n) _ _ _ (λ _. refl) (λ _. refl))

  unconfigure-is : requested s c handle request b (Unconfigure n) ≡ effect (begun_event c n request) (with_removal s (new_removal c handle request b n)) []
  unfolding requested beginning pick
  unconfigure-is = rw o

-- A memory request that is heard, and whose number rises.
module _ (s j out : List ℕ) (c handle : ℕ) (m : List ℕ) (r : Outcome) (size : length s ≡ state_words) (same : r ≡ outcome s j (act (receive c m) out)) (a : Hears s c m handle r) where
  record Answers (e : Effect) : Type 0 where
    few : blocks_of s ≤ most_blocks
    given : Given (numbered s c (request_in m))
    replies : reply_of r ≡ e.reply
    tells : noted r ≡ e.event
    removal : SameRemoval e.state r.state

  answers : (x : Request) → request_of (request_in m) ≡ x → right_form x ≡ true → Answers (requested (numbered s c (request_in m)) c handle (request_number (request_in m)) (request_in m) x)
  answers x q f =
      on-accepted (λ o. o ≡ r → Answers (requested (numbered s c (request_in m)) c handle (request_number (request_in m)) (request_in m) x)) s j out (receive c m) r same a.accepted go refl
    where
      go : refusal_of s j out (receive c m) ≡ 0 → accepted s j out (pages_of s (receive c m)) (effect_of s (receive c m)) ≡ r → Answers (requested (numbered s c (request_in m)) c handle (request_number (request_in m)) (request_in m) x)
      go y e =
          let t = taken s j out (receive c m) size y in
          let tells : reached_by handle (effect_of s (receive c m)) ≡ Some memory_service =
          sym (reached-of s j out (pages_of s (receive c m)) (effect_of s (receive c m)) t handle) ∙ ap (reached handle) e ∙ a.reaches in
          let is : effect_of s (receive c m) ≡ requested (numbered s c (request_in m)) c handle (request_number (request_in m)) (request_in m) x =
          memory-answers s c handle m a.is_data tells ∙ risen-answer s c handle (request_in m) x q f a.is_higher in
          record {
            few = t.given.facts.base.few;
            given = given-numbers s (numbered s c (request_in m)) (number-only s c 1 (request_number (request_in m)) (channel-within s j out c m y)) t.given;
            replies = ap reply_of (sym e) ∙ reply-is s j out (pages_of s (receive c m)) (effect_of s (receive c m)) ∙ ap (λ (x : Effect). x.reply) is;
            tells = ap noted (sym e) ∙ noted-is s j out (pages_of s (receive c m)) (effect_of s (receive c m)) t ∙ ap (λ (x : Effect). x.event) is;
            removal = rw (← e, ← is) (accepted-removal s j out (pages_of s (receive c m)) (effect_of s (receive c m)));
          }

  -- none is outstanding
  none-now : outstanding_of s ≡ 0 → is_set (outstanding_of (numbered s c (request_in m))) ≡ false
  none-now o = rw (number-frame s c 1 (request_number (request_in m)) outstanding_word (omega arith) (omega arith), o)

  -- a repeat in a CONFIGURE
  configures-nowork : (n k i : ℕ) → Requests (request_in m) DR-MEM-CONFIGURE n → outstanding_of s ≡ 0 → i < n → Repeat (addr_in (request_in m)) (size_in (request_in m)) k i → ((q : ℕ) → q < i → is_found (named_block s (addr_in (request_in m) q) (size_in (request_in m) q)) ≡ true) → result_in (reply_of r) i ≡ DR-MEM-RES-NOWORK
  configures-nowork n k i q o h again f =
      let x = answers (Configure n) (is-configure (request_in m) DR-MEM-CONFIGURE n q refl) refl in
      let same = (same_blocks s (numbered s c (request_in m)) x.few (λ j lo hi. number-frame s c 1 (request_number (request_in m)) j (omega arith) (omega arith))).sizes.named in
      rw (x.replies, configure-reply (numbered s c (request_in m)) c handle (request_number (request_in m)) (request_in m) n (none-now o))
      (result-in (configured_by (numbered s c (request_in m)) (request_in m) n) handle (request_number (request_in m)) (request_in m) n i h
      ∙ ap (λ (y : ℕ). y % 256 ^ 4)
      (repeat-result (numbered s c (request_in m)) x.given (request_in m) n k i h again.earlier again.same_address again.same_size
      (λ p l. rw (same (addr_in (request_in m) p) (size_in (request_in m) p)) (f p l))))

  -- an UNCONFIGURE
  begins-all : (n : ℕ) → Requests (request_in m) DR-MEM-UNCONFIGURE n → outstanding_of s ≡ 0 → Begun (request_in m) n r
  begins-all n q o =
      let x = answers (Unconfigure n) (is-unconfigure (request_in m) DR-MEM-UNCONFIGURE n q refl) refl in
      let e = unconfigure-is (numbered s c (request_in m)) c handle (request_number (request_in m)) (request_in m) n (none-now o) in
      let w =
      new-removal (numbered s c (request_in m)) (new_removal c handle (request_number (request_in m)) (request_in m) n) x.given.size
      (new-arrays c handle (request_number (request_in m)) (request_in m) n) in
      let one : outstanding_of r.state ≡ 1 = x.removal.outstanding ∙ ap (λ (y : Effect). outstanding_of y.state) e ∙ w.one in
      let is : removal_of r.state ≡ new_removal c handle (request_number (request_in m)) (request_in m) n =
      x.removal.removal ∙ ap (λ (y : Effect). removal_of y.state) e ∙ w.removal in
      record {
        in_entry = ap (λ (v : Event). v.kind) (x.tells ∙ ap (λ (y : Effect). y.event) e);
        outstanding = one;
        count = rw is (unfold new_removal in refl);
        addresses = λ i h. rw is (unfold new_removal in (tabulate-at (λ (i : ℕ). addr_in (request_in m) i) most_records i 0 (omega (arith, q.few))));
        sizes = λ i h. rw is (unfold new_removal in (tabulate-at (λ (i : ℕ). size_in (request_in m) i) most_records i 0 (omega (arith, q.few))));
      }

  -- a repeat in a QUERY
  query-answer : (n : ℕ) → Requests (request_in m) DR-MEM-QUERY n → (i : ℕ) → i < n → answer_in (reply_of r) i ≡ query_record (numbered s c (request_in m)) (addr_in (request_in m) i) (size_in (request_in m) i)
  query-answer n q i h =
      let x = answers (Query n) (is-query (request_in m) DR-MEM-QUERY n q refl) refl in
      rw x.replies go
    where
      go : answer_in (requested (numbered s c (request_in m)) c handle (request_number (request_in m)) (request_in m) (Query n)).reply i ≡ query_record (numbered s c (request_in m)) (addr_in (request_in m) i) (size_in (request_in m) i)
      go =
          unfold requested querying answering in
          (let x =
          record-stands handle DR-MEM-OK n (request_number (request_in m)) n i query_bytes (λ i. query_record (numbered s c (request_in m)) (addr_in (request_in m) i) (size_in (request_in m) i)) (λ i. query-length (numbered s c (request_in m)) (addr_in (request_in m) i) (size_in (request_in m) i)) h in
          rw (x.parts, drop_at x.before _ (reply_header_bytes + i * query_bytes) x.long)
          (take_at (query_record (numbered s c (request_in m)) (addr_in (request_in m) i) (size_in (request_in m) i)) x.after query_bytes (query-length (numbered s c (request_in m)) (addr_in (request_in m) i) (size_in (request_in m) i))))

  queries-again : (n k i : ℕ) → Requests (request_in m) DR-MEM-QUERY n → i < n → Repeat (addr_in (request_in m)) (size_in (request_in m)) k i → (answer_in (reply_of r) i ≡ answer_in (reply_of r) k) × (length (answer_in (reply_of r) i) ≡ query_bytes)
  queries-again n k i q h again = (
    query-answer n q i h ∙ sym (query-answer n q k (omega (arith, again.earlier)) ∙ rw (again.same_address, again.same_size)),
    ap length (query-answer n q i h) ∙ query-length (numbered s c (request_in m)) (addr_in (request_in m) i) (size_in (request_in m) i),
  )

-- Every list: each call keeps the blocks of the settled records unconfigured, and repeats NOWORK.
abbrev Invariant : Run → Type 0
Invariant u = (settled_unconfigured u.state ≡ true) × NoworkKept u.state

after_call : (b : View) (u : Run) → Kept b u → Invariant u → AfterCall Invariant u
unfolding grown shifted
after_call b u k q = record {
  on_act =
      λ a out z.
      let t = taken u.state u.journal out a k.size z in (
        settled-counted (effect_of u.state a).state _ _ (shape-moves t.good.moves (shape u.state t.given)).few
            (settled-turn u.state (effect_of u.state a) t.good.turn q.0),
        nowork-same (effect_of u.state a).state _ (counted-removal (effect_of u.state a).state _ _)
            (nowork-turn u.state (effect_of u.state a) t.good.turn q.0 q.1),
      );
  on_drain =
      λ n h. (
        settled-counted u.state _ _ (sound-facts u.state k.sounds).base.few q.0,
        nowork-same u.state _ (counted-removal u.state _ _) q.1,
      );
  on_refusal = q;
}

pub repeats : OfEveryList (λ l s j ds. Repeats s j ds)
repeats l r j₀ j ds e z m = record {
  unconfigured = (all ds m).1.0;
  settles =
      λ before later budget out o k q y settles again.
      let m' = rw q at m in
      let here = all before (meets-before (new_run r.state j) before _ m') in
      settles-nowork (runs (new_run r.state j) before).state (runs (new_run r.state j) before).journal out budget o here.0.size here.1.0
      (meets-outcome (meets-here (new_run r.state j) before _ later m')) y settles k again;
  replies =
      λ before later budget out o k i q y kind count h again.
      let m' = rw q at m in
      let here = all before (meets-before (new_run r.state j) before _ m') in
      replies-nowork (runs (new_run r.state j) before).state (runs (new_run r.state j) before).journal out budget o here.0.size here.1.1
      (meets-outcome (meets-here (new_run r.state j) before _ later m')) y kind count k i h again;
  begins =
      λ before later c handle msg out o n q a f none.
      let m' = rw q at m in
      let here = all before (meets-before (new_run r.state j) before _ m') in
      begins-all (runs (new_run r.state j) before).state (runs (new_run r.state j) before).journal out c handle msg o here.0.size
      (meets-outcome (meets-here (new_run r.state j) before _ later m')) a n f none;
  configures =
      λ before later c handle msg out o n k i q a f none h again d.
      let m' = rw q at m in
      let here = all before (meets-before (new_run r.state j) before _ m') in
      configures-nowork (runs (new_run r.state j) before).state (runs (new_run r.state j) before).journal out c handle msg o here.0.size
      (meets-outcome (meets-here (new_run r.state j) before _ later m')) a n k i f none h again d;
  queries =
      λ before later c handle msg out o n k i q a f h again.
      let m' = rw q at m in
      let here = all before (meets-before (new_run r.state j) before _ m') in
      queries-again (runs (new_run r.state j) before).state (runs (new_run r.state j) before).journal out c handle msg o here.0.size
      (meets-outcome (meets-here (new_run r.state j) before _ later m')) a n k i f h again;
}
  where
    all : (ds : List Done) → AllMeet (new_run r.state j) ds → Kept (setup_view l) (runs (new_run r.state j) ds) × Invariant (runs (new_run r.state j) ds)
    all ds m =
        let f = at_first l r j₀ j e z in
        let o = (starts l f.accepted).outstanding in
        on_list (setup_view l) Invariant (after_call (setup_view l)) (new_run r.state j) ds m f.kept
        (rw f.state (settled-none (marked_state l) o, λ one. absurd (omega (arith, one, o))))
