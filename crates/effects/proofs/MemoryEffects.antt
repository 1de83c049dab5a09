-- The memory requests: a splitter over what each does, and their effects, as Effects.antt shows of the others.
-- Assumes nothing.
use Rattle.std.specs.Prelude.{Option, Some, None}
use Prim.Native.Nat.{ℕ, zero, suc, ◌+◌, ◌^◌, ◌≤◌, ◌<◌}
use native.Mathlib.Omega.{arith}
use mathlib.Core.Path.{◌≡◌, refl, sym, ap, ◌∙◌}
use mathlib.Core.Bool.{Bool, true, false}
use mathlib.Core.List.{List, []}
use lib.ListN.{length, get_or, length-replicate}
use lib.Dec.{ltb, eqb}
use borrow.Author.Tests.{leb-true, eqb-true, eqb-false, lt-ltb, not-false}
use Rattle.basics.specs.Choice.{pick, ◌or◌, every}
use Rattle.model.specs.declared.Event.{Event}
use Rattle.model.specs.declared.Removal.{Removal}
use Rattle.model.specs.declared.Request.{Request}
use Rattle.model.specs.declared.Request.TheVariants.{Configure, Unconfigure, Query, Status, Cancel, Malformed}
use Rattle.model.specs.Layout.{memory_service, device_count_word, state_words, blocks_of, block_at, last_of, outstanding_of, is_set, removal_of, with_configured, with_removal, with_number, last_word, most_blocks, most_records, output_bytes, outstanding_word, no_block, channel_count}
use Rattle.model.specs.State.{collected_sound, results_sound}
use Rattle.model.specs.Journal.{fields_of, answered_event, configured_event, cancelled_event, begun_event, code_blocked, code_error, code_none}
use Rattle.model.specs.Messages.{Effect, effect}
use Rattle.model.specs.Memory.{argument_of, addr_in, size_in, has_records, request_of, request_number, memory_reply, answering, answering_error, blocked, Progress, one_failed, one_configured, one_unchanged, configure_one, configured_by, configure_reply, answering_configure, beginning, querying, reporting, marked, cancelling, requested, answered_memory, DR-MEM-OK, configure_at, new_removal}
use Rattle.model.specs.Reading.{handle_in, read_in, settled_block, View, removing, see_blocks, configured_in, marked_removal, blocks_shown, removal_shown, view_of, see_removal}
use Rattle.basics.proofs.Choice.{on-pick, both, tabulate-length}
use Rattle.model.proofs.Words.{Agree, Arrays, loaded-arrays, configured-frame, removal-above, removal-frame}
use Rattle.model.proofs.Above.{leaves_above}
use Rattle.model.proofs.Peers.{leaves_channels, up-to-noted, leaves_as_read}
use Rattle.model.proofs.View.{Moves, shape-moves, stays, then, turns, configured-moves, removal-moves}
use Rattle.model.proofs.Rules.{Base, Ours, RemovalFacts, Given}
use Rattle.effects.proofs.Events.{Fits, code_end, answered-fits, configured-fits, begun-fits, cancelled-fits}
use Rattle.model.proofs.Sounds.{named-less, base-configured, base-removal, removes-made, removes-none}
use Rattle.model.proofs.Turns.{SameSizes, SameBlocks, NewRemoval, Turn, configures, begins, marks, aside, same-sizes, sizes-then, flag-sizes, removal-blocks, new-removal}
use Rattle.model.proofs.Mask.{configured-none, configured-more, bit-none, bit-within, none_within}
use Rattle.model.proofs.Replies.{short-empty, memory-length, results-short, queries-short, result-length, query-length, status-length}
use Rattle.model.specs.Replay.{is_removing}
use Rattle.effects.proofs.Needs.{answered-needs, configured-needs, begun-needs, cancelled-needs}
use Rattle.model.proofs.Shown.{Reaches}
use Rattle.effects.proofs.Effects.{Good, read_by, needed_by, shape, next-number, base-now, removes-now, unchanged, number-only, given-numbers, good-numbers, reaches-numbers}
use Rattle.model.specs.Blocks.{named_block}
use Rattle.model.proofs.View.{shown-at, shown-length, blocks-count}

-- no pages collected are sound wherever the removal stands
pub collected-none : (room : ℕ) → collected_sound 0 room ≡ true
unfolding collected_sound pick
collected-none room = go (eqb room 0) refl
  where
    go : (b : Bool) → eqb room 0 ≡ b → pick b true (ltb 0 room) ≡ true
    go true z = refl
    go false z = lt-ltb 0 room (some room (eqb-false room 0 z))
      where
        some : (x : ℕ) → (x ≡ 0 → ⊥) → 0 < x
        some x n = omega arith

-- the arrays of a new removal
pub new-arrays : (c handle request : ℕ) (b : List ℕ) (n : ℕ) → Arrays (new_removal c handle request b n)
unfolding new_removal
new-arrays c handle request b n = record {
  addresses = tabulate-length (λ (i : ℕ). addr_in b i) most_records;
  sizes = tabulate-length (λ (i : ℕ). size_in b i) most_records;
  results = length-replicate {A = ℕ} most_records 0;
}

-- CONFIGURE after some records: the blocks of the mask are configured, and nothing else is changed.
pub record Configures (s : List ℕ) (p : Progress) : Type 0 where
  pub moves : Moves s p.state (λ v. see_blocks (configured_in p.mask v.blocks) v)
  pub base : Base p.state (last_of s + 1)
  pub removal : outstanding_of p.state ≡ outstanding_of s
  pub sizes : SameSizes s p.state
  pub within : p.mask < 2 ^ blocks_of s
  pub above : Agree s p.state device_count_word state_words
  pub channels : Agree s p.state 0 channel_count

module _ (s : List ℕ) (g : Given s) where
  configured-first : Configures s (record { state = s; mask = 0; failed = false; results = [] })
  unfolding see_blocks
  configured-first = record {
    moves = turns _ (stays s) (rw (configured-none (view_of s).blocks));
    base = base-now s g;
    removal = refl;
    sizes = same-sizes s;
    within = none_within (blocks_of s);
    above = λ j lo hi. refl;
    channels = λ j lo hi. refl;
  }

  configured-another : (p : Progress) (k : ℕ) → Configures s p → k < blocks_of p.state → (block_at p.state k).configured ≡ 0 → Configures s (one_configured p k)
  unfolding one_configured see_blocks view_of
  configured-another p k r h z =
      let w = shape-moves r.moves (shape s g) in
      let few : k < most_blocks = omega (arith, w.few) in
      let shown : blocks_shown p.state ≡ configured_in p.mask (blocks_shown s) =
      ap (λ (v : View). v.blocks) r.moves.view in
      let here : get_or (configured_in p.mask (blocks_shown s)) k no_block ≡ block_at p.state k =
      rw (← shown) (shown-at p.state k h) in
      let within : k < length (blocks_shown s) = omega (arith, shown-length s, r.moves.blocks) in
      let bit = bit-none p.mask (blocks_shown s) k no_block within (rw here z) in
      let more = configured-more p.mask (blocks_shown s) k no_block within bit in
      record {
        moves =
            turns _ (then r.moves (configured-moves p.state w k 1 few))
            (rw (more, here));
        base = base-configured p.state k 1 w.size w.few h (last_of s + 1) (omega arith) (λ q. refl) r.base;
        removal = configured-frame p.state k 1 outstanding_word (λ a b. omega arith) ∙ r.removal;
        sizes = sizes-then s p.state (with_configured p.state k 1) r.sizes (flag-sizes p.state k 1 w.size w.few h);
        within = bit-within p.mask k (blocks_of s) bit (omega (arith, r.moves.blocks)) r.within;
        above = λ j lo hi. configured-frame p.state k 1 j (λ a b. omega arith) ∙ r.above j lo hi;
        channels = λ j lo hi. configured-frame p.state k 1 j (λ a b. omega arith) ∙ r.channels j lo hi;
      }

  configured-one : (p : Progress) (addr size : ℕ) → Configures s p → Configures s (configure_one p addr size)
  unfolding configure_one
  configured-one p addr size r =
      on-pick (Configures s) _ _ _ (λ e. failed) (λ e. go (named_block p.state addr size) refl)
    where
      failed : Configures s (one_failed p)
      failed = unfold one_failed in record { moves = r.moves; base = r.base; removal = r.removal; sizes = r.sizes; within = r.within; above = r.above; channels = r.channels }

      unchanged-one : Configures s (one_unchanged p)
      unchanged-one = unfold one_unchanged in record { moves = r.moves; base = r.base; removal = r.removal; sizes = r.sizes; within = r.within; above = r.above; channels = r.channels }

      go : (x : Option ℕ) → named_block p.state addr size ≡ x → Configures s (configure_at p x)
      go (Some i) e =
          unfold configure_at in
          (on-pick (Configures s) _ _ _
          (λ z. configured-another p i r (named-less p.state addr size i e) (eqb-true _ 0 z))
          (λ z. unchanged-one))
      go None e = unfold configure_at in failed

  pub configured-all : (b : List ℕ) (n : ℕ) → Configures s (configured_by s b n)
  unfolding configured_by
  configured-all b zero = configured-first
  configured-all b (suc n) = configured-one (configured_by s b n) (addr_in b n) (size_in b n) (configured-all b n)

  -- Blocks configured while none is outstanding.
  blocks-changed : (e : Event) (reply : List ℕ) (p : Progress) → Fits (last_of s + 1) e → read_by s e (view_of s) ≡ see_blocks (configured_in p.mask (view_of s).blocks) (view_of s) → length reply ≤ output_bytes → outstanding_of s ≡ 0 → Configures s p → aside e.kind ≡ true → leaves_channels e.kind ≡ true → needed_by s e → Good s (effect e p.state reply)
  blocks-changed e reply p f q short o r a d n = record {
    entry = f;
    moves = turns (read_by s e) r.moves (sym q);
    fits = short;
    base = r.base;
    removal = removes-none p.state (last_of s + 1) (r.removal ∙ o);
    turn = configures r.sizes o (r.removal ∙ o) a;
    need = n;
    above = leaves_above (λ j lo hi. r.above j lo (omega arith)) (up-to-noted e.kind d);
    peers = leaves_as_read s (effect e p.state reply) g.facts.peers r.channels (λ j lo hi. r.above j (omega arith) hi) d;
  }

  -- 10 and 11, of a CONFIGURE
  configure-good : (c handle request : ℕ) (b : List ℕ) (n : ℕ) (p : Progress) → Reaches s c → n ≤ most_records → outstanding_of s ≡ 0 → Configures s p → Good s (answering_configure p c handle request b n)
  unfolding answering_configure answering fields_of read_in handle_in settled_block pick see_blocks aside ◌or◌
  configure-good c handle request b n p h few o r =
      on-pick (Good s) _ _ _
      (λ e.
      let z = eqb-true p.mask 0 e in
      blocks-changed (answered_event c memory_service code_none request) _ p (answered-fits _ c (next-number s g) h.below memory_service code_none request (omega arith) (omega arith))
      (rw (z, configured-none (view_of s).blocks))
      short o r refl refl (answered-needs _ _ c memory_service code_none request h.ready h.shown))
      (λ e. blocks-changed (configured_event c p.mask) _ p (configured-fits _ c (next-number s g) h.below p.mask) refl short o r refl refl
      (configured-needs _ _ c p.mask h.ready h.shown (rw (blocks-count s) r.within)))
    where
      short : length (configure_reply p handle request b n) ≤ output_bytes
      short = unfold configure_reply in results-short handle _ request n few _ (λ i. result-length p.state (addr_in b i) (size_in b i) _)

  -- The removal changed, and nothing else.
  pub removal-changed : (e : Event) (reply : List ℕ) (m : Removal) → Arrays m → Fits (last_of s + 1) e → read_by s e (view_of s) ≡ see_removal (removing m.cancelled m.position m.collected) (view_of s) → length reply ≤ output_bytes → RemovalFacts s (last_of s + 1) m → (SameBlocks s (with_removal s m) → NewRemoval (with_removal s m) m → Turn s (effect e (with_removal s m) reply)) → leaves_channels e.kind ≡ true → needed_by s e → Good s (effect e (with_removal s m) reply)
  removal-changed e reply m a f q short facts turn d n = record {
    entry = f;
    moves = turns (read_by s e) (removal-moves s (shape s g) m a) (sym q);
    fits = short;
    base = base-removal s (last_of s + 1) m (base-now s g);
    removal = removes-made s (last_of s + 1) m g.size g.facts.base.few a facts;
    turn = turn (removal-blocks s m g.facts.base.few) (new-removal s m g.size a);
    need = n;
    above = leaves_above (λ j lo hi. removal-above s m g.size a j (omega arith)) (up-to-noted e.kind d);
    peers = leaves_as_read s (effect e (with_removal s m) reply) g.facts.peers (λ j lo hi. removal-frame s m j (omega arith)) (λ j lo hi. removal-above s m g.size a j (omega arith)) d;
  }

  -- 12
  begun-good : (c handle request : ℕ) (b : List ℕ) (n : ℕ) → Reaches s c → Ours 0 (last_of s + 1) handle → 1 ≤ n → n ≤ most_records → outstanding_of s ≡ 0 → Good s (beginning s c handle request b n)
  unfolding beginning fields_of read_in handle_in settled_block pick new_removal every results_sound
  begun-good c handle request b n h u some few o =
      removal-changed (begun_event c n request) [] (new_removal c handle request b n)
      (new-arrays c handle request b n)
      (begun-fits _ c (next-number s g) h.below n request few)
      refl
      short-empty
      (search (arith, collected-none))
      (λ blocks removal. begins (new_removal c handle request b n) blocks removal refl refl o refl)
      refl
      (begun-needs _ _ c n request h.ready h.shown)

  -- what is shown of an outstanding removal
  pub removing-now : is_set (outstanding_of s) ≡ true → (view_of s).removal ≡ removing (removal_of s).cancelled (removal_of s).position (removal_of s).collected
  unfolding view_of removal_shown pick
  removing-now o = rw o

  pub removing-shown : is_set (outstanding_of s) ≡ true → is_removing (view_of s).removal ≡ true
  unfolding is_removing
  removing-shown o = rw (removing-now o)

  -- 13
  cancelled-good : (c request : ℕ) (reply : List ℕ) → Reaches s c → length reply ≤ output_bytes → is_set (outstanding_of s) ≡ true → Good s (effect (cancelled_event c request) (with_removal s (marked (removal_of s))) reply)
  unfolding fields_of read_in handle_in settled_block pick marked marked_removal results_sound
  cancelled-good c request reply h f o =
      let a = loaded-arrays s in
      let m = (removes-now s g o).facts in
      removal-changed (cancelled_event c request) reply (marked (removal_of s))
      (search)
      (cancelled-fits _ c (next-number s g) h.below request)
      (rw (removing-now o))
      f
      (search (collected-none))
      (λ blocks removal. marks blocks removal (removes-now s g o).one refl)
      refl
      (cancelled-needs _ _ c request h.ready h.shown (removing-shown o))

  -- The requests.
  answering-good : (c code request : ℕ) (reply : List ℕ) → Reaches s c → code < code_end → length reply ≤ output_bytes → Good s (answering s c code request reply)
  unfolding answering fields_of read_in handle_in settled_block pick aside ◌or◌
  answering-good c code request reply h k f =
      unchanged s g (answered_event c memory_service code request) reply (answered-fits _ c (next-number s g) h.below memory_service code request (omega arith) k) (λ v. refl) f refl refl (answered-needs _ _ c memory_service code request h.ready h.shown)

  blocked-good : (c handle request : ℕ) (b : List ℕ) (n : ℕ) → Reaches s c → n ≤ most_records → Good s (blocked s c handle request b n)
  unfolding blocked
  blocked-good c handle request b n h few =
      answering-good c code_blocked request _ h (omega arith)
      (results-short handle _ request n few _ (λ i. result-length s (addr_in b i) (size_in b i) _))

  cancelling-good : (c handle request : ℕ) → Reaches s c → Good s (cancelling s c handle request)
  unfolding cancelling
  cancelling-good c handle request h =
      on-pick (Good s) _ _ _
      (λ e. cancelled-good c request _ h (empty-short 0) (both _ _ e).0)
      (λ e. answering-good c code_none request _ h (omega arith) (empty-short 0))
    where
      empty-short : (n : ℕ) → length (memory_reply handle DR-MEM-OK n request []) ≤ output_bytes
      empty-short n = rw (memory-length) (omega arith)

  reporting-good : (c handle request : ℕ) → Reaches s c → Good s (reporting s c handle request)
  unfolding reporting
  reporting-good c handle request h =
      answering-good c code_none request _ h (omega arith)
      (on-pick (λ (l : List ℕ). length l ≤ output_bytes) _ _ _
      (λ e. rw (memory-length, status-length) (omega arith))
      (λ e. rw (memory-length) (omega arith)))

  error-good : (c handle request : ℕ) → Reaches s c → Good s (answering_error s c handle request)
  unfolding answering_error
  error-good c handle request h = answering-good c code_error request _ h (omega arith) (rw (memory-length) (omega arith))

  querying-good : (c handle request : ℕ) (b : List ℕ) (n : ℕ) → Reaches s c → n ≤ most_records → Good s (querying s c handle request b n)
  unfolding querying
  querying-good c handle request b n h few =
      answering-good c code_none request _ h (omega arith)
      (queries-short handle _ request n few _ (λ i. query-length s (addr_in b i) (size_in b i)))

-- A request of right form has one to the most records.
abbrev Records : ℕ → Type 0
Records n = (1 ≤ n) × (n ≤ most_records)

abbrev RightForm : Request → Type 0
RightForm (Configure n) = Records n
RightForm (Unconfigure n) = Records n
RightForm (Query n) = Records n
RightForm Status = Unit {0}
RightForm Cancel = Unit {0}
RightForm Malformed = Unit {0}

records-few : (b : List ℕ) → has_records b ≡ true → Records (argument_of b)
unfolding has_records
records-few b e =
    let p = both _ _ e in
    let q = both _ _ p.1 in
    (leb-true 1 _ p.0, leb-true _ most_records q.0)

right-form : (b : List ℕ) → RightForm (request_of b)
unfolding request_of
right-form b =
    on-pick RightForm _ _ _ (λ e. tt)
    (λ _. on-pick RightForm _ _ _ (λ e. records-few b (both _ _ e).1)
    (λ _. on-pick RightForm _ _ _ (λ e. records-few b (both _ _ e).1)
    (λ _. on-pick RightForm _ _ _ (λ e. records-few b (both _ _ e).1)
    (λ _. on-pick RightForm _ _ _ (λ e. tt)
    (λ _. on-pick RightForm _ _ _ (λ e. tt) (λ e. tt))))))

-- What holds of what each request does holds of what the memory service does with any bytes.
pub record OnMemory (P : Effect → Type 0) (s : List ℕ) (c handle : ℕ) (b : List ℕ) : Type 0 where
  pub on_blocked : (request n : ℕ) → Records n → P (blocked s c handle request b n)
  pub on_configure : (request n : ℕ) → Records n → outstanding_of s ≡ 0 → P (answering_configure (configured_by s b n) c handle request b n)
  pub on_unconfigure : (request n : ℕ) → Records n → outstanding_of s ≡ 0 → P (beginning s c handle request b n)
  pub on_query : (request n : ℕ) → Records n → P (querying s c handle request b n)
  pub on_status : (request : ℕ) → P (reporting s c handle request)
  pub on_cancel : (request : ℕ) → P (cancelling s c handle request)
  pub on_error : (request : ℕ) → P (answering_error s c handle request)

on-requested : (P : Effect → Type 0) (s : List ℕ) (c handle request : ℕ) (b : List ℕ) (r : Request) → RightForm r → OnMemory P s c handle b → P (requested s c handle request b r)
unfolding requested
on-requested P s c handle request b (Configure n) f o =
    on-pick P _ _ _ (λ e. o.on_blocked request n f) (λ e. o.on_configure request n f (eqb-true _ 0 (not-false _ e)))
on-requested P s c handle request b (Unconfigure n) f o =
    on-pick P _ _ _ (λ e. o.on_blocked request n f) (λ e. o.on_unconfigure request n f (eqb-true _ 0 (not-false _ e)))
on-requested P s c handle request b (Query n) f o = o.on_query request n f
on-requested P s c handle request b Status f o = o.on_status request
on-requested P s c handle request b Cancel f o = o.on_cancel request
on-requested P s c handle request b Malformed f o = o.on_error request

-- the state with the request's number as the highest of its channel
abbrev pub numbered : List ℕ → ℕ → List ℕ → List ℕ
numbered s c b = with_number s c 1 (request_number b)

pub on-memory : (P : Effect → Type 0) (s : List ℕ) (c handle : ℕ) (b : List ℕ) → OnMemory P (numbered s c b) c handle b → P (answering_error s c handle (request_number b)) → P (answered_memory s c handle b)
unfolding answered_memory
on-memory P s c handle b o e =
    on-pick P _ _ _ (λ _. on-requested P (numbered s c b) c handle (request_number b) b (request_of b) (right-form b) o) (λ _. e)

pub memory-good : (s : List ℕ) (g : Given s) (c handle : ℕ) (b : List ℕ) → Reaches s c → Ours 0 (last_of s + 1) handle → Good s (answered_memory s c handle b)
memory-good s g c handle b h u =
    let n = number-only s c 1 (request_number b) h.below in
    let h' = reaches-numbers s (numbered s c b) n g c h in
    let g' = given-numbers s (numbered s c b) n g in
    let back = good-numbers s (numbered s c b) n g in
    let u' : Ours 0 (last_of (numbered s c b) + 1) handle = rw (n.below last_word (omega arith) (omega arith)) u in
    on-memory (Good s) s c handle b
    (record {
      on_blocked = λ request k f. back _ (blocked-good (numbered s c b) g' c handle request b k h' f.1);
      on_configure = λ request k f o. back _ (configure-good (numbered s c b) g' c handle request b k (configured_by (numbered s c b) b k) h' f.1 o (configured-all (numbered s c b) g' b k));
      on_unconfigure = λ request k f o. back _ (begun-good (numbered s c b) g' c handle request b k h' u' f.0 f.1 o);
      on_query = λ request k f. back _ (querying-good (numbered s c b) g' c handle request b k h' f.1);
      on_status = λ request. back _ (reporting-good (numbered s c b) g' c handle request h');
      on_cancel = λ request. back _ (cancelling-good (numbered s c b) g' c handle request h');
      on_error = λ request. back _ (error-good (numbered s c b) g' c handle request h');
    })
    (error-good s g c handle (request_number b) h)
