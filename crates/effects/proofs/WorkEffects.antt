-- The work step: a splitter over what it does, and its effects, as Effects.antt shows of the others.
-- Assumes nothing.
use Rattle.std.specs.Prelude.{Option, Some, None}
use Prim.Native.Nat.{ℕ, zero, suc, ◌+◌, ◌≤◌, ◌<◌}
use native.Mathlib.Omega.{arith}
use mathlib.Core.Path.{◌≡◌, refl, ap, ◌∙◌}
use mathlib.Core.Bool.{Bool, true, false}
use mathlib.Core.List.{List, []}
use lib.ListN.{length, get_or, set, length-set}
use lib.Seq.{get_or-set_same, get_or-set_other}
use lib.Dec.{eqb}
use borrow.Author.Tests.{ltb-true, lt-ltb, le-leb, leb-false, eqb-true, eqb-false, eq-eqb, ne_eqb}
use Rattle.basics.specs.Choice.{pick, ◌or◌}
use Rattle.model.specs.declared.Removal.{Removal}
use Rattle.model.specs.Layout.{blocks_of, Block, block_at, last_of, outstanding_of, is_set, removal_of, with_configured, with_removal, without_removal, most_blocks, most_budget, most_records, output_bytes, no_block}
use Rattle.model.specs.State.{removal_room, collected_sound, results_sound, result_sound, room_at}
use Rattle.model.specs.Journal.{fields_of, collected_event, settled_event, removal_end_event}
use Rattle.model.specs.Messages.{Effect, effect}
use Rattle.model.specs.Work.{addr_now, size_now, block_now, end_code, late_reply, ending, settled, collecting, pages_moved, collects, works_on, step_of, working, WorkStep, failing_code, moving, works_at}
use Rattle.model.specs.Reading.{handle_in, read_in, settled_block, see_blocks, see_removal, flagged, unconfigured_in, stepped_removal, added_pages, blocks_shown, view_of}
use Rattle.basics.proofs.Choice.{on-pick, join, or-false, every-at, every-make}
use Rattle.model.proofs.Words.{Arrays, loaded-arrays, configured-frame, removal-above, without-above, without-outstanding, removal-frame, without-frame}
use Rattle.model.proofs.Above.{leaves_above}
use Rattle.model.proofs.Peers.{leaves_as_read}
use Rattle.model.proofs.View.{shape-moves, then, turns, configured-moves, removal-moves, without-moves}
use Rattle.model.proofs.Rules.{RemovalFacts, block-rules, Given}
use Rattle.model.proofs.Turns.{Turn, steps, same_blocks, same-removal}
use Rattle.model.proofs.Sounds.{named-less, base-configured, base-removal, base-without, removes-made, removes-none}
use Rattle.model.proofs.Mask.{unconfigured-set}
use Rattle.model.proofs.Replies.{short-empty, results-short, result-length}
use Rattle.effects.proofs.SettledWord.{block_back}
use Rattle.effects.proofs.Events.{code_end, collected-fits, settled-fits, end_fits}
use Rattle.effects.proofs.Effects.{Good, shape, next-number, base-now, removes-now}
use Rattle.model.proofs.View.{shown-length, shown-at}
use Rattle.effects.proofs.MemoryEffects.{collected-none, removing-now, removing-shown, removal-changed}
use Rattle.model.specs.Replay.{settles}
use Rattle.effects.proofs.Needs.{collected-needs, settled-needs, end-needs}
use Rattle.model.specs.Memory.{DR-MEM-RES-NOWORK, DR-MEM-RES-OK}

-- the results of the settled records, and one more
results-more : (m : Removal) (r : ℕ) → length m.result ≡ most_records → m.position < most_records → results_sound m ≡ true → result_sound r ≡ true → results_sound (settled m r) ≡ true
unfolding results_sound settled
results-more m r n h old new =
    every-make _ (m.position + 1) (λ i l. go i l (eqb i m.position) refl)
  where
    go : (i : ℕ) → i < m.position + 1 → (b : Bool) → eqb i m.position ≡ b → result_sound (get_or (set m.result m.position r) i 0) ≡ true
    go i l true e =
        let q = eqb-true i m.position e in
        rw (q, get_or-set_same m.result m.position r 0 (omega arith)) new
    go i l false e =
        let d = eqb-false i m.position e in
        rw (get_or-set_other m.result m.position i r 0 d)
        (every-at (λ i. result_sound (get_or m.result i 0)) m.position i old (omega arith))

ok-result : result_sound DR-MEM-RES-OK ≡ true
unfolding result_sound ◌or◌
ok-result = refl

nowork-result : result_sound DR-MEM-RES-NOWORK ≡ true
unfolding result_sound ◌or◌
nowork-result = refl

-- one block fewer is configured
one_fewer : (s : List ℕ) (k : ℕ) → k < blocks_of s → unconfigured_in k (view_of s).blocks ≡ set (view_of s).blocks k (flagged 0 (block_at s k))
unfolding view_of
one_fewer s k kb =
    unconfigured-set k (blocks_shown s) no_block
    ∙ ap (λ (x : Block). set (blocks_shown s) k (flagged 0 x)) (shown-at s k kb)

-- fewer pages than the block has
collected-less : (n room : ℕ) → n < room → collected_sound n room ≡ true
unfolding collected_sound pick
collected-less n room h = rw (ne_eqb room 0 (λ q. omega arith), lt-ltb n room h)

less-collected : (n room : ℕ) → collected_sound n room ≡ true → 1 ≤ room → n < room
unfolding collected_sound pick
less-collected n room e h = ltb-true n room (rw (ne_eqb room 0 (λ q. omega arith)) at e)

no_room : (n room : ℕ) → collected_sound n room ≡ true → room ≡ 0 → n ≡ 0
unfolding collected_sound pick
no_room n room e z = eqb-true n 0 (rw z at e)

-- A step that works on block i: the removal goes on, and the record at the position names that block, which has no permanent page.
pub record Working (s : List ℕ) (m : Removal) (i : ℕ) : Type 0 where
  pub goes_on : m.cancelled ≡ false
  pub more : m.position < m.count
  pub named : block_now s m ≡ Some i
  pub movable : (block_at s i).permanent ≡ 0

-- What holds of each thing that a step does holds of the step.
pub record OnStep (P : WorkStep → Type 0) (s : List ℕ) (m : Removal) (budget : ℕ) : Type 0 where
  pub on_end : P (moving 0 (ending s m))
  pub on_nowork : (i : ℕ) → Working s m i → (block_at s i).configured ≡ 0 → P (moving 0 (effect (settled_event m.channel m.position DR-MEM-RES-NOWORK 0 i) (with_removal s (settled m DR-MEM-RES-NOWORK)) []))
  pub on_collect : (i : ℕ) → Working s m i → ((block_at s i).configured ≡ 0 → ⊥) → P (moving (pages_moved s m i budget) (collects s m i (pages_moved s m i budget)))

pub on_step : (P : WorkStep → Type 0) (s : List ℕ) (m : Removal) (budget : ℕ) → OnStep P s m budget → P (step_of s m budget)
unfolding step_of
on_step P s m budget o =
    on-pick P _ _ _ (λ e. o.on_end)
    (λ e. go (or-false _ _ e).0 (leb-false _ _ (or-false _ _ e).1) (block_now s m) refl)
  where
    go : m.cancelled ≡ false → m.position < m.count → (x : Option ℕ) → block_now s m ≡ x → P (works_at s m budget x)
    go f h (Some i) q =
        unfold works_at works_on in
        (on-pick P _ _ _
        (λ z.
        let w : Working s m i = record { goes_on = f; more = h; named = q; movable = eqb-true _ 0 z } in
        on-pick P _ _ _ (λ y. o.on_nowork i w (eqb-true _ 0 y)) (λ y. o.on_collect i w (eqb-false _ 0 y)))
        (λ z. o.on_end))
    go f h None q = unfold works_at in o.on_end

module _ (s : List ℕ) (g : Given s) (o : is_set (outstanding_of s) ≡ true) where
  facts : RemovalFacts s (last_of s + 1) (removal_of s)
  facts = (removes-now s g o).facts

  pub settled-arrays : (r : ℕ) → Arrays (settled (removal_of s) r)
  unfolding settled
  settled-arrays r =
      let a = loaded-arrays s in
      record {
        addresses = a.addresses;
        sizes = a.sizes;
        results = length-set (removal_of s).result (removal_of s).position r ∙ a.results;
      }

  settled-facts : (t : List ℕ) (r : ℕ) → (removal_of s).position < (removal_of s).count → result_sound r ≡ true → RemovalFacts t (last_of s + 1) (settled (removal_of s) r)
  settled-facts t r h e =
      record {
        channels = unfold settled in facts.channels;
        handles = unfold settled in facts.handles;
        some = unfold settled in facts.some;
        few = unfold settled in facts.few;
        within = unfold settled in (omega arith);
        room = unfold settled in (collected-none (removal_room t (settled (removal_of s) r)));
        results = results-more (removal_of s) r (loaded-arrays s).results (omega (arith, facts.few)) facts.results e;
      }

  place-few : (removal_of s).position < (removal_of s).count → (removal_of s).position < most_records
  place-few h = omega (arith, facts.few)

  -- 14
  collected-good : (n room : ℕ) → n ≤ most_budget → removal_room s (removal_of s) ≡ room → (removal_of s).collected + n < room → Turn s (effect (collected_event (removal_of s).channel n) (with_removal s (collecting (removal_of s) n)) []) → Good s (effect (collected_event (removal_of s).channel n) (with_removal s (collecting (removal_of s) n)) [])
  unfolding fields_of read_in handle_in settled_block pick collecting added_pages removal_room results_sound
  collected-good n room l e h turn =
      let a = loaded-arrays s in
      let f = facts in
      let m = collecting (removal_of s) n in
      let same : removal_room s m ≡ room = e in
      let sound : collected_sound m.collected (removal_room s m) ≡ true =
      rw same (collected-less m.collected room h) in
      removal-changed s g (collected_event (removal_of s).channel n) [] (collecting (removal_of s) n)
      (search)
      (collected-fits _ _ (next-number s g) f.channels n l)
      (rw (removing-now s g o))
      short-empty
      (search)
      (λ blocks removal. turn)
      refl
      (collected-needs _ _ _ n (removing-shown s g o))

  -- the record at the position, with a block of the list and no more pages than it has
  settles-here : (k n : ℕ) → k < blocks_of s → (removal_of s).collected + n ≤ (block_at s k).pages → settles (removal_of s).position n k (view_of s).blocks (view_of s).removal ≡ true
  unfolding settles view_of
  settles-here k n kb l =
      rw (removing-now s g o)
      (join _ _ (eq-eqb (removal_of s).position _ refl)
      (join _ _ (lt-ltb k (length (blocks_shown s)) (rw (shown-length s) kb))
      (le-leb ((removal_of s).collected + n) (get_or (blocks_shown s) k no_block).pages (rw (shown-at s k kb) l))))

  block-few : {k : ℕ} → k < blocks_of s → k < most_blocks
  block-few kb = omega (arith, g.facts.base.few)

  -- 15, NOWORK
  nowork-good : (block : ℕ) → block < blocks_of s → (removal_of s).collected ≡ 0 → (removal_of s).position < (removal_of s).count → Turn s (effect (settled_event (removal_of s).channel (removal_of s).position DR-MEM-RES-NOWORK 0 block) (with_removal s (settled (removal_of s) DR-MEM-RES-NOWORK)) []) → Good s (effect (settled_event (removal_of s).channel (removal_of s).position DR-MEM-RES-NOWORK 0 block) (with_removal s (settled (removal_of s) DR-MEM-RES-NOWORK)) [])
  unfolding fields_of read_in handle_in settled_block pick stepped_removal
  nowork-good block kb none h turn =
      removal-changed s g (settled_event (removal_of s).channel (removal_of s).position DR-MEM-RES-NOWORK 0 block) []
      (settled (removal_of s) DR-MEM-RES-NOWORK)
      (settled-arrays DR-MEM-RES-NOWORK)
      (settled-fits _ _ (next-number s g) facts.channels _ _ 0 block (place-few h) (omega arith) (omega arith) (block-few kb))
      (unfold settled in rw (removing-now s g o))
      short-empty
      (settled-facts s DR-MEM-RES-NOWORK h nowork-result)
      (λ blocks removal. turn)
      refl
      (settled-needs _ _ _ _ _ _ block (removing-shown s g o) (settles-here block 0 kb (omega arith)) (block-few kb) (place-few h))

  -- 15, OK: the block's flag falls as well
  taken-good : (k n : ℕ) → (removal_of s).position < (removal_of s).count → n ≤ most_budget → k < blocks_of s → (removal_of s).collected + n ≤ (block_at s k).pages → (block_at s k).permanent ≡ 0 → Turn s (effect (settled_event (removal_of s).channel (removal_of s).position DR-MEM-RES-OK n k) (with_removal (with_configured s k 0) (settled (removal_of s) DR-MEM-RES-OK)) []) → Good s (effect (settled_event (removal_of s).channel (removal_of s).position DR-MEM-RES-OK n k) (with_removal (with_configured s k 0) (settled (removal_of s) DR-MEM-RES-OK)) [])
  unfolding fields_of read_in handle_in pick stepped_removal see_blocks see_removal settled
  taken-good k n h l kb most z turn =
      let w = shape s g in
      let few : k < most_blocks = omega (arith, w.few) in
      let a = configured-moves s w k 0 few in
      let w' = shape-moves a w in
      record {
        entry = settled-fits _ _ (next-number s g) facts.channels _ _ n k (place-few h) (omega arith) l few;
        moves =
            turns _ (then a (removal-moves (with_configured s k 0) w' (settled (removal_of s) DR-MEM-RES-OK) (settled-arrays DR-MEM-RES-OK)))
            (rw (removing-now s g o, block_back k (removal_of s).position few, one_fewer s k kb));
        fits = short-empty;
        base =
            base-removal (with_configured s k 0) (last_of s + 1) (settled (removal_of s) DR-MEM-RES-OK)
            (base-configured s k 0 g.size w.few kb (last_of s + 1) (omega arith) (λ q. absurd (q z)) (base-now s g));
        removal =
            removes-made (with_configured s k 0) (last_of s + 1) (settled (removal_of s) DR-MEM-RES-OK) w'.size w'.few (settled-arrays DR-MEM-RES-OK)
            (settled-facts (with_configured s k 0) DR-MEM-RES-OK h ok-result);
        turn = turn;
        need = settled-needs _ _ _ _ _ n k (removing-shown s g o) (settles-here k n kb most) few (place-few h);
        above =
            leaves_above
            (λ j lo hi. removal-above (with_configured s k 0) (settled (removal_of s) DR-MEM-RES-OK) w'.size (settled-arrays DR-MEM-RES-OK) j (omega arith) ∙ configured-frame s k 0 j (λ p q. omega arith))
            refl;
        peers =
            leaves_as_read s (effect (settled_event (removal_of s).channel (removal_of s).position DR-MEM-RES-OK n k) (with_removal (with_configured s k 0) (settled (removal_of s) DR-MEM-RES-OK)) []) g.facts.peers
            (λ j lo hi. removal-frame (with_configured s k 0) (settled (removal_of s) DR-MEM-RES-OK) j (omega arith) ∙ configured-frame s k 0 j (λ p q. omega arith))
            (λ j lo hi. removal-above (with_configured s k 0) (settled (removal_of s) DR-MEM-RES-OK) w'.size (settled-arrays DR-MEM-RES-OK) j (omega arith) ∙ configured-frame s k 0 j (λ p q. omega arith))
            refl;
      }

  -- 16
  code-small : end_code s (removal_of s) < code_end
  unfolding end_code
  code-small =
      on-pick (λ (n : ℕ). n < code_end) _ _ _ (λ e. omega arith)
      (λ e. on-pick (λ (n : ℕ). n < code_end) _ _ _ (λ e₁. omega arith) (λ e₁. failing (block_now s (removal_of s))))
    where
      failing : (x : Option ℕ) → failing_code x < code_end
      failing (Some i) = unfold failing_code in (omega arith)
      failing None = unfold failing_code in (omega arith)

  end-good : (replied : ℕ) (reply : List ℕ) → replied ≤ 1 → length reply ≤ output_bytes → Turn s (effect (removal_end_event (removal_of s).channel (end_code s (removal_of s)) replied (removal_of s).request) (without_removal s) reply) → Good s (effect (removal_end_event (removal_of s).channel (end_code s (removal_of s)) replied (removal_of s).request) (without_removal s) reply)
  unfolding fields_of read_in handle_in settled_block pick
  end-good replied reply r f turn = record {
    entry = end_fits _ _ (next-number s g) facts.channels _ replied _ code-small r;
    moves = without-moves s (shape s g);
    fits = f;
    base = base-without s (last_of s + 1) (base-now s g);
    removal = removes-none (without_removal s) (last_of s + 1) (without-outstanding s g.size);
    turn = turn;
    need = end-needs _ _ _ _ replied _ (removing-shown s g o);
    above = leaves_above (λ j lo hi. without-above s j (omega arith)) refl;
    peers =
        leaves_as_read s (effect (removal_end_event (removal_of s).channel (end_code s (removal_of s)) replied (removal_of s).request) (without_removal s) reply) g.facts.peers
        (λ j lo hi. without-frame s j (omega arith))
        (λ j lo hi. without-above s j (omega arith))
        refl;
  }

  ending-good : Turn s (ending s (removal_of s)) → Good s (ending s (removal_of s))
  unfolding ending
  ending-good =
      on-pick (λ (e : Effect). Turn s e → Good s e) _ _ _ (λ e. end-good 1 _ (omega arith) late-short) (λ e. end-good 0 [] (omega arith) short-empty)
    where
      late-short : length (late_reply s (removal_of s)) ≤ output_bytes
      late-short =
          unfold late_reply in results-short _ _ _ (removal_of s).count facts.few _
          (λ i. result-length s (get_or (removal_of s).address i 0) (get_or (removal_of s).size i 0) _)

  -- the record at the position names a configured block: its pages are the room
  room-now : (i : ℕ) → Working s (removal_of s) i → (block_at s i).configured ≡ 1 → removal_room s (removal_of s) ≡ (block_at s i).pages
  unfolding removal_room room_at pick
  room-now i w e = rw (lt-ltb _ _ w.more, w.named, eq-eqb _ 1 e)

  -- of an unconfigured block no page is collected
  none-collected : (i : ℕ) → Working s (removal_of s) i → (block_at s i).configured ≡ 0 → (removal_of s).collected ≡ 0
  none-collected i w z = no_room _ _ facts.room (unfold removal_room room_at pick in rw (lt-ltb _ _ w.more, w.named, z))

  flag_one : (c : ℕ) → c ≤ 1 → (c ≡ 0 → ⊥) → c ≡ 1
  flag_one zero h n = absurd (n refl)
  flag_one (suc zero) h n = refl
  flag_one (suc (suc c)) h n = absurd (omega arith)

  -- and some of them remain
  pub remains : (i : ℕ) → Working s (removal_of s) i → ((block_at s i).configured ≡ 0 → ⊥) → (removal_room s (removal_of s) ≡ (block_at s i).pages) × ((removal_of s).collected < (block_at s i).pages)
  remains i w n =
      let less = named-less s (addr_now (removal_of s)) (size_now (removal_of s)) i w.named in
      let b = (block-rules _ _ (g.facts.base.blocks i less)).0 in
      let room = room-now i w (flag_one _ b.flag n) in
      let old = less-collected _ _ facts.room (omega (arith, room, b.some)) in
      (room, omega (arith, room, old))

  collects-good : (i budget : ℕ) → budget ≤ most_budget → Working s (removal_of s) i → ((block_at s i).configured ≡ 0 → ⊥) → Turn s (collects s (removal_of s) i (pages_moved s (removal_of s) i budget)) → Good s (collects s (removal_of s) i (pages_moved s (removal_of s) i budget))
  unfolding collects pages_moved
  collects-good i budget l w n =
      let less = named-less s (addr_now (removal_of s)) (size_now (removal_of s)) i w.named in
      let r = remains i w n in
      on-pick (λ (e : Effect). Turn s e → Good s e) _ _ _
      (λ q. taken-good i _ w.more (omega arith) less (omega (arith, r.0, r.1)) w.movable)
      (λ q. collected-good _ (block_at s i).pages (omega arith) r.0 (omega (arith, r.1, eqb-false, leb-false)))

pub working-good : (s : List ℕ) (g : Given s) (budget : ℕ) → is_set (outstanding_of s) ≡ true → 1 ≤ budget → budget ≤ most_budget → Good s (working s budget).effects
working-good s g budget o one l =
    on_step (λ (x : WorkStep). Turn s x.effects → Good s x.effects) s (removal_of s) budget
    (record {
      on_end = ending-good s g o;
      on_nowork =
          λ i w z.
          nowork-good s g o i (named-less s (addr_now (removal_of s)) (size_now (removal_of s)) i w.named) (none-collected s g o i w z) w.more;
      on_collect = λ i w n. collects-good s g o i budget l w n;
    })
    (steps s budget one g (same_blocks s s g.facts.base.few (λ j lo hi. refl)) (same-removal s s (λ j lo hi. refl)) (removes-now s g o).one refl)
