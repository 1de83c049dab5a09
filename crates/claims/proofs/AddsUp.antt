-- The pages of a record settled OK add up to its block's, as specs/Ends.antt states it.
-- Assumes nothing.
use Prim.Native.Nat.{ℕ, ◌+◌, ◌-◌, ◌/◌, ◌≤◌, ◌<◌}
use native.Mathlib.Omega.{arith}
use mathlib.Core.Path.{◌≡◌, refl, sym, ap, ◌∙◌}
use mathlib.Core.Bool.{Bool, true, false}
use mathlib.Core.List.{List, [], ◌∷◌, ◌++◌}
use lib.ListN.{length, get_or, take, length-append, get_or-append}
use lib.Seq.{get_or-append_seam, take-append-le, take-append_seam}
use lib.Dec.{leb}
use borrow.Author.Tests.{leb-true, leb-false, le-ltb, ne_eqb, eqb-true}
use Rattle.basics.specs.Choice.{pick, ◌or◌}
use Rattle.model.specs.declared.Event.{Event}
use Rattle.model.specs.Layout.{most_blocks, block_words, block_in, block_at, blocks_of, last_of, held_of, outstanding_of, is_set, removal_of, with_counts}
use Rattle.model.specs.Blocks.{Lists, named_block, named_in}
use Rattle.model.specs.Journal.{Entry, entry_of, kind_begun, kind_collected, kind_settled, kind_removal_end}
use Rattle.model.specs.Memory.{DR-MEM-RES-OK, marked}
use Rattle.model.specs.Messages.{Effect}
use Rattle.model.specs.Work.{WorkStep, settled, collecting, collects, ending, moving, pages_moved, working}
use Rattle.model.specs.Calls.{effect_of}
use Rattle.model.specs.Reading.{View}
use Rattle.claims.specs.Demand3.{Run, entries, no_entry}
use Rattle.claims.specs.Ends.{block_of, told, moved_by, moved_since, SettledOk, AddsUp}
use Rattle.basics.proofs.Choice.{clash, on-pick}
use Rattle.model.proofs.Rules.{sound-facts, Given}
use Rattle.model.proofs.Sounds.{named-less}
use Rattle.model.proofs.View.{shape-moves}
use Rattle.model.proofs.Ring.{event-back}
use Rattle.model.proofs.Turns.{SameSizes, Turn, leaves, configures, begins, marks, steps, aside, sizes-then}
use Rattle.effects.proofs.Effects.{shape}
use Rattle.effects.proofs.WorkEffects.{on_step, remains}
use Rattle.claims.proofs.Steps.{Step, adds, nowork, ok, ends, step_of, turn-sizes}
use Rattle.effects.proofs.SettledWord.{block_back}
use Rattle.effects.proofs.Taken.{Taken, taken}
use Rattle.claims.proofs.Lists.{Kept, AfterCall, grown, shifted, entries-grown, entries-shifted}
use Rattle.claims.proofs.Settled.{counted-blocks, counted-removal}

-- Kinds of an entry, and the pages since.
not-aside : (kind k : ℕ) → aside kind ≡ true → kind_begun ≤ k → k ≤ kind_removal_end → kind ≡ k → ⊥
unfolding aside ◌or◌
not-aside kind k a l h e =
    clash false refl (rw (le-ltb kind kind_begun (omega arith), le-ltb kind_removal_end kind (omega arith)) at a)

moved_other : (n : ℕ) (e : Event) → (e.kind ≡ kind_begun → ⊥) → (e.kind ≡ kind_settled → ⊥) → (e.kind ≡ kind_collected → ⊥) → moved_by n e ≡ n
unfolding moved_by pick ◌or◌
moved_other n e p q r = rw (ne_eqb _ kind_begun p, ne_eqb _ kind_settled q, ne_eqb _ kind_collected r)

moved-begun : (n : ℕ) (e : Event) → e.kind ≡ kind_begun → moved_by n e ≡ 0
unfolding moved_by pick ◌or◌
moved-begun n e p = rw p

moved-settled : (n : ℕ) (e : Event) → e.kind ≡ kind_settled → moved_by n e ≡ 0
unfolding moved_by pick ◌or◌
moved-settled n e p = rw p

moved-collected : (n : ℕ) (e : Event) → e.kind ≡ kind_collected → moved_by n e ≡ n + e.count
unfolding moved_by pick ◌or◌
moved-collected n e p = rw p

moved_more : (n : ℕ) (es : List Entry) (e : Entry) → moved_since n (es ++ e ∷ []) ≡ moved_by (moved_since n es) (told e)
unfolding moved_since
moved_more n [] e = refl
moved_more n (x ∷ es) e = moved_more (moved_by n (told x)) es e

-- The pages that a work step's entry tells: some where it only collects, and all that remained where its record is settled OK.
pub record Paging (s : List ℕ) (x : WorkStep) : Type 0 where
  pub some : x.effects.event.kind ≡ kind_collected → 1 ≤ x.effects.event.count
  pub whole : x.effects.event.kind ≡ kind_settled → x.effects.event.code ≡ DR-MEM-RES-OK → (removal_of s).collected + x.effects.event.count ≡ (block_at s (block_of x.effects.event)).pages

module _ (s : List ℕ) (g : Given s) (o : is_set (outstanding_of s) ≡ true) (budget : ℕ) (least : 1 ≤ budget) where
  collects-paging : (i : ℕ) → i < blocks_of s → (removal_of s).collected < (block_at s i).pages → Paging s (moving (pages_moved s (removal_of s) i budget) (collects s (removal_of s) i (pages_moved s (removal_of s) i budget)))
  unfolding collects pages_moved
  collects-paging i b h =
      on-pick (λ (e : Effect). Paging s (moving (pages_moved s (removal_of s) i budget) e)) _ _ _
      (λ e. record { some = λ k. absurd (omega arith); whole = λ k c. rw (block_back i (removal_of s).position (omega (arith, g.facts.base.few))) (omega (arith, eqb-true, leb-true)) })
      (λ e. record { some = λ k. omega arith; whole = λ k c. absurd (omega arith) })

  pub paging : Paging s (working s budget)
  paging =
      on_step (Paging s) s (removal_of s) budget
      (record {
        on_end =
            unfold ending in
            (on-pick (λ (e : Effect). Paging s (moving 0 e)) _ _ _
            (λ e. record { some = λ k. absurd (omega arith); whole = λ k c. absurd (omega arith) })
            (λ e. record { some = λ k. absurd (omega arith); whole = λ k c. absurd (omega arith) }));
        on_nowork = λ i w z. record { some = λ k. absurd (omega arith); whole = λ k c. absurd (omega arith) };
        on_collect = λ i w n. collects-paging i (named-less s _ _ i w.named) (remains s g o i w n).1;
      })

-- what an effect does to the pages since, n before it
-- a record settled OK
record Taking (s : List ℕ) (n : ℕ) (e : Event) : Type 0 where
  within : block_of e < blocks_of s
  whole : n + e.count ≡ (block_at s (block_of e)).pages

module _ (s : List ℕ) (few : blocks_of s ≤ most_blocks) (n : ℕ) (old : outstanding_of s ≡ 1 → (removal_of s).cancelled ≡ false → n ≡ (removal_of s).collected) where
  since-step : (e : Effect) → Step s e → outstanding_of s ≡ 1 → outstanding_of e.state ≡ 1 → moved_by n e.event ≡ (removal_of e.state).collected
  since-step e (adds i p w b r d ev) one o =
      moved-collected n e.event (ap (λ (v : Event). v.kind) ev)
      ∙ rw (r.removal, ev, old one w.goes_on) (unfold collecting in refl)
  since-step e (nowork i w b r z ev) one o = moved-settled n e.event (ap (λ (v : Event). v.kind) ev) ∙ rw r.removal (unfold settled in refl)
  since-step e (ok i p w b other now r d ev) one o = moved-settled n e.event (ap (λ (v : Event). v.kind) ev) ∙ rw r.removal (unfold settled in refl)
  since-step e (ends b z k) one o = absurd (omega (arith, z, o))

  ok_step : (e : Effect) → Step s e → outstanding_of s ≡ 1 → e.event.code ≡ DR-MEM-RES-OK → e.event.kind ≡ kind_settled → (removal_of s).collected + e.event.count ≡ (block_at s (block_of e.event)).pages → Taking s n e.event
  ok_step e (adds i p w b r d ev) one c k h = absurd (omega (arith, k, ap (λ (v : Event). v.kind) ev))
  ok_step e (nowork i w b r z ev) one c k h = absurd (omega (arith, c, ap (λ (v : Event). v.code) ev))
  ok_step e (ok i p w b other now r d ev) one c k h = record {
    within = rw (ev, block_back i (removal_of s).position (omega (arith, few, named-less s _ _ i w.named))) (named-less s _ _ i w.named);
    whole = rw (old one w.goes_on) h;
  }
  ok_step e (ends b z k') one c k h = absurd (omega (arith, k, k'))

module _ (s : List ℕ) (n : ℕ) (old : outstanding_of s ≡ 1 → (removal_of s).cancelled ≡ false → n ≡ (removal_of s).collected) where
  since-turn : (e : Effect) → Turn s e → outstanding_of e.state ≡ 1 → (removal_of e.state).cancelled ≡ false → moved_by n e.event ≡ (removal_of e.state).collected
  since-turn e (leaves b r a) o c =
      moved_other n e.event (not-aside _ kind_begun a (omega arith) (omega arith)) (not-aside _ kind_settled a (omega arith) (omega arith)) (not-aside _ kind_collected a (omega arith) (omega arith))
      ∙ rw r.removal (old (sym r.outstanding ∙ o) (rw r.removal at c))
  since-turn e (configures b z z' a) o c = absurd (omega (arith, z', o))
  since-turn e (begins m b r p q z k) o c = moved-begun n e.event k ∙ rw r.removal (sym q)
  since-turn e (marks b r z k) o c = absurd (clash _ c (rw r.removal (unfold marked in refl)))
  since-turn e (steps t budget some h b r one same) o c =
      rw same
      (since-step t h.facts.base.few n (λ p q. rw r.removal (old (sym r.outstanding ∙ p) (rw r.removal at q))) (working t budget).effects (step_of t h (rw one) budget) one (rw same at o))

  ok-turn : (e : Effect) → Turn s e → e.event.kind ≡ kind_settled → e.event.code ≡ DR-MEM-RES-OK → Taking s n e.event
  ok-turn e (leaves b r a) k c = absurd (not-aside _ kind_settled a (omega arith) (omega arith) k)
  ok-turn e (configures b z z' a) k c = absurd (not-aside _ kind_settled a (omega arith) (omega arith) k)
  ok-turn e (begins m b r p q z k') k c = absurd (omega (arith, k, k'))
  ok-turn e (marks b r z k') k c = absurd (omega (arith, k, k'))
  ok-turn e (steps t budget some h b r one same) k c =
      let x =
      ok_step t h.facts.base.few n (λ p q. rw r.removal (old (sym r.outstanding ∙ p) (rw r.removal at q))) (working t budget).effects (step_of t h (rw one) budget) one (rw same at c) (rw same at k)
      ((paging t h (rw one) budget some).whole (rw same at k) (rw same at c)) in
      rw same
      (record {
        within = omega (arith, x.within, b.sizes.count);
        whole = x.whole ∙ b.sizes.pages _ (omega (arith, x.within, b.sizes.count));
      })

-- What a list of calls keeps: the blocks' pages are those given, the pages since are those collected, and all that is settled OK adds up.
pub record Adding (l : Lists) (u : Run) : Type 0 where
  pub count : blocks_of u.state ≡ length l.blocks / block_words
  pub pages : (i : ℕ) → i < blocks_of u.state → (block_at u.state i).pages ≡ (block_in l.blocks 0 i).pages
  pub named : (addr size : ℕ) → named_block u.state addr size ≡ named_in l.blocks 0 (length l.blocks / block_words) addr size
  pub since : outstanding_of u.state ≡ 1 → (removal_of u.state).cancelled ≡ false → moved_since 0 (entries u) ≡ (removal_of u.state).collected
  pub added : (i : ℕ) → i < length (entries u) → SettledOk (get_or (entries u) i no_entry) → AddsUp l (take i (entries u)) (get_or (entries u) i no_entry)

-- entries that add up, and one more
pub added_more : (l : Lists) (es : List Entry) (x : Entry) → ((i : ℕ) → i < length es → SettledOk (get_or es i no_entry) → AddsUp l (take i es) (get_or es i no_entry)) → (SettledOk x → AddsUp l es x) → (i : ℕ) → i < length (es ++ x ∷ []) → SettledOk (get_or (es ++ x ∷ []) i no_entry) → AddsUp l (take i (es ++ x ∷ [])) (get_or (es ++ x ∷ []) i no_entry)
added_more l es x old new i h = go (leb (length es) i) refl
  where
    go : (b : Bool) → leb (length es) i ≡ b → SettledOk (get_or (es ++ x ∷ []) i no_entry) → AddsUp l (take i (es ++ x ∷ [])) (get_or (es ++ x ∷ []) i no_entry)
    go true e =
        let q : i ≡ length es = omega (arith, leb-true (length es) i e, length-append es (x ∷ [])) in
        rw (q, get_or-append_seam es x [] no_entry, take-append_seam es (x ∷ [])) new
    go false e =
        let k : i < length es = leb-false (length es) i e in
        rw (get_or-append es (x ∷ []) no_entry i k, take-append-le i es (x ∷ []) (omega arith)) (old i k)

module _ (l : Lists) (b : View) (u : Run) (k : Kept b u) (q : Adding l u) where
  -- blocks of the same sizes
  count-then : (t : List ℕ) → SameSizes u.state t → blocks_of t ≡ length l.blocks / block_words
  count-then t c = c.count ∙ q.count

  pages-then : (t : List ℕ) → SameSizes u.state t → (i : ℕ) → i < blocks_of t → (block_at t i).pages ≡ (block_in l.blocks 0 i).pages
  pages-then t c i h = c.pages i (omega (arith, c.count)) ∙ q.pages i (omega (arith, c.count))

  named-then : (t : List ℕ) → SameSizes u.state t → (addr size : ℕ) → named_block t addr size ≡ named_in l.blocks 0 (length l.blocks / block_words) addr size
  named-then t c addr size = c.named addr size ∙ q.named addr size

  after-act : (e : Effect) (out : List ℕ) → Taken u.state u.journal out e → Adding l (grown u e)
  after-act e out t =
      let x = entry_of (last_of u.state + 1) e.event in
      let tell : told (entry_of (last_of u.state + 1) e.event) ≡ e.event = event-back (last_of u.state + 1) e.event t.good.entry.range in
      let w = shape-moves t.good.moves (shape u.state t.given) in
      let c = sizes-then u.state e.state (with_counts e.state (last_of u.state + 1) (held_of u.state + 1)) (turn-sizes u.state e t.good.turn) (counted-blocks e.state _ _ w.few).sizes in
      let m = counted-removal e.state (last_of u.state + 1) (held_of u.state + 1) in
      record {
        count = unfold grown in (count-then _ c);
        pages = unfold grown in (pages-then _ c);
        named = unfold grown in (named-then _ c);
        since =
            rw (entries-grown b u e out k t, moved_more 0 (entries u) (entry_of (last_of u.state + 1) e.event), tell)
            (unfold grown in
            rw (m.removal, m.outstanding)
            (since-turn u.state (moved_since 0 (entries u)) q.since e t.good.turn));
        added =
            rw (entries-grown b u e out k t)
            (added_more l (entries u) (entry_of (last_of u.state + 1) e.event) q.added
            (λ ok.
            let y = ok-turn u.state (moved_since 0 (entries u)) q.since e t.good.turn (rw tell at ok.is_settled) (rw tell at ok.is_ok) in
            record {
              listed = rw tell (omega (arith, y.within, q.count));
              pages = rw tell (y.whole ∙ q.pages (block_of e.event) y.within);
            }));
      }

  after-drain : (n : ℕ) → n ≤ held_of u.state → Adding l (shifted u n)
  after-drain n h =
      let c = (counted-blocks u.state (last_of u.state) (held_of u.state - n) (sound-facts u.state k.sounds).base.few).sizes in
      let m = counted-removal u.state (last_of u.state) (held_of u.state - n) in
      record {
        count = unfold shifted in (count-then _ c);
        pages = unfold shifted in (pages-then _ c);
        named = unfold shifted in (named-then _ c);
        since = rw (entries-shifted b u n h k) (unfold shifted in rw (m.removal, m.outstanding) q.since);
        added = rw (entries-shifted b u n h k) q.added;
      }

  pub adding-call : AfterCall (Adding l) u
  adding-call = record {
    on_act = λ a out z. after-act (effect_of u.state a) out (taken u.state u.journal out a k.size z);
    on_drain = after-drain;
    on_refusal = q;
  }
