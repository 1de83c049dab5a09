-- A removal ends, and the pages of a record settled OK add up, as specs/Ends.antt states it.
-- Assumes nothing.
use Rattle.std.specs.Prelude.{Option, Some, None}
use Prim.Native.Nat.{ℕ, zero, suc, ◌+◌, ◌-◌, ◌≤◌, ◌<◌, ◌/◌}
use native.Mathlib.Omega.{arith}
use native.Mathlib.Numerals.{add-one}
use native.Mathlib.Nat.{eq-or-lt_of_le, le_of_suc-le-suc, not-suc-le-zero}
use mathlib.Core.Path.{◌≡◌, refl, sym, ap, ◌∙◌}
use mathlib.Core.Bool.{Bool, true, false}
use mathlib.Core.List.{List, [], ◌∷◌, ◌++◌}
use mathlib.Core.Logic.{⊎_elim}
use lib.ListN.{length}
use lib.Dec.{eqb}
use borrow.Author.Tests.{leb-true, lt-ltb, ne_eqb, eqb-true, eqb-false}
use Rattle.basics.specs.Choice.{pick, ◌and◌, ◌or◌}
use Rattle.model.specs.declared.Event.{Event}
use Rattle.model.specs.declared.Removal.{Removal}
use Rattle.model.specs.Layout.{Block, block_at, blocks_of, last_of, held_of, outstanding_of, removal_of, with_counts, most_blocks, state_words, block_in, block_words}
use Rattle.model.specs.Blocks.{Lists, named_block, named_in}
use Rattle.model.specs.State.{collected_sound, removal_room, room_at}
use Rattle.model.specs.Journal.{kind_mark, mark_event, entry_of, event_of, fields_of, kind_begun, kind_collected, kind_removal_end}
use Rattle.model.specs.Memory.{marked, addr_in, size_in}
use Rattle.model.specs.Messages.{Effect}
use Rattle.model.specs.Work.{addr_now, size_now, settled, collecting, working}
use Rattle.model.specs.Calls.{Action, receive, offer, withdraw, close, work, permit, take_order, Call, act, drain, Outcome, accepted, drained, effect_of, in_range, outcome, pages_of, refusal_of, refused}
use Rattle.model.specs.Reading.{View, setup_view}
use Rattle.claims.specs.Demand3.{Run, Done, after, new_run, runs, entries, noted}
use Rattle.claims.specs.EveryList.{AllMeet, OfEveryList}
use Rattle.claims.specs.Repeats.{address_at, size_at, request_in}
use Rattle.claims.specs.Ends.{pages_at, pages_of_first, pages_named, is_work, steps_by, steps_in, notes_by, ends_in, Ends, pages_listed, pages_asked, told, SettledOk}
use Rattle.basics.proofs.Choice.{clash, both, on-pick, or-false, and-false-right}
use Rattle.model.proofs.Rules.{sound-facts, block-rules, Given}
use Rattle.model.proofs.Sounds.{named-less}
use Rattle.model.proofs.Turns.{SameSizes, Turn, leaves, configures, begins, marks, steps, aside, sizes-then}
use Rattle.claims.proofs.Steps.{Step, adds, nowork, ok, ends, step_of, turn-sizes}
use Rattle.model.proofs.View.{shape-moves}
use Rattle.effects.proofs.Effects.{shape}
use Rattle.effects.proofs.WorkEffects.{Working, remains}
use Rattle.effects.proofs.Taken.{Taken, taken}
use Rattle.model.proofs.Calls.{in-range, on-act, on-drain, on-accepted}
use Rattle.claims.proofs.Lists.{Kept, meets-outcome, kept-doing, meets-doing, on_list}
use Rattle.claims.proofs.Kept.{noted-is}
use Rattle.claims.proofs.Settled.{counted-blocks, counted-removal, accepted-removal}
use Rattle.model.proofs.Setup.{marked_state, Starts, starts}
use Rattle.claims.proofs.AddsUp.{added_more, Adding, adding-call, paging}
use Rattle.claims.proofs.Repeats.{repeats}
use Rattle.claims.proofs.Demand3.{mark-back, First, at_first, kept-meeting, meets-before, meets-here, meets-after}

-- Pages of records.
module _ (s t : List ℕ) (b : SameSizes s t) where
  pages-at-same : (x : Option ℕ) (addr size : ℕ) → named_block s addr size ≡ x → pages_at t x ≡ pages_at s x
  unfolding pages_at
  pages-at-same (Some i) addr size e = b.pages i (named-less s addr size i e)
  pages-at-same None addr size e = refl

  -- the same pairs, over blocks of the same sizes
  first-same : (m m' : Removal) → m'.address ≡ m.address → m'.size ≡ m.size → (n : ℕ) → pages_of_first t m' n ≡ pages_of_first s m n
  unfolding pages_of_first
  first-same m m' p q zero = refl
  first-same m m' p q (suc n) =
      rw (first-same m m' p q n, p, q, b.named (address_at m n) (size_at m n), pages-at-same (named_block s (address_at m n) (size_at m n)) (address_at m n) (size_at m n) refl)

first_more : (s : List ℕ) (m : Removal) (n : ℕ) → pages_of_first s m (n + 1) ≡ pages_of_first s m n + pages_at s (named_block s (address_at m n) (size_at m n))
unfolding pages_of_first
first_more s m n = rw (add-one n)

first-up : (s : List ℕ) (m : Removal) (n k : ℕ) → n ≤ k → pages_of_first s m n ≤ pages_of_first s m k
unfolding pages_of_first
first-up s m n zero h = let z : n ≡ 0 = omega arith in rw z (omega arith)
first-up s m n (suc k) h =
    ⊎_elim
    (λ (q : n ≡ suc k). rw q (omega arith))
    (λ (l : n < suc k). let r = first-up s m n k (le_of_suc-le-suc l) in omega arith)
    (eq-or-lt_of_le h)

-- The pages that are still to be collected before the removal's end.
unfoldable left : List ℕ → ℕ
left s =
    pick (removal_of s).cancelled 0
    (pages_named s - (pages_of_first s (removal_of s) (removal_of s).position + (removal_of s).collected))

left-of : (s : List ℕ) (m : Removal) → removal_of s ≡ m → m.cancelled ≡ false → left s ≡ pages_of_first s m m.count - (pages_of_first s m m.position + m.collected)
unfolding left pick
left-of s m e c = rw (e, c)

left-cancelled : (s : List ℕ) → (removal_of s).cancelled ≡ true → left s ≡ 0
unfolding left pick
left-cancelled s c = rw c

left-same : (s t : List ℕ) → SameSizes s t → removal_of t ≡ removal_of s → left t ≡ left s
unfolding left
left-same s t b e = rw (e, first-same s t b (removal_of s) (removal_of s) refl refl (removal_of s).count, first-same s t b (removal_of s) (removal_of s) refl refl (removal_of s).position)

-- the pages of the record at the position are among those that are left
within_count : (s : List ℕ) (i : ℕ) → Working s (removal_of s) i → pages_of_first s (removal_of s) (removal_of s).position + (block_at s i).pages ≤ pages_named s
within_count s i w =
    let next = first_more s (removal_of s) (removal_of s).position in
    let named : pages_at s (named_block s (address_at (removal_of s) (removal_of s).position) (size_at (removal_of s) (removal_of s).position)) ≡ (block_at s i).pages =
    rw w.named (unfold pages_at in refl) in
    omega (arith, next, named, first-up s (removal_of s) ((removal_of s).position + 1) (removal_of s).count (omega (arith, w.more)))

-- What an effect that is no end does to an outstanding removal.
record Down (s : List ℕ) (e : Effect) : Type 0 where
  one : outstanding_of e.state ≡ 1
  less : left e.state ≤ left s

-- a record more is settled
settled-left : (s : List ℕ) (e : Effect) (i r : ℕ) → Working s (removal_of s) i → SameSizes s e.state → removal_of e.state ≡ settled (removal_of s) r → (removal_of s).collected < (block_at s i).pages → left e.state + 1 ≤ left s
settled-left s e i r w b m less =
    let here = left-of s (removal_of s) refl w.goes_on in
    let there = left-of e.state (settled (removal_of s) r) m (unfold settled in w.goes_on) in
    let all = first-same s e.state b (removal_of s) (settled (removal_of s) r) (unfold settled in refl) (unfold settled in refl) in
    rw (here, there, all (settled (removal_of s) r).count, all (settled (removal_of s) r).position) (next (within_count s i w))
  where
    next : pages_of_first s (removal_of s) (removal_of s).position + (block_at s i).pages ≤ pages_named s → pages_of_first s (removal_of s) (settled (removal_of s) r).count - (pages_of_first s (removal_of s) (settled (removal_of s) r).position + (settled (removal_of s) r).collected) + 1 ≤ pages_named s - (pages_of_first s (removal_of s) (removal_of s).position + (removal_of s).collected)
    next within =
        unfold settled in
        rw (first_more s (removal_of s) (removal_of s).position, w.named) (unfold pages_at in (omega arith))

-- n pages more are collected, and not all yet
added-left : (s : List ℕ) (e : Effect) (i n : ℕ) → Working s (removal_of s) i → SameSizes s e.state → removal_of e.state ≡ collecting (removal_of s) n → 1 ≤ n → (removal_of s).collected < (block_at s i).pages → left e.state + 1 ≤ left s
added-left s e i n w b m some less =
    let here = left-of s (removal_of s) refl w.goes_on in
    let there = left-of e.state (collecting (removal_of s) n) m (unfold collecting in w.goes_on) in
    let all = first-same s e.state b (removal_of s) (collecting (removal_of s) n) (unfold collecting in refl) (unfold collecting in refl) in
    rw (here, there, all (collecting (removal_of s) n).count, all (collecting (removal_of s) n).position) (next (within_count s i w))
  where
    next : pages_of_first s (removal_of s) (removal_of s).position + (block_at s i).pages ≤ pages_named s → pages_of_first s (removal_of s) (collecting (removal_of s) n).count - (pages_of_first s (removal_of s) (collecting (removal_of s) n).position + (collecting (removal_of s) n).collected) + 1 ≤ pages_named s - (pages_of_first s (removal_of s) (removal_of s).position + (removal_of s).collected)
    next within = unfold collecting in (omega arith)

module _ (s : List ℕ) (g : Given s) (o : outstanding_of s ≡ 1) where
  -- an unconfigured block at the position has nothing collected
  collected-below : (i : ℕ) → Working s (removal_of s) i → (block_at s i).configured ≡ 0 → (removal_of s).collected < (block_at s i).pages
  unfolding collected_sound removal_room room_at pick
  collected-below i w z =
      let c = (g.facts.removal (rw o)).facts.room in
      let none : (removal_of s).collected ≡ 0 = eqb-true _ 0 (rw (lt-ltb _ _ w.more, w.named, z) at c) in
      let b = (block-rules _ _ (g.facts.base.blocks i (named-less s (addr_now (removal_of s)) (size_now (removal_of s)) i w.named))).0 in
      omega (arith, b.some)

  -- a work step that is no end
  record StepDown (e : Effect) : Type 0 where
    still : outstanding_of e.state ≡ 1
    fewer : left e.state + 1 ≤ left s

  step_down : (e : Effect) → Step s e → (e.event.kind ≡ kind_collected → 1 ≤ e.event.count) → (e.event.kind ≡ kind_removal_end → ⊥) → StepDown e
  step_down e (adds i n w b r d ev) some x = record {
    still = r.one;
    fewer =
        added-left s e i n w b.sizes r.removal (rw ev at (some (ap (λ (v : Event). v.kind) ev)))
        (remains s g (rw o) i w d).1;
  }
  step_down e (nowork i w b r z ev) some x = record { still = r.one; fewer = settled-left s e i _ w b.sizes r.removal (collected-below i w z) }
  step_down e (ok i n w b other now r d ev) some x = record { still = r.one; fewer = settled-left s e i _ w b r.removal (remains s g (rw o) i w d).1 }
  step_down e (ends b z k) some x = absurd (x k)

-- an effect that is no end: a work step leaves fewer pages, any other no more
turn-down : (s : List ℕ) → outstanding_of s ≡ 1 → (e : Effect) → Turn s e → (e.event.kind ≡ kind_removal_end → ⊥) → Down s e
turn-down s o e (leaves b r a) n = record { one = r.outstanding ∙ o; less = omega (arith, left-same s e.state b.sizes r.removal) }
turn-down s o e (configures b z z' a) n = absurd (omega (arith, z, o))
turn-down s o e (begins m b r p c z k) n = absurd (omega (arith, z, o))
turn-down s o e (marks b r one k) n = record {
  one = r.one;
  less = omega (arith, left-cancelled e.state (ap (λ (x : Removal). x.cancelled) r.removal ∙ unfold marked in refl));
}
turn-down s o e (steps t budget some h b r one same) n =
    rw same
    (let d = step_down t h one (working t budget).effects (step_of t h (rw one) budget) (paging t h (rw one) budget some).some (rw same at n) in
    record { one = d.still; less = omega (arith, d.fewer, left-same s t b.sizes r.removal) })

-- the work step itself
work-down : (s : List ℕ) → Given s → outstanding_of s ≡ 1 → (a : Action) → is_work a ≡ true → in_range a ≡ true → ((effect_of s a).event.kind ≡ kind_removal_end → ⊥) → left (effect_of s a).state + 1 ≤ left s
unfolding is_work effect_of in_range
work-down s g o (receive c m) e r n = absurd (clash false refl e)
work-down s g o (offer c v) e r n = absurd (clash false refl e)
work-down s g o (withdraw c v) e r n = absurd (clash false refl e)
work-down s g o (close c) e r n = absurd (clash false refl e)
work-down s g o (permit v permitted) e r n = absurd (clash false refl e)
work-down s g o take_order e r n = absurd (clash false refl e)
work-down s g o (work budget) e r n =
    (step_down s g o (working s budget).effects (step_of s g (rw o) budget) (paging s g (rw o) budget (leb-true 1 budget (both _ _ r).0)).some n).fewer

-- counting changes neither blocks nor removal
counted-left : (t : List ℕ) (last held : ℕ) → blocks_of t ≤ most_blocks → left (with_counts t last held) ≡ left t
counted-left t last held few =
    left-same t (with_counts t last held) (counted-blocks t last held few).sizes (counted-removal t last held).removal

-- One call that is no end, while a removal is outstanding.
record Fewer (s : List ℕ) (call : Call) (r : Outcome) : Type 0 where
  still : outstanding_of r.state ≡ 1
  steps : steps_by call r + left r.state ≤ left s

module _ (s j : List ℕ) (size : length s ≡ state_words) (few : blocks_of s ≤ most_blocks) (o : outstanding_of s ≡ 1) where
  act-fewer : (a : Action) (out : List ℕ) (y : refusal_of s j out a ≡ 0) → notes_by kind_removal_end (act a out) (accepted s j out (pages_of s a) (effect_of s a)) ≡ false → Fewer s (act a out) (accepted s j out (pages_of s a) (effect_of s a))
  act-fewer a out y n =
      let t = taken s j out a size y in
      let few' = (shape-moves t.good.moves (shape s t.given)).few in
      let d = turn-down s o (effect_of s a) t.good.turn (not_end t n) in
      let same = counted-left (effect_of s a).state (last_of s + 1) (held_of s + 1) few' in
      record {
        still = unfold accepted in ((counted-removal (effect_of s a).state (last_of s + 1) (held_of s + 1)).outstanding ∙ d.one);
        steps = unfold accepted steps_by in rw same (by-action t n d (is_work a) refl);
      }
    where
      not_end : Taken s j out (effect_of s a) → notes_by kind_removal_end (act a out) (accepted s j out (pages_of s a) (effect_of s a)) ≡ false → (effect_of s a).event.kind ≡ kind_removal_end → ⊥
      not_end t n =
          eqb-false _ kind_removal_end
          (sym (ap (λ (v : Event). eqb v.kind kind_removal_end) (noted-is s j out (pages_of s a) (effect_of s a) t)) ∙ unfold notes_by accepted ◌and◌ in n)

      by-action : Taken s j out (effect_of s a) → notes_by kind_removal_end (act a out) (accepted s j out (pages_of s a) (effect_of s a)) ≡ false → Down s (effect_of s a) → (x : Bool) → is_work a ≡ x → pick (is_work a and true) 1 0 + left (effect_of s a).state ≤ left s
      by-action t n d true e = unfold pick ◌and◌ in rw e (omega (arith, work-down s t.given o a e (in-range s j out a y) (not_end t n)))
      by-action t n d false e = unfold pick ◌and◌ in rw e (omega (arith, d.less))

  call-fewer : (call : Call) → notes_by kind_removal_end call (outcome s j call) ≡ false → Fewer s call (outcome s j call)
  call-fewer (act a out) =
      on-act (λ r. notes_by kind_removal_end (act a out) r ≡ false → Fewer s (act a out) r) s j out a (act-fewer a out)
      (λ n _. record { still = unfold refused in o; steps = unfold steps_by refused in rw (ne_eqb _ 0 n, and-false-right (is_work a) false refl) (unfold pick in (omega arith)) })
  call-fewer (drain run) =
      on-drain (λ r. notes_by kind_removal_end (drain run) r ≡ false → Fewer s (drain run) r) s j run
      (λ z n less e _.
      record {
        still = unfold drained in ((counted-removal s (last_of s) (held_of s - n)).outstanding ∙ o);
        steps = unfold drained steps_by in rw (counted-left s (last_of s) (held_of s - n) few) (omega arith);
      })
      (λ z _. record { still = unfold refused in o; steps = unfold steps_by refused in (omega arith) })

aside-begun : (kind : ℕ) → aside kind ≡ true → kind ≡ kind_begun → ⊥
unfolding aside ◌or◌
aside-begun kind a k = clash false refl (rw k at a)

begun-step : (s : List ℕ) (e : Effect) → Step s e → e.event.kind ≡ kind_begun → ⊥
begun-step s e (adds i n w b r d ev) k = omega (arith, k, ap (λ (v : Event). v.kind) ev)
begun-step s e (nowork i w b r z ev) k = omega (arith, k, ap (λ (v : Event). v.kind) ev)
begun-step s e (ok i n w b other now r d ev) k = omega (arith, k, ap (λ (v : Event). v.kind) ev)
begun-step s e (ends b o k') k = omega (arith, k, k')

-- no call begins another while one is outstanding
begun-none : (s : List ℕ) → outstanding_of s ≡ 1 → (e : Effect) → Turn s e → e.event.kind ≡ kind_begun → ⊥
begun-none s o e (leaves b r a) k = aside-begun _ a k
begun-none s o e (configures b z z' a) k = omega (arith, z, o)
begun-none s o e (begins m b r p c z k') k = omega (arith, z, o)
begun-none s o e (marks b r z k') k = omega (arith, k, k')
begun-none s o e (steps t budget some h b r one same) k = begun-step t (working t budget).effects (step_of t h (rw one) budget) (rw same at k)

begins-no-other : (s j : List ℕ) → length s ≡ state_words → outstanding_of s ≡ 1 → (call : Call) → notes_by kind_begun call (outcome s j call) ≡ false
begins-no-other s j size o (act a out) =
    on-act (λ r. notes_by kind_begun (act a out) r ≡ false) s j out a
    (λ y.
    let t = taken s j out a size y in
    unfold notes_by accepted ◌and◌ in
    (ne_eqb _ kind_begun (λ k. begun-none s o (effect_of s a) t.good.turn (ap (λ (v : Event). v.kind) (sym (noted-is s j out (pages_of s a) (effect_of s a) t)) ∙ k))))
    (λ n. unfold notes_by refused ◌and◌ in rw (ne_eqb _ 0 n))
begins-no-other s j size o (drain run) = on-drain (λ r. notes_by kind_begun (drain run) r ≡ false) s j run (λ z n few e. unfold notes_by in refl) (λ z. unfold notes_by in refl)

after-state : (u : Run) (d : Done) → (after u d).state ≡ d.gave.state
unfolding after
after-state u d = refl

-- a list of calls without an end
list-fewer : (b : View) (u : Run) (ds : List Done) → AllMeet u ds → Kept b u → outstanding_of u.state ≡ 1 → ends_in ds ≡ false → steps_in ds ≤ left u.state
unfolding AllMeet ends_in steps_in ◌and◌
list-fewer b u [] m k o n = omega arith
list-fewer b u (d ∷ ds) m k o n =
    let p = or-false _ _ n in
    let other : notes_by kind_begun d.call d.gave ≡ false = rw (meets-outcome m.0) (begins-no-other u.state u.journal k.size o d.call) in
    let f : Fewer u.state d.call d.gave = rw (meets-outcome m.0) (call-fewer u.state u.journal k.size (sound-facts u.state k.sounds).base.few o d.call (rw (meets-outcome m.0) at p.0)) in
    let r =
    list-fewer b (after u d) ds m.1 (rw (meets-doing u d m.0) (kept-doing b u d.call k)) (ap outstanding_of (after-state u d) ∙ f.still) (rw other at p.1) in
    omega (arith, f.steps, r, ap left (after-state u d))

-- A beginning leaves a removal outstanding.
begun-turn : (s : List ℕ) (e : Effect) → Turn s e → e.event.kind ≡ kind_begun → outstanding_of e.state ≡ 1
begun-turn s e (leaves b r a) k = absurd (aside-begun _ a k)
begun-turn s e (configures b o o' a) k = absurd (aside-begun _ a k)
begun-turn s e (begins m b r p c o k') k = r.one
begun-turn s e (marks b r o k') k = absurd (omega (arith, k, k'))
begun-turn s e (steps t budget some h b r one same) k = absurd (begun-step t (working t budget).effects (step_of t h (rw one) budget) (rw same at k))

begun-outstanding : (s j out : List ℕ) (a : Action) (r : Outcome) → length s ≡ state_words → r ≡ outcome s j (act a out) → r.refusal ≡ 0 → (noted r).kind ≡ kind_begun → outstanding_of r.state ≡ 1
begun-outstanding s j out a r size same z k =
    on-accepted (λ x. (noted x).kind ≡ kind_begun → outstanding_of x.state ≡ 1) s j out a r same z
    (λ y h.
    let t = taken s j out a size y in
    (accepted-removal s j out (pages_of s a) (effect_of s a)).outstanding
    ∙ begun-turn s (effect_of s a) t.good.turn (ap (λ (v : Event). v.kind) (sym (noted-is s j out (pages_of s a) (effect_of s a) t)) ∙ h))
    k

left-most : (s : List ℕ) → left s ≤ pages_named s
unfolding left
left-most s = on-pick (λ (n : ℕ). n ≤ pages_named s) _ _ _ (λ _. omega arith) (λ _. omega arith)

-- "it has ended by the (P + 1)th accepted work step after its beginning"
has_ended : (b : View) (u : Run) (before between later : List Done) (a : Action) (out : List ℕ) (r : Outcome) → Kept b u → AllMeet u (before ++ record { call = act a out; gave = r } ∷ (between ++ later)) → r.refusal ≡ 0 → (noted r).kind ≡ kind_begun → pages_named r.state + 1 ≤ steps_in between → ends_in between ≡ true
has_ended b u before between later a out r k m z h p = go (ends_in between) refl
  where
    go : (x : Bool) → ends_in between ≡ x → x ≡ true
    go true e = refl
    go false e =
        let d : Done = record { call = act a out; gave = r } in
        let here = meets-here u before (record { call = act a out; gave = r }) (between ++ later) m in
        let kept = kept-meeting b u before (meets-before u before _ m) k in
        let next : Kept b (after (runs u before) d) = rw (meets-doing (runs u before) (record { call = act a out; gave = r }) here) (kept-doing b (runs u before) (act a out) kept) in
        let one = begun-outstanding (runs u before).state (runs u before).journal out a r kept.size (meets-outcome here) z h in
        let all = meets-before (after (runs u before) d) between later (meets-after u before d (between ++ later) m) in
        let f = list-fewer b (after (runs u before) d) between all next (ap outstanding_of (after-state (runs u before) d) ∙ one) e in
        absurd (omega (arith, f, ap left (after-state (runs u before) d), left-most r.state))

-- the mark settles nothing
mark-kind : (told (entry_of 1 mark_event)).kind ≡ kind_mark
unfolding event_of
mark-kind = rw mark-back (unfold fields_of in refl)

not-settled : SettledOk (entry_of 1 mark_event) → ⊥
not-settled x = omega (arith, mark-kind, x.is_settled)

-- before any call
adding-first : (l : Lists) (s j : List ℕ) → First l s j → Adding l (new_run s j)
adding-first l s j f = rw f.state (first (starts l f.accepted) (rw f.state at f.entry))
  where
    first : Starts l → entries (new_run (marked_state l) j) ≡ entry_of 1 mark_event ∷ [] → Adding l (new_run (marked_state l) j)
    first x entry = record {
      count = x.counted;
      pages = λ i h. ap (λ (b : Block). b.pages) (x.given i (omega (arith, x.counted)));
      named = x.named;
      since = λ o c. absurd (omega (arith, o, x.outstanding));
      added = rw entry (added_more l [] (entry_of 1 mark_event) (λ i h. absurd (not-suc-le-zero h)) (λ x. absurd (not-settled x)));
    }

-- the sizes of blocks after an accepted action
accepted-sizes : (s j out : List ℕ) (a : Action) (r : Outcome) → length s ≡ state_words → r ≡ outcome s j (act a out) → r.refusal ≡ 0 → SameSizes s r.state
accepted-sizes s j out a r size same z =
    on-accepted (λ x. SameSizes s x.state) s j out a r same z
    (λ y.
    let t = taken s j out a size y in
    unfold accepted in
    (sizes-then s (effect_of s a).state _ (turn-sizes s (effect_of s a) t.good.turn)
    (counted-blocks (effect_of s a).state (last_of s + 1) (held_of s + 1) (shape-moves t.good.moves (shape s t.given)).few).sizes))

-- the pages of the pairs of a request
module _ (l : Lists) (t : List ℕ) (m : Removal) (b : List ℕ) (n : ℕ)
    (named : (addr size : ℕ) → named_block t addr size ≡ named_in l.blocks 0 (length l.blocks / block_words) addr size)
    (pages : (i : ℕ) → i < blocks_of t → (block_at t i).pages ≡ (block_in l.blocks 0 i).pages)
    (addresses : (i : ℕ) → i < n → address_at m i ≡ addr_in b i)
    (sizes : (i : ℕ) → i < n → size_at m i ≡ size_in b i) where
  listed-pages : (x : Option ℕ) (addr size : ℕ) → named_block t addr size ≡ x → pages_at t x ≡ pages_listed l x
  unfolding pages_at pages_listed
  listed-pages (Some i) addr size e = pages i (named-less t addr size i e)
  listed-pages None addr size e = refl

  asked-pages : (k : ℕ) → k ≤ n → pages_of_first t m k ≡ pages_asked l b k
  unfolding pages_of_first pages_asked
  asked-pages zero h = refl
  asked-pages (suc k) h =
      rw (asked-pages k (omega arith), addresses k (omega arith), sizes k (omega arith), ← named (addr_in b k) (size_in b k), listed-pages (named_block t (addr_in b k) (size_in b k)) (addr_in b k) (size_in b k) refl)

pub removals-end : OfEveryList Ends
removals-end l r j₀ j ds e z m =
    let f' = at_first l r j₀ j e z in
    record {
      ends =
          λ before between later a out o q y k p.
          has_ended (setup_view l) (new_run r.state j) before between later a out o f'.kept (rw q at m) y k p;
      asked =
          λ before later c handle msg out o n q a f none.
          let m' = rw q at m in
          let w = on_list (setup_view l) (Adding l) (λ u k q. adding-call l (setup_view l) u k q) (new_run r.state j) before (meets-before (new_run r.state j) before _ m') f'.kept (adding-first l r.state j f') in
          let x = (repeats l r j₀ j ds e z m).begins before later c handle msg out o n q a f none in
          let y = accepted-sizes (runs (new_run r.state j) before).state (runs (new_run r.state j) before).journal out (receive c msg) o w.0.size (meets-outcome (meets-here (new_run r.state j) before _ later m')) a.accepted in
          ap (pages_of_first o.state (removal_of o.state)) x.count
          ∙ asked-pages l o.state (removal_of o.state) (request_in msg) n
          (λ addr size. y.named addr size ∙ w.1.named addr size)
          (λ i h. y.pages i (omega (arith, y.count)) ∙ w.1.pages i (omega (arith, y.count)))
          x.addresses x.sizes n (omega arith);
      adds_up =
          (on_list (setup_view l) (Adding l) (λ u k q. adding-call l (setup_view l) u k q) (new_run r.state j) ds m f'.kept (adding-first l r.state j f')).1.added;
    }
