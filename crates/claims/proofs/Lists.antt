-- What every list of calls keeps.
-- Assumes nothing.
use Prim.Native.Nat.{ℕ, suc, ◌+◌, ◌-◌, ◌≤◌, ◌<◌}
use native.Mathlib.Omega.{arith}
use native.Mathlib.Nat.{add-zero}
use mathlib.Core.Path.{◌≡◌, refl, sym, ap, ◌∙◌}
use mathlib.Core.Bool.{Bool, true, false}
use mathlib.Core.List.{List, [], ◌∷◌, ◌++◌, append_assoc, append-nil}
use lib.ListN.{length, get_or, length-append, get_or-append}
use lib.Seq.{get_or-append_seam}
use lib.Dec.{leb}
use borrow.Author.Tests.{leb-true, leb-false, ne_eqb}
use Rattle.entry.specs.Word.{unpacked}
use Rattle.basics.specs.Choice.{pick}
use Rattle.model.specs.declared.Event.{Event}
use Rattle.model.specs.State.{sound}
use Rattle.model.specs.Messages.{Effect}
use Rattle.model.specs.Calls.{Call, act, drain, Action, Outcome, accepted, drained, effect_of, outcome, pages_of, refusal_of, refused}
use Rattle.model.specs.Reading.{reading_in, View, read, read_entry, reading, view_of}
use Rattle.claims.specs.Demand3.{Run, Done, after, doing, drained_by, entries, no_entry, numbered_by, runs}
use Rattle.claims.specs.EveryList.{Meets, answers, works, takes, drains, AllMeet}
use Rattle.model.proofs.Words.{counts-length, last-counts, held-counts}
use Rattle.model.proofs.View.{shape-moves, counts-view}
use Rattle.model.proofs.Rules.{sound-facts}
use Rattle.model.proofs.Sounds.{sound-counted}
use Rattle.model.proofs.Peers.{ids-same}
use Rattle.model.proofs.Above.{turn-keeps, turn-orders}
use Rattle.model.proofs.Ring.{fields_back, stored_same, stored-run, entries-snoc, entries-split, length-entries, entries-in, reading-append}
use Rattle.effects.proofs.Effects.{shape}
use Rattle.effects.proofs.Taken.{Taken, taken}
use Rattle.model.proofs.Calls.{on-act, on-drain}
use Rattle.model.specs.Journal.{new_edition, Entry, entries_at, entry_at, entry_of, fields_of, stored}
use Rattle.model.specs.Layout.{held_of, last_of, state_words, with_counts}

-- entries numbered from 1 without gap or repeat, n in all, whose reading, begun from b, is v
pub record Listed (b : View) (es : List Entry) (n : ℕ) (v : View) : Type 0 where
  pub total : length es ≡ n
  pub numbered : (i : ℕ) → i < n → (unpacked (get_or es i no_entry).first).number ≡ i + 1
  pub reads : reading b es ≡ v

-- what a list of calls keeps
pub record Kept (b : View) (u : Run) : Type 0 where
  pub size : length u.state ≡ state_words
  pub sounds : sound u.state ≡ true
  pub last : last_of u.state ≡ u.number
  pub held : length u.drained + held_of u.state ≡ u.number
  pub listed : Listed b (entries u) u.number (view_of u.state)

-- one entry more
pub listed_more : (b : View) (es : List Entry) (n : ℕ) (v w : View) (e : Event) → Listed b es n v → unpacked (entry_of (n + 1) e).first ≡ fields_of (n + 1) e → read (fields_of (n + 1) e) e.word v ≡ w → Listed b (es ++ entry_of (n + 1) e ∷ []) (n + 1) w
unfolding reading_in read_entry
listed_more b es n v w e l f q =
    let x : Entry = entry_of (n + 1) e in
    record {
      total = simp length-append (omega (arith, l.total));
      numbered = λ i h. at i (leb n i) refl h;
      reads =
          reading-append b es (x ∷ [])
          ∙ ap (λ (k : View). read_entry new_edition k x) l.reads
          ∙ rw f (second ∙ q);
    }
  where
    second : read (fields_of (n + 1) e) (entry_of (n + 1) e).second v ≡ read (fields_of (n + 1) e) e.word v
    second = unfold entry_of in refl

    is_number : (unpacked (entry_of (n + 1) e).first).number ≡ n + 1
    is_number = rw f (unfold fields_of in refl)

    at : (i : ℕ) (t : Bool) → leb n i ≡ t → i < n + 1 → (unpacked (get_or (es ++ entry_of (n + 1) e ∷ []) i no_entry).first).number ≡ i + 1
    at i true t h =
        let k : i ≡ length es = omega (arith, leb-true n i t, l.total) in
        ap (λ (y : Entry). (unpacked y.first).number)
        (ap (λ (z : ℕ). get_or (es ++ entry_of (n + 1) e ∷ []) z no_entry) k ∙ get_or-append_seam es (entry_of (n + 1) e) [] no_entry)
        ∙ is_number
        ∙ omega (arith, leb-true n i t)
    at i false t h =
        let g = leb-false n i t in
        ap (λ (y : Entry). (unpacked y.first).number)
        (get_or-append es (entry_of (n + 1) e ∷ []) no_entry i (omega (arith, l.total)))
        ∙ l.numbered i g

-- an accepted call that is no drain
unfoldable pub grown : Run → Effect → Run
grown u e = record {
  state = with_counts e.state (last_of u.state + 1) (held_of u.state + 1);
  journal = stored u.journal (last_of u.state + 1) (entry_of (last_of u.state + 1) e.event);
  drained = u.drained;
  number = u.number + 1;
}

pub entries-grown : (b : View) (u : Run) (e : Effect) (out : List ℕ) → Kept b u → Taken u.state u.journal out e → entries (grown u e) ≡ entries u ++ entry_of (last_of u.state + 1) e.event ∷ []
unfolding entries grown
entries-grown b u e out k t =
    let l : ℕ = last_of u.state + 1 in
    let x : Entry = entry_of (last_of u.state + 1) e.event in
    let d : ℕ = length u.drained + 1 in
    let n : ℕ = u.number - length u.drained in
    let more : u.number + 1 - length u.drained ≡ suc (u.number - length u.drained) = omega (arith, k.held) in
    let here : length u.drained + 1 + (u.number - length u.drained) ≡ last_of u.state + 1 =
    omega (arith, k.held, k.last) in
    let new : entry_at (stored u.journal (last_of u.state + 1) x) (length u.drained + 1 + (u.number - length u.drained)) ≡ x =
    ap (entry_at (stored u.journal (last_of u.state + 1) x)) here
    ∙ stored_same u.journal (last_of u.state + 1) x t.words in
    let old =
    stored-run u.journal d n (last_of u.state + 1) x (omega arith) (omega (arith, here))
    (omega (arith, here, t.room, k.held, k.last)) in
    rw (more, entries-snoc, new, old) (sym (append_assoc u.drained (entries_at u.journal d n) (x ∷ [])))

kept-grown : (b : View) (u : Run) (e : Effect) (out : List ℕ) → Kept b u → Taken u.state u.journal out e → Kept b (grown u e)
unfolding grown
kept-grown b u e out k t =
    let g = t.good in
    let w = shape-moves g.moves (shape u.state t.given) in
    let l = last-counts e.state (last_of u.state + 1) (held_of u.state + 1) w.size in
    let h = held-counts e.state (last_of u.state + 1) (held_of u.state + 1) w.size in
    let c = t.given.facts.counts in
    record {
      size = counts-length e.state _ _ ∙ w.size;
      sounds =
          sound-counted e.state (last_of u.state + 1) (held_of u.state + 1) w.size g.base g.removal
          (turn-keeps u.state t.given.size t.given.facts.devices e g.above)
          (turn-orders u.state t.given.size t.given.facts.devices e t.given.facts.orders g.above)
          (ids-same u.state e.state g.peers.ids t.given.facts.ids)
          g.peers.sounds
          (omega arith) (omega (arith, t.given.number)) (omega (arith, t.room)) (omega (arith, c.numbered));
      last = l ∙ ap (λ (n : ℕ). n + 1) k.last;
      held = rw h (omega (arith, k.held));
      listed =
          rw (entries-grown b u e out k t, counts-view e.state w, k.last)
          (listed_more b (entries u) u.number (view_of u.state) (view_of e.state) e.event k.listed
          (rw (← k.last) (fields_back (last_of u.state + 1) e.event g.entry.range))
          (rw (← k.last) (sym g.moves.view)));
    }

-- Drain: some of the oldest held entries have moved to those drained.
unfoldable pub shifted : Run → ℕ → Run
shifted u n = record {
  state = with_counts u.state (last_of u.state) (held_of u.state - n);
  journal = u.journal;
  drained = u.drained ++ entries_at u.journal (length u.drained + 1) n;
  number = u.number;
}

pub entries-shifted : (b : View) (u : Run) (n : ℕ) → n ≤ held_of u.state → Kept b u → entries (shifted u n) ≡ entries u
unfolding entries shifted
entries-shifted b u n h k =
    let l : length (u.drained ++ entries_at u.journal (length u.drained + 1) n) ≡ length u.drained + n =
    simp (length-append, length-entries) in
    let m : u.number - length u.drained ≡ n + (u.number - (length u.drained + n)) = omega (arith, k.held) in
    let o : length u.drained + n + 1 ≡ length u.drained + 1 + n = omega arith in
    rw (l, m, o, entries-split, append_assoc)

kept-shifted : (b : View) (u : Run) (n : ℕ) → n ≤ held_of u.state → Kept b u → Kept b (shifted u n)
unfolding shifted
kept-shifted b u n h k =
    let f = sound-facts u.state k.sounds in
    let c = f.counts in
    let m = held-counts u.state (last_of u.state) (held_of u.state - n) k.size in
    record {
      size = counts-length u.state _ _ ∙ k.size;
      sounds =
          sound-counted u.state (last_of u.state) (held_of u.state - n) k.size f.base f.removal f.devices f.orders f.ids f.peers
          c.some c.lasts (omega (arith, c.helds)) (omega (arith, c.numbered));
      last = last-counts u.state _ _ k.size ∙ k.last;
      held = rw m (simp (length-append, length-entries) (omega (arith, k.held)));
      listed =
          rw (
            entries-shifted b u n h k,
            counts-view u.state (record { size = k.size; few = f.base.few }),
          )
          k.listed;
    }

-- What holds of a run holds after a call, where it holds after each thing that a call does to the run: an entry more, entries drained, or nothing.
pub record AfterCall (Q : Run → Type 0) (u : Run) : Type 0 where
  pub on_act : (a : Action) (out : List ℕ) → refusal_of u.state u.journal out a ≡ 0 → Q (grown u (effect_of u.state a))
  pub on_drain : (n : ℕ) → n ≤ held_of u.state → Q (shifted u n)
  pub on_refusal : Q u

module _ (b : View) (Q : Run → Type 0) (u : Run) (k : Kept b u) (c : AfterCall Q u) where
  act-accepted : (a : Action) (out : List ℕ) → refusal_of u.state u.journal out a ≡ 0 → Q (after u (record { call = act a out; gave = accepted u.state u.journal out (pages_of u.state a) (effect_of u.state a) }))
  act-accepted a out z =
      unfold after drained_by numbered_by accepted pick in
      rw append-nil (unfold grown in (c.on_act a out z))

  act-refused : (a : Action) (out : List ℕ) → (refusal_of u.state u.journal out a ≡ 0 → ⊥) → Q (after u (record { call = act a out; gave = refused u.state u.journal out (refusal_of u.state u.journal out a) }))
  act-refused a out n = unfold after drained_by numbered_by refused pick in rw (append-nil, ne_eqb _ 0 n, add-zero) c.on_refusal

  drain-accepted : (run : List ℕ) (n : ℕ) → n ≤ held_of u.state → Q (after u (record { call = drain run; gave = drained u.state u.journal run n }))
  unfolding after drained drained_by numbered_by pick shifted
  drain-accepted run n h =
      let a : last_of u.state - held_of u.state ≡ length u.drained = omega (arith, k.held, k.last) in
      rw (entries-in, a, add-zero) (c.on_drain n h)

  drain-refused : (run : List ℕ) (n : ℕ) → (n ≡ 0 → ⊥) → Q (after u (record { call = drain run; gave = refused u.state u.journal run n }))
  unfolding after refused drained_by numbered_by pick
  drain-refused run n z = rw (ne_eqb n 0 z, add-zero, append-nil) c.on_refusal

  -- a call, with what the definitions give for it
  pub on-doing : (call : Call) → Q (after u (doing u call))
  on-doing (act a out) =
      on-act (λ r. Q (after u (record { call = act a out; gave = r }))) u.state u.journal out a
      (λ z. act-accepted a out z)
      (λ n. act-refused a out n)
  on-doing (drain run) =
      on-drain (λ r. Q (after u (record { call = drain run; gave = r }))) u.state u.journal run
      (λ z n few e. drain-accepted run n few)
      (λ z. drain-refused run _ z)

pub kept-doing : (b : View) (u : Run) (call : Call) → Kept b u → Kept b (after u (doing u call))
kept-doing b u call k =
    on-doing b (Kept b) u k
    (record {
      on_act = λ a out z. kept-grown b u (effect_of u.state a) out k (taken u.state u.journal out a k.size z);
      on_drain = λ n h. kept-shifted b u n h k;
      on_refusal = k;
    })
    call

-- a call that meets its contract gives what the definitions give
pub meets-outcome : {s j : List ℕ} {call : Call} {r : Outcome} → Meets s j call r → r ≡ outcome s j call
meets-outcome (answers e) = e
meets-outcome (works e) = e
meets-outcome (takes e) = e.0
meets-outcome (drains e) = e

pub meets-doing : (u : Run) (d : Done) → Meets u.state u.journal d.call d.gave → after u d ≡ after u (doing u d.call)
meets-doing u d e = ap (λ (r : Outcome). after u (record { call = d.call; gave = r })) (meets-outcome e)

-- What holds of every list of calls that meet their contracts, by induction: it holds at first, and each call keeps it.
module _ (b : View) (Q : Run → Type 0) (step : (u : Run) → Kept b u → Q u → AfterCall Q u) where
  pub on_list : (u : Run) (ds : List Done) → AllMeet u ds → Kept b u → Q u → Kept b (runs u ds) × Q (runs u ds)
  unfolding AllMeet runs
  on_list u [] m k q = (k, q)
  on_list u (d ∷ ds) m k q =
      on_list (after u d) ds m.1
      (rw (meets-doing u d m.0) (kept-doing b u d.call k))
      (rw (meets-doing u d m.0) (on-doing b Q u k (step u k q) d.call))
