-- Demand 3 holds: any accepted lists, any first journal, any list of calls that meet their contracts.
-- Assumes nothing.
use Prim.Native.Nat.{ℕ, ◌+◌}
use native.Mathlib.Omega.{arith}
use mathlib.Core.Path.{◌≡◌, refl, sym, ap, ◌∙◌}
use mathlib.Core.Bool.{Bool, true, false}
use mathlib.Core.List.{List, [], ◌∷◌, ◌++◌}
use Rattle.basics.specs.Choice.{pick, ◌and◌, ◌or◌}
use Rattle.model.specs.declared.Started.{Started}
use Rattle.model.specs.Blocks.{Lists, accepted_lists}
use Rattle.model.specs.Calls.{Outcome, SetUp, setup_refusal, set_up, effect_of}
use Rattle.model.specs.Layout.{journal_words, Device, devices_of, first_device_word, first_id_word, ids_of, last_of, with_counts}
use Rattle.model.specs.Devices.{devices_keep}
use Rattle.model.specs.Peers.{ids_keep}
use Rattle.model.specs.Reading.{read_in, reading_in, view_of, View, setup_view, devices_shown, setup_devices, read_devices, reading_devices, Orders, orders_shown, setup_orders, read_orders, reading_orders, Peer, peers_shown, setup_peers, ids_shown, setup_ids, read_peers, reading_peers}
use Rattle.entry.specs.declared.Fields.{Fields}
use Rattle.entry.specs.Word.{unpacked, InRange}
use lib.Dec.{eqb}
use lib.ListN.{length}
use borrow.Author.Tests.{eqb-true, eqb-false}
use Rattle.model.specs.Messages.{Effect}
use Rattle.claims.specs.Demand3.{Run, Done, after, new_run, entries, runs, Demand3}
use Rattle.claims.specs.EveryList.{Meets, AllMeet, OfEveryList}
use Rattle.model.specs.Promises.{SetupPost}
use Rattle.model.proofs.Rules.{sound-facts}
use Rattle.model.proofs.Setup.{marked_state, setup-accepts, starts}
use Rattle.model.proofs.Words.{counts-frame}
use Rattle.model.proofs.Devices.{shown-same}
use Rattle.model.proofs.Above.{turn-keeps, turn-shown, turn-ordered, orders-shown-same}
use Rattle.model.proofs.Peers.{ids-same, ids-shown-same, peers-shown-same}
use Rattle.model.proofs.Ring.{fields_back, stored_same}
use Rattle.effects.proofs.Taken.{Taken, taken}
use Rattle.claims.proofs.Lists.{Kept, AfterCall, grown, shifted, entries-grown, entries-shifted, meets-outcome, on_list, listed_more}
use Rattle.claims.proofs.Delivers.{delivers, delivers-peer}
use Rattle.model.specs.Journal.{mark_event, stored, fields_of, Entry, entries_at, entry_of}

-- what a part of such a list meets
pub meets-before : (u : Run) (before later : List Done) → AllMeet u (before ++ later) → AllMeet u before
unfolding AllMeet
meets-before u [] later m = tt
meets-before u (d ∷ before) later m = (m.0, meets-before (after u d) before later m.1)

pub meets-here : (u : Run) (before : List Done) (d : Done) (later : List Done) → AllMeet u (before ++ d ∷ later) → Meets (runs u before).state (runs u before).journal d.call d.gave
unfolding AllMeet runs
meets-here u [] d later m = m.0
meets-here u (x ∷ before) d later m = meets-here (after u x) before d later m.1

pub meets-after : (u : Run) (before : List Done) (d : Done) (later : List Done) → AllMeet u (before ++ d ∷ later) → AllMeet (after (runs u before) d) later
unfolding AllMeet runs
meets-after u [] d later m = m.1
meets-after u (x ∷ before) d later m = meets-after (after u x) before d later m.1

-- what an accepted setup leaves
set-up : (l : Lists) (j : List ℕ) → (set_up l j).refusal ≡ 0 → (setup_refusal l (length j) ≡ 0) × (set_up l j ≡ record { refusal = 0; state = marked_state l; journal = stored j 1 (entry_of 1 mark_event) })
unfolding set_up pick
set-up l j e = go (eqb (setup_refusal l (length j)) 0) refl
  where
    go : (b : Bool) → eqb (setup_refusal l (length j)) 0 ≡ b → (setup_refusal l (length j) ≡ 0) × (set_up l j ≡ record { refusal = 0; state = marked_state l; journal = stored j 1 (entry_of 1 mark_event) })
    go true q = (eqb-true _ 0 q, unfold set_up pick in (rw q))
    go false q = absurd (eqb-false _ 0 q (unfold set_up pick in (rw q at e)))

-- "read as nothing"
mark-range : InRange (fields_of 1 mark_event)
unfolding fields_of
mark-range = omega arith

pub mark-back : unpacked (entry_of 1 mark_event).first ≡ fields_of 1 mark_event
mark-back = fields_back 1 mark_event mark-range

mark-entries : (s j : List ℕ) → length j ≡ journal_words → entries (new_run s (stored j 1 (entry_of 1 mark_event))) ≡ entry_of 1 mark_event ∷ []
unfolding entries entries_at
mark-entries s j n = rw (stored_same j 1 (entry_of 1 mark_event) n)

-- before any call
kept-start : (l : Lists) (j : List ℕ) → accepted_lists l ≡ true → length j ≡ journal_words → Kept (setup_view l) (new_run (marked_state l) (stored j 1 (entry_of 1 mark_event)))
kept-start l j a n =
    let s = starts l a in
    record {
      size = s.size;
      sounds = s.sounds;
      last = s.last;
      held = omega (arith, s.held);
      listed =
          rw (mark-entries (marked_state l) j n)
          (listed_more (setup_view l) [] 0 (setup_view l) (view_of (marked_state l)) mark_event
          (record { total = refl; numbered = λ i h. absurd (omega arith); reads = unfold reading_in in refl })
          mark-back
          (unfold fields_of read_in pick in (sym s.view)));
    }

-- a setup that is not refused
pub record First (l : Lists) (s j : List ℕ) : Type 0 where
  pub accepted : accepted_lists l ≡ true
  pub state : s ≡ marked_state l
  pub entry : entries (new_run s j) ≡ entry_of 1 mark_event ∷ []
  pub kept : Kept (setup_view l) (new_run s j)

pub at_first : (l : Lists) (r : Started) (j j' : List ℕ) → SetupPost l j r j' → r.refusal ≡ 0 → First l r.state j'
at_first l r j j' e z =
    let x = set-up l j (sym (ap (λ (x : SetUp). x.refusal) e) ∙ z) in
    let y = setup-accepts l (length j) x.0 in
    let whole = e ∙ x.1 in
    let state : r.state ≡ marked_state l = ap (λ (x : SetUp). x.state) whole in
    let journal : j' ≡ stored j 1 (entry_of 1 mark_event) = ap (λ (x : SetUp). x.journal) whole in
    record {
      accepted = y.1;
      state = state;
      entry = rw journal (mark-entries r.state j y.0);
      kept = rw (state, journal) (kept-start l j y.1 y.0);
    }

devices-first : (l : Lists) (s j : List ℕ) → First l s j → reading_devices (setup_devices l) (entries (new_run s j)) ≡ devices_shown s
unfolding reading_devices read_devices
devices-first l s j f = rw (f.entry, mark-back, f.state) (unfold fields_of pick in (sym (starts l f.accepted).devices))

orders-first : (l : Lists) (s j : List ℕ) → First l s j → reading_orders setup_orders (entries (new_run s j)) ≡ orders_shown s
unfolding reading_orders read_orders
orders-first l s j f = rw (f.entry, mark-back, f.state) (unfold fields_of pick ◌and◌ in (sym (starts l f.accepted).orders))

peers-first : (l : Lists) (s j : List ℕ) → First l s j → reading_peers setup_peers (entries (new_run s j)) ≡ peers_shown s
unfolding reading_peers read_peers
peers-first l s j f = rw (f.entry, mark-back, f.state) (unfold fields_of pick ◌or◌ in (sym (starts l f.accepted).peers))

-- up to each place of a list
pub kept-meeting : (b : View) (u : Run) (ds : List Done) → AllMeet u ds → Kept b u → Kept b (runs u ds)
kept-meeting b u ds m k =
    (on_list b (λ u. Unit {0}) (λ u k q. record { on_act = λ a out z. tt; on_drain = λ n h. tt; on_refusal = tt }) u ds m k tt).0

-- the entries read back the devices
abbrev DevicesRead : List Device → Run → Type 0
DevicesRead ds u = reading_devices ds (entries u) ≡ devices_shown u.state

devices-append : (ds : List Device) (es : List Entry) (e : Entry) → reading_devices ds (es ++ e ∷ []) ≡ read_devices (unpacked e.first) e.second (reading_devices ds es)
unfolding reading_devices
devices-append ds [] e = refl
devices-append ds (x ∷ es) e = devices-append (read_devices (unpacked x.first) x.second ds) es e

-- the counts are no part of them
devices-counted : (s : List ℕ) (last held : ℕ) → devices_keep s first_device_word (devices_of s) ≡ true → devices_shown (with_counts s last held) ≡ devices_shown s
devices-counted s last held e = shown-same s (with_counts s last held) (λ j lo hi. counts-frame s last held j (λ p q. omega arith)) e

devices-step : (b : View) (ds : List Device) (u : Run) → Kept b u → DevicesRead ds u → AfterCall (DevicesRead ds) u
devices-step b ds u k q = record {
  on_act = λ a out z. grows (effect_of u.state a) out (taken u.state u.journal out a k.size z);
  on_drain = λ n h. rw (entries-shifted b u n h k) (q ∙ sym (unfold shifted in (devices-counted u.state _ _ (sound-facts u.state k.sounds).devices)));
  on_refusal = q;
}
  where
    grows : (e : Effect) (out : List ℕ) → Taken u.state u.journal out e → reading_devices ds (entries (grown u e)) ≡ devices_shown (grown u e).state
    grows e out t =
        let old = t.given.facts.devices in
        let turn = t.good.above in
        rw (entries-grown b u e out k t, devices-append, q)
        (unfold entry_of in (ap (λ (x : Fields). read_devices x e.event.word (devices_shown u.state)) (fields_back (last_of u.state + 1) e.event t.good.entry.range)
        ∙ sym (unfold grown in (devices-counted e.state _ _ (turn-keeps u.state t.given.size old e turn)) ∙ turn-shown u.state t.given.size old e (last_of u.state + 1) turn)))

-- and the permissions and the order
abbrev OrdersRead : Run → Type 0
OrdersRead u = reading_orders setup_orders (entries u) ≡ orders_shown u.state

orders-append : (o : Orders) (es : List Entry) (e : Entry) → reading_orders o (es ++ e ∷ []) ≡ read_orders (unpacked e.first) e.second (reading_orders o es)
unfolding reading_orders
orders-append o [] e = refl
orders-append o (x ∷ es) e = orders-append (read_orders (unpacked x.first) x.second o) es e

orders-counted : (s : List ℕ) (last held : ℕ) → orders_shown (with_counts s last held) ≡ orders_shown s
orders-counted s last held = orders-shown-same s (with_counts s last held) (λ j lo hi. counts-frame s last held j (λ p q. omega arith))

orders-step : (b : View) (u : Run) → Kept b u → OrdersRead u → AfterCall OrdersRead u
orders-step b u k q = record {
  on_act = λ a out z. grows (effect_of u.state a) out (taken u.state u.journal out a k.size z);
  on_drain = λ n h. rw (entries-shifted b u n h k) (q ∙ sym (unfold shifted in (orders-counted u.state _ _)));
  on_refusal = q;
}
  where
    grows : (e : Effect) (out : List ℕ) → Taken u.state u.journal out e → reading_orders setup_orders (entries (grown u e)) ≡ orders_shown (grown u e).state
    grows e out t =
        rw (entries-grown b u e out k t, orders-append, q)
        (unfold entry_of in (ap (λ (x : Fields). read_orders x e.event.word (orders_shown u.state)) (fields_back (last_of u.state + 1) e.event t.good.entry.range)
        ∙ sym (unfold grown in (orders-counted e.state _ _) ∙ turn-ordered u.state t.given.size t.given.facts.devices e (last_of u.state + 1) t.good.above)))

-- and the peer's registrations
abbrev PeersRead : Run → Type 0
PeersRead u = reading_peers setup_peers (entries u) ≡ peers_shown u.state

peers-append : (ps : List Peer) (es : List Entry) (e : Entry) → reading_peers ps (es ++ e ∷ []) ≡ read_peers (unpacked e.first) e.second (reading_peers ps es)
unfolding reading_peers
peers-append ps [] e = refl
peers-append ps (x ∷ es) e = peers-append (read_peers (unpacked x.first) x.second ps) es e

peers-counted : (s : List ℕ) (last held : ℕ) → peers_shown (with_counts s last held) ≡ peers_shown s
peers-counted s last held = peers-shown-same s (with_counts s last held) (λ j lo hi. counts-frame s last held j (λ p q. omega arith))

peers-step : (b : View) (u : Run) → Kept b u → PeersRead u → AfterCall PeersRead u
peers-step b u k q = record {
  on_act = λ a out z. grows (effect_of u.state a) out (taken u.state u.journal out a k.size z);
  on_drain = λ n h. rw (entries-shifted b u n h k) (q ∙ sym (unfold shifted in (peers-counted u.state _ _)));
  on_refusal = q;
}
  where
    grows : (e : Effect) (out : List ℕ) → Taken u.state u.journal out e → reading_peers setup_peers (entries (grown u e)) ≡ peers_shown (grown u e).state
    grows e out t =
        rw (entries-grown b u e out k t, peers-append, q)
        (unfold entry_of in (ap (λ (x : Fields). read_peers x e.event.word (peers_shown u.state)) (fields_back (last_of u.state + 1) e.event t.good.entry.range)
        ∙ sym (unfold grown in (peers-counted e.state _ _) ∙ t.good.peers.reads (last_of u.state + 1))))

-- and the ids stay those that setup was given
abbrev IdsKept : Lists → Run → Type 0
IdsKept l u = ids_shown u.state ≡ setup_ids l

ids-counted : (s : List ℕ) (last held : ℕ) → ids_keep s first_id_word (ids_of s) ≡ true → ids_shown (with_counts s last held) ≡ ids_shown s
ids-counted s last held e = ids-shown-same s (with_counts s last held) (λ j lo hi. counts-frame s last held j (λ p q. omega arith)) e

ids_step : (b : View) (l : Lists) (u : Run) → Kept b u → IdsKept l u → AfterCall (IdsKept l) u
ids_step b l u k q = record {
  on_act = λ a out z. grows (effect_of u.state a) out (taken u.state u.journal out a k.size z);
  on_drain = λ n h. unfold shifted in (ids-counted u.state _ _ (sound-facts u.state k.sounds).ids) ∙ q;
  on_refusal = q;
}
  where
    grows : (e : Effect) (out : List ℕ) → Taken u.state u.journal out e → ids_shown (grown u e).state ≡ setup_ids l
    grows e out t =
        let old = t.given.facts.ids in
        let same = t.good.peers.ids in
        unfold grown in (ids-counted e.state _ _ (ids-same u.state e.state same old)) ∙ ids-shown-same u.state e.state same old ∙ q

-- at each place of a list: the registrations read back by the entries before it
peers-meeting : (l : Lists) (s j : List ℕ) (ds : List Done) → First l s j → AllMeet (new_run s j) ds → PeersRead (runs (new_run s j) ds)
peers-meeting l s j ds f m = (on_list (setup_view l) PeersRead (peers-step (setup_view l)) (new_run s j) ds m f.kept (peers-first l s j f)).1

pub demand3 : OfEveryList (λ l s j ds. Demand3 l s j ds (runs (new_run s j) ds))
demand3 l r j₀ j ds e z m =
    let begun = at_first l r j₀ j e z in
    let first = begun.kept in
    let k = kept-meeting (setup_view l) (new_run r.state j) ds m first in
    record {
      total = k.listed.total;
      numbered = k.listed.numbered;
      last = k.last;
      held = k.held;
      at_most = (sound-facts (runs (new_run r.state j) ds).state k.sounds).counts.helds;
      reads = k.listed.reads;
      reads_devices =
          (on_list (setup_view l) (DevicesRead (setup_devices l)) (devices-step (setup_view l) (setup_devices l)) (new_run r.state j) ds m first
          (devices-first l r.state j begun)
          ).1;
      reads_orders =
          (on_list (setup_view l) OrdersRead (orders-step (setup_view l)) (new_run r.state j) ds m first (orders-first l r.state j begun)).1;
      reads_peers = peers-meeting l r.state j ds begun m;
      keeps_ids =
          (on_list (setup_view l) (IdsKept l) (ids_step (setup_view l) l) (new_run r.state j) ds m first
          (rw begun.state (starts l begun.accepted).ids)
          ).1;
      delivers =
          λ before later c handle msg out o q d y.
          let m' = rw q at m in
          let b = kept-meeting (setup_view l) (new_run r.state j) before (meets-before (new_run r.state j) before _ m') first in
          let same = meets-outcome (meets-here (new_run r.state j) before _ later m') in
          rw (b.listed.reads, same)
          (delivers (runs (new_run r.state j) before).state (runs (new_run r.state j) before).journal c handle msg out b.size d
          (sym (ap (λ (x : Outcome). x.refusal) same) ∙ y));
      delivers_peer =
          λ before later c handle msg out o q d y.
          let m' = rw q at m in
          let n = meets-before (new_run r.state j) before _ m' in
          let b = kept-meeting (setup_view l) (new_run r.state j) before n first in
          let same = meets-outcome (meets-here (new_run r.state j) before _ later m') in
          rw (peers-meeting l r.state j before begun n, same)
          (delivers-peer (runs (new_run r.state j) before).state (runs (new_run r.state j) before).journal c handle msg out b.size d
          (sym (ap (λ (x : Outcome). x.refusal) same) ∙ y));
    }
