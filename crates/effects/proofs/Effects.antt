-- What is shown of every effect: its entry fits, reading the entry does to what is shown what the call did to the words, the reply fits the
-- output, the state stays sound, and the blocks and the removal take a turn that Turns.antt names.
-- Assumes nothing.
use Prim.Native.Nat.{ℕ, ◌+◌, ◌*◌, ◌/◌, ◌≤◌, ◌<◌}
use native.Mathlib.Omega.{arith}
use mathlib.Core.Path.{◌≡◌, refl, sym, ◌∙◌}
use mathlib.Core.Bool.{Bool, true, false}
use mathlib.Core.List.{List, []}
use lib.ListN.{length}
use lib.Dec.{eqb, leb, ltb}
use borrow.Author.Tests.{ltb-true, ltb-false, eqb-true, le-leb}
use Rattle.basics.specs.Choice.{pick, ◌or◌, cleared_from}
use Rattle.model.specs.declared.Event.{Event}
use Rattle.model.specs.Layout.{place_of, block_count_word, last_word, outstanding_word, channel_count, handle_at, highest_minor, highest_number, last_of, output_bytes, place_count, ready_at, service_count, stage_at, stage_idle, stage_offered, stage_registered, with_channel, with_service, first_numbered_word, held_of, held_word, first_handle_word, first_stage_word, service_words, with_number, device_count_word, most_ids, state_words}
use Rattle.model.specs.State.{service_sound, our_handle}
use Rattle.model.specs.Journal.{fields_of, closed_event, noted_event, offer_refused_event, offered_event, ready_event, registered_event, service_ended_event, version_refused_event, kind_noted}
use Rattle.model.specs.Messages.{Effect, effect, numbers_anew, acknowledged, closing, initiated, not_acknowledged, noting, offered_as, offered_for, offering, with_idle, with_registered, withdrawing, init_ack}
use Rattle.model.specs.Reading.{handle_in, read_in, settled_block, View, read, Peer, no_peer, peer_place, read_peers, stage_of, see_channel, see_service, view_of}
use Rattle.model.specs.Replay.{needed, is_idle, is_offered, is_offered_as, is_live}
use Rattle.basics.proofs.Choice.{on-pick, on-first, both}
use Rattle.model.proofs.View.{Shape, Moves, stays, then, turns, counted-view, service-moves, channel-moves}
use Rattle.model.proofs.Words.{Agree, service-frame, channel-frame, number-frame, number-above, number-length}
use Rattle.model.proofs.Above.{AboveTurn, leaves_above, turn-back}
use Rattle.model.proofs.Peers.{PeerTurn, leaves_channels, up-to-noted, leaves_as_read, peers-back, drops}
use Rattle.model.proofs.Rules.{Given, Base, Removes, Live, live-rules, live-last, service-idle, base-later, removes-later}
use Rattle.model.proofs.Sounds.{base_same, base-service, base-channel, removes-same, sound-same}
use Rattle.effects.proofs.Needs.{ready-needs, closed-needs, version-needs, offered-needs, registered-needs, refused-needs, ended-needs, noted-needs}
use Rattle.model.proofs.Shown.{Reaches, shows-open, shows-test, idle-here, offered-here, offered-as-here, live_here}
use Rattle.model.proofs.Turns.{Turn, leaves, aside, same_blocks, same-removal, turn-same}
use Rattle.effects.proofs.Events.{Fits, ready-fits, closed-fits, version-fits, offered-fits, registered-fits, refused-fits, ended-fits, noted-fits}
use Rattle.model.proofs.Replies.{short-empty, init_ack-short, init_nack-short, reg_req-short, unreg-short}

-- what reading an event does
abbrev pub read_by : List ℕ → Event → View → View
read_by s e = read (fields_of (last_of s + 1) e) e.word

-- what an event needs is shown
abbrev pub needed_by : List ℕ → Event → Type 0
needed_by s e = needed (fields_of (last_of s + 1) e) e.word (view_of s) ≡ true

pub record Good (s : List ℕ) (e : Effect) : Type 0 where
  pub entry : Fits (last_of s + 1) e.event
  pub moves : Moves s e.state (read_by s e.event)
  pub fits : length e.reply ≤ output_bytes
  pub base : Base e.state (last_of s + 1)
  pub removal : Removes e.state (last_of s + 1)
  pub turn : Turn s e
  -- what its entry needs is shown
  pub need : needed_by s e.event
  pub above : AboveTurn s e
  pub peers : PeerTurn s e

module _ (s : List ℕ) (g : Given s) where
  -- the state itself, for the next number
  pub shape : Shape s
  shape = record { size = g.size; few = g.facts.base.few }

  pub next-number : last_of s + 1 ≤ highest_number
  next-number = omega (arith, g.number)

  pub base-now : Base s (last_of s + 1)
  base-now = base-later (last_of s + 1) (omega arith) g.facts.base

  pub removes-now : Removes s (last_of s + 1)
  removes-now = removes-later s (last_of s) (last_of s + 1) (omega arith) g.facts.removal

  -- Nothing changed.
  pub unchanged : (e : Event) (reply : List ℕ) → Fits (last_of s + 1) e → ((v : View) → read_by s e v ≡ v) → length reply ≤ output_bytes → aside e.kind ≡ true → leaves_channels e.kind ≡ true → needed_by s e → Good s (effect e s reply)
  unchanged e reply f r short a d n = record {
    entry = f;
    moves = turns (read_by s e) (stays s) (sym (r (view_of s)));
    fits = short;
    base = base-now;
    removal = removes-now;
    turn = leaves (same_blocks s s g.facts.base.few (λ j lo hi. refl)) (same-removal s s (λ j lo hi. refl)) a;
    need = n;
    above = leaves_above (λ j lo hi. refl) (up-to-noted e.kind d);
    peers = leaves_as_read s (effect e s reply) g.facts.peers (λ j lo hi. refl) (λ j lo hi. refl) d;
  }

  -- Words from the devices on changed, and none below them.
  pub high-changed : (e : Event) (t reply : List ℕ) → length t ≡ length s → Agree s t 0 device_count_word → Fits (last_of s + 1) e → ((v : View) → read_by s e v ≡ v) → length reply ≤ output_bytes → aside e.kind ≡ true → needed_by s e → AboveTurn s (effect e t reply) → PeerTurn s (effect e t reply) → Good s (effect e t reply)
  high-changed e t reply size w f r short a n above peers = record {
    entry = f;
    moves = record {
      size = size;
      blocks = w block_count_word (omega arith) (omega arith);
      last = w last_word (omega arith) (omega arith);
      held = w held_word (omega arith) (omega arith);
      view =
          counted-view s t shape (record { size = size; under = λ j lo hi. w j lo (omega arith); over = λ j lo hi. w j (omega arith) (omega arith) })
          ∙ sym (r (view_of s));
    };
    fits = short;
    base = base_same s t (last_of s + 1) (λ j lo hi. w j lo (omega arith)) base-now;
    removal = removes-same s t (last_of s + 1) g.facts.base.few (λ j lo hi. w j (omega arith) (omega arith)) (λ j lo hi. w j (omega arith) (omega arith)) removes-now;
    turn =
        leaves
        (same_blocks s t g.facts.base.few (λ j lo hi. w j (omega arith) (omega arith)))
        (same-removal s t (λ j lo hi. w j (omega arith) (omega arith)))
        a;
    need = n;
    above = above;
    peers = peers;
  }

  -- One service changed: it is sound by itself, and where it is live no other live service has its handle.
  pub service-changed : (e : Event) (reply : List ℕ) (k stage handle minor : ℕ) → k < place_count → Fits (last_of s + 1) e → ((v : View) → read_by s e v ≡ see_service k (stage_of stage handle minor) v) → length reply ≤ output_bytes → service_sound stage handle minor (ready_at s (k / service_count)) (last_of s + 1) ≡ true → ((j : ℕ) → j < place_count → (j ≡ k → ⊥) → (stage_at s j ≡ stage_idle → ⊥) → (stage ≡ stage_idle → ⊥) → handle_at s j ≡ handle → ⊥) → aside e.kind ≡ true → leaves_channels e.kind ≡ true → needed_by s e → Good s (effect e (with_service s k stage handle minor) reply)
  service-changed e reply k stage handle minor b f r short ok fresh a d n =
      let w = service-frame s k stage handle minor in
      let low : Agree s (with_service s k stage handle minor) block_count_word last_word = λ j lo hi. w j (λ p q. omega arith) in
      let high : Agree s (with_service s k stage handle minor) outstanding_word first_numbered_word = λ j lo hi. w j (λ p q. omega arith) in
      record {
        entry = f;
        moves = turns (read_by s e) (service-moves s shape k stage handle minor b) (sym (r (view_of s)));
        fits = short;
        base = base-service s (last_of s + 1) k stage handle minor g.size base-now b ok fresh;
        removal =
            removes-same s (with_service s k stage handle minor) (last_of s + 1) g.facts.base.few low high removes-now;
        turn = leaves (same_blocks s (with_service s k stage handle minor) g.facts.base.few low) (same-removal s (with_service s k stage handle minor) high) a;
        need = n;
        above = leaves_above (λ j lo hi. w j (λ p q. omega arith)) (up-to-noted e.kind d);
        peers = leaves_as_read s (effect e (with_service s k stage handle minor) reply) g.facts.peers (λ j lo hi. w j (λ p q. omega arith)) (λ j lo hi. w j (λ p q. omega arith)) d;
      }

  -- A channel closed or made ready, its services idle.
  pub channel-changed : (e : Event) (reply : List ℕ) (c ready : ℕ) → c < channel_count → ready ≤ 1 → Fits (last_of s + 1) e → ((v : View) → read_by s e v ≡ see_channel c (eqb ready 1) v) → length reply ≤ output_bytes → aside e.kind ≡ true → leb e.kind kind_noted ≡ true → ((number : ℕ) (ps : List Peer) → read_peers (fields_of number e) e.word ps ≡ cleared_from no_peer ps (peer_place c 0) most_ids) → needed_by s e → Good s (effect e (with_channel s c ready) reply)
  channel-changed e reply c ready b small f r short a d x n =
      let w = channel-frame s c ready in
      let low : Agree s (with_channel s c ready) block_count_word last_word = λ j lo hi. w j (λ q. omega arith) (λ p q. omega arith) (omega arith) in
      let high : Agree s (with_channel s c ready) outstanding_word first_numbered_word = λ j lo hi. w j (λ q. omega arith) (λ p q. omega arith) (omega arith) in
      record {
        entry = f;
        moves = turns (read_by s e) (channel-moves s shape c ready b) (sym (r (view_of s)));
        fits = short;
        base = base-channel s (last_of s + 1) c ready g.size base-now b small;
        removal =
            removes-same s (with_channel s c ready) (last_of s + 1) g.facts.base.few low high removes-now;
        turn = leaves (same_blocks s (with_channel s c ready) g.facts.base.few low) (same-removal s (with_channel s c ready) high) a;
        need = n;
        above = leaves_above (λ j lo hi. w j (λ q. omega arith) (λ p q. omega arith) (omega arith)) d;
        peers = drops s g.size c ready b e reply g.facts.peers x;
      }

  -- a service becomes idle
  idled : (e : Event) (reply : List ℕ) (c v : ℕ) → c < channel_count → v < service_count → Fits (last_of s + 1) e → ((x : View) → read_by s e x ≡ see_service (place_of c v) (stage_of stage_idle 0 0) x) → length reply ≤ output_bytes → aside e.kind ≡ true → leaves_channels e.kind ≡ true → needed_by s e → Good s (effect e (with_idle s c v) reply)
  idled e reply c v h l f r short a d n =
      service-changed e reply (place_of c v) stage_idle 0 0 (omega arith) f r short
      (service-idle stage_idle 0 0 _ (last_of s + 1) refl)
      (λ j b n p q z. q refl)
      a
      d
      n

  -- DS messages and host calls.
  pub closing-good : (c by : ℕ) → c < channel_count → Good s (closing s c by)
  unfolding closing read_in handle_in settled_block pick fields_of aside ◌or◌
  closing-good c by h =
      channel-changed (closed_event c by) [] c 0 h (omega arith) (closed-fits _ c next-number h by) (λ v. refl) short-empty refl refl (λ number ps. unfold read_peers in refl) (closed-needs _ _ c by)

  pub initiated-good : (c major : ℕ) → c < channel_count → major ≤ highest_minor → Good s (initiated s c major)
  unfolding initiated
  initiated-good c major h m =
      on-pick (Good s) _ _ _
      (λ e.
      unfold read_in handle_in settled_block pick fields_of aside ◌or◌ in
      (channel-changed (ready_event c) (init_ack 0) c 1 h (omega arith) (ready-fits _ c next-number h) (λ v. refl) (init_ack-short 0) refl refl (λ number ps. unfold read_peers in refl) (ready-needs _ _ c)))
      (λ e.
      channel-changed (version_refused_event c major) _ c 0 h (omega arith) (version-fits _ c next-number h major m)
      (λ v. unfold read_in handle_in settled_block pick fields_of in refl)
      (init_nack-short _)
      (unfold aside ◌or◌ in refl)
      refl
      (λ number ps. unfold read_peers pick ◌or◌ fields_of in refl)
      (version-needs _ _ c major))

  pub noting-good : (c type : ℕ) (reply : List ℕ) → c < channel_count → ready_at s c ≡ 1 → length reply ≤ output_bytes → Good s (noting s c type reply)
  unfolding noting read_in handle_in settled_block pick fields_of aside ◌or◌
  noting-good c type reply h ready f =
      unchanged (noted_event c type) reply (noted-fits _ c next-number h type) (λ v. refl) f refl refl (noted-needs _ _ c type (shows-open s c h ready))

  -- 5: the handle is that of the offer
  pub registered-good : (c v minor handle : ℕ) → c < channel_count → ready_at s c ≡ 1 → v < service_count → minor ≤ highest_minor → stage_at s (place_of c v) ≡ stage_offered → handle_at s (place_of c v) ≡ handle → Good s (effect (registered_event c v minor handle) (with_registered s c v handle minor) [])
  unfolding read_in handle_in settled_block pick fields_of stage_of
  registered-good c v minor handle h ready l m st q =
      let k : place_of c v < place_count = omega arith in
      let u : Live (stage_at s (place_of c v)) (handle_at s (place_of c v)) (ready_at s (place_of c v / service_count)) (last_of s + 1) =
      live-rules _ _ _ _ _ (λ x. omega arith) (base-now.services (place_of c v) k) in
      service-changed (registered_event c v minor handle) [] (place_of c v) stage_registered handle minor k
      (registered-fits _ c next-number h v minor handle l m)
      (λ x. refl)
      short-empty
      (live-last stage_registered handle minor _ (last_of s + 1) (λ x. omega arith)
      (record { stages = omega arith; is_ready = u.is_ready; ours = rw q at u.ours })
      ∙ (unfold ◌or◌ in (le-leb minor highest_minor m)))
      (λ j b n p z e. own j b n p (e ∙ sym q))
      (unfold aside ◌or◌ in refl)
      refl
      (registered-needs _ _ c v minor handle (shows-open s c h ready) (shows-test s c h v l (is_offered_as handle) (offered-as-here s (place_of c v) handle st q)))
    where
      own : (j : ℕ) → j < place_count → (j ≡ place_of c v → ⊥) → (stage_at s j ≡ stage_idle → ⊥) → handle_at s j ≡ handle_at s (place_of c v) → ⊥
      own j b n live p = go (ltb j (place_of c v)) refl
        where
          go : (x : Bool) → ltb j (place_of c v) ≡ x → ⊥
          go true z = g.facts.base.apart j (place_of c v) (ltb-true j (place_of c v) z) (omega arith) live (λ x. omega arith) p
          go false z = g.facts.base.apart (place_of c v) j (omega (arith, ltb-false j (place_of c v) z)) b (λ x. omega arith) live (sym p)

  pub not-acknowledged-good : (c handle : ℕ) → c < channel_count → ready_at s c ≡ 1 → Good s (not_acknowledged s c (offered_for s c handle))
  not-acknowledged-good c handle h ready =
      on-first (λ x. Good s (not_acknowledged s c x)) service_count (offered_as s c handle)
      (λ v r.
      unfold not_acknowledged read_in handle_in settled_block pick fields_of stage_of aside ◌or◌ in
      (idled (offer_refused_event c v) [] c v h r.below (refused-fits _ c next-number h v r.below) (λ x. refl) short-empty refl refl
      (refused-needs _ _ c v (shows-open s c h ready)
      (shows-test s c h v r.below is_offered (offered-here s (place_of c v) (eqb-true _ stage_offered (both _ _ r.passes).0))))))
      (λ _. unfold not_acknowledged in (noting-good c _ [] h ready short-empty))

  -- 7, of UNREG and of withdraw
  pub ended-good : (c v : ℕ) (reply : List ℕ) → c < channel_count → ready_at s c ≡ 1 → v < service_count → (stage_at s (place_of c v) ≡ stage_idle → ⊥) → length reply ≤ output_bytes → Good s (effect (service_ended_event c v) (with_idle s c v) reply)
  unfolding read_in handle_in settled_block pick fields_of stage_of aside ◌or◌
  ended-good c v reply h ready l live f =
      idled (service_ended_event c v) reply c v h l (ended-fits _ c next-number h v l) (λ x. refl) f refl refl
      (ended-needs _ _ c v (shows-open s c h ready) (shows-test s c h v l is_live (live_here s (place_of c v) live)))

  -- 4: the handle is above every other
  pub offering-good : (c v : ℕ) → c < channel_count → v < service_count → ready_at s c ≡ 1 → stage_at s (place_of c v) ≡ stage_idle → Good s (offering s c v)
  unfolding offering read_in handle_in settled_block pick fields_of stage_of
  offering-good c v h l ready st =
      let k : place_of c v < place_count = omega arith in
      let four : place_of c v / service_count ≡ c = omega arith in
      service-changed (offered_event c v) _ (place_of c v) stage_offered (our_handle (last_of s + 1)) 0 k
      (offered-fits _ c next-number h v l)
      (λ x. refl)
      (reg_req-short (our_handle (last_of s + 1)) v)
      (live-last stage_offered (our_handle (last_of s + 1)) 0 _ (last_of s + 1) (λ e. omega arith)
      (record { stages = omega arith; is_ready = rw four ready; ours = record { least = omega arith; most = omega arith } })
      ∙ (unfold ◌or◌ in refl))
      (λ j b n live z q.
      let u = live-rules _ _ _ _ _ live (g.facts.base.services j b) in
      omega (arith, u.ours.most))
      (unfold aside ◌or◌ in refl)
      refl
      (offered-needs _ _ c v (shows-open s c h ready) (shows-test s c h v l is_idle (idle-here s (place_of c v) st)))

  pub withdrawing-good : (c v : ℕ) → c < channel_count → v < service_count → (stage_at s (place_of c v) ≡ stage_idle → ⊥) → Good s (withdrawing s c v)
  unfolding withdrawing
  withdrawing-good c v h l live =
      let k : place_of c v < place_count = omega arith in
      let four : place_of c v / service_count ≡ c = omega arith in
      let u = rw four at (live-rules _ _ _ _ _ live (g.facts.base.services (place_of c v) k)) in
      ended-good c v _ h u.is_ready l live (unreg-short _)

-- Only words of request numbers differ.
pub record OnlyNumbers (s t : List ℕ) : Type 0 where
  pub size : length t ≡ length s
  pub below : Agree s t 0 first_numbered_word
  pub above : Agree s t device_count_word state_words

pub number-only : (s : List ℕ) (c numbered highest : ℕ) → c < channel_count → OnlyNumbers s (with_number s c numbered highest)
number-only s c numbered highest h = record { size = number-length s c numbered highest; below = number-frame s c numbered highest; above = number-above s c numbered highest h }

pub anew-only : (s : List ℕ) (c v : ℕ) → c < channel_count → OnlyNumbers s (numbers_anew s c v)
unfolding numbers_anew
anew-only s c v h =
    on-pick (OnlyNumbers s) _ _ _ (λ _. number-only s c 0 0 h) (λ _. record { size = refl; below = λ j lo hi. refl; above = λ j lo hi. refl })

module _ (s t : List ℕ) (n : OnlyNumbers s t) (g : Given s) where
  last-numbers : last_of t ≡ last_of s
  last-numbers = n.below last_word (omega arith) (omega arith)

  held-numbers : held_of t ≡ held_of s
  held-numbers = n.below held_word (omega arith) (omega arith)

  pub given-numbers : Given t
  given-numbers = record {
    size = n.size ∙ g.size;
    facts = sound-same s t n.below n.above g.facts;
    number = rw last-numbers g.number;
  }

  numbers-moves : Moves s t (λ v. v)
  numbers-moves = record {
    size = n.size;
    blocks = n.below block_count_word (omega arith) (omega arith);
    last = last-numbers;
    held = held-numbers;
    view =
        counted-view s t (shape s g)
        (record { size = n.size; under = λ j lo hi. n.below j lo (omega arith); over = λ j lo hi. n.below j (omega arith) hi });
  }

  -- what is good of the one is good of the other
  pub good-numbers : (e : Effect) → Good t e → Good s e
  good-numbers e x = record {
    entry = rw last-numbers at x.entry;
    moves = rw last-numbers at (then numbers-moves x.moves);
    fits = x.fits;
    base = rw last-numbers at x.base;
    removal = rw last-numbers at x.removal;
    turn =
        turn-same s t e
        (same_blocks s t g.facts.base.few (λ j lo hi. n.below j (omega arith) (omega arith)))
        (same-removal s t (λ j lo hi. n.below j (omega arith) hi))
        x.turn;
    need = rw (numbers-moves.view, last-numbers) at x.need;
    above = turn-back s g.size g.facts.devices t e (n.size ∙ g.size) (λ j lo hi. n.above j lo (omega arith)) x.above;
    peers = peers-back s t e (λ j lo hi. n.above j (omega arith) hi) x.peers;
  }

  pub reaches-numbers : (c : ℕ) → Reaches s c → Reaches t c
  reaches-numbers c r = record {
    below = r.below;
    ready = rw numbers-moves.view r.ready;
    shown = rw numbers-moves.view r.shown;
  }

-- 5, whose request numbers begin anew
pub acknowledged-good : (s : List ℕ) → Given s → (c handle minor : ℕ) → c < channel_count → ready_at s c ≡ 1 → minor ≤ highest_minor → Good s (acknowledged s c handle minor (offered_for s c handle))
acknowledged-good s g c handle minor h ready m =
    on-first (λ x. Good s (acknowledged s c handle minor x)) service_count (offered_as s c handle)
    (λ v r.
    let o = both _ _ r.passes in
    let n = anew-only s c v h in
    unfold acknowledged in
    (good-numbers s (numbers_anew s c v) n g _
    (registered-good (numbers_anew s c v) (given-numbers s (numbers_anew s c v) n g) c v _ handle h (n.below c (omega arith) (omega arith) ∙ ready) r.below (omega arith)
    (n.below (first_stage_word + place_of c v * service_words) (omega arith) (omega (arith, r.below)) ∙ eqb-true _ stage_offered o.0)
    (n.below (first_handle_word + place_of c v * service_words) (omega arith) (omega (arith, r.below)) ∙ eqb-true _ handle o.1))))
    (λ _. unfold acknowledged in (noting-good s g c _ [] h ready short-empty))
