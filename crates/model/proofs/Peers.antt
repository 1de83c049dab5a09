-- Ids and peer registrations in words: what stays of them, and of what is shown, where their words stay.
-- Assumes nothing.
use Prim.Native.Nat.{ℕ, zero, suc, ◌+◌, ◌-◌, ◌*◌, ◌/◌, ◌%◌, ◌<◌, ◌≤◌}
use native.Mathlib.Omega.{arith}
use mathlib.Core.Path.{◌≡◌, refl, sym, ap, ◌∙◌}
use mathlib.Core.Bool.{Bool, true, false, not, ◌&&◌}
use mathlib.Core.List.{List, []}
use lib.ListN.{length, get_or}
use lib.Dec.{eqb, leb, ltb}
use borrow.Author.Tests.{leb-true, le-leb, ltb-true, ne_eqb, eqb-true, eqb-false}
use Rattle.basics.specs.Choice.{pick, ◌or◌, cleared_from, tabulate}
use Rattle.model.specs.declared.Event.{Event}
use Rattle.model.specs.Layout.{PeerId, id_in, id_at, id_bytes_in, id_byte_in, ids_of, word_bytes, id_place, id_bytes_place, id_minor_place, id_words, most_ids, most_id_bytes, highest_minor, channel_count, mark_words, peer_words, id_count_word, first_id_word, first_peer_word, state_words, ready_at, peered_at, peer_handle_at, peer_minor_at, with_channel}
use Rattle.model.specs.Devices.{words_holding, padding_bytes, same_name}
use Rattle.model.specs.Peers.{id_bytes_keep, id_keeps, id_apart, ids_keep, peers_below, peer_sound, peer_apart, peers_sound}
use Rattle.model.specs.Journal.{kind_noted, kind_ready, kind_closed, kind_version_refused, kind_peer_registered, kind_peer_ended, fields_of}
use Rattle.model.specs.Messages.{Effect, effect}
use Rattle.model.specs.Reading.{Peer, no_peer, peer_place, peers_shown, read_peers, ids_shown}
use Rattle.basics.proofs.Choice.{both, join, every-at, every-make, every-same, tabulate-same, tabulate-cleared}
use Rattle.model.proofs.Words.{Agree, channel-frame, channel-peers, channel-unpeered}

-- The words that say id p are the same in both lists.
abbrev pub SameIdWords : List ℕ → List ℕ → ℕ → ℕ → ℕ → Type 0
SameIdWords l t at to p = (j : ℕ) → j < id_place + words_holding (id_bytes_in l at p) → get_or t (to + p * id_words + j) 0 ≡ get_or l (at + p * id_words + j) 0

module _ (l t : List ℕ) (at to p : ℕ) (a : SameIdWords l t at to p) where
  word_same : (j k m : ℕ) → j ≡ to + p * id_words + m → k ≡ at + p * id_words + m → m < id_place + words_holding (id_bytes_in l at p) → get_or t j 0 ≡ get_or l k 0
  word_same j k m e f h = ap (λ (x : ℕ). get_or t x 0) e ∙ a m h ∙ sym (ap (λ (x : ℕ). get_or l x 0) f)

  bytes_same : id_bytes_in t to p ≡ id_bytes_in l at p
  bytes_same = a id_bytes_place (omega arith)

  byte-same : (k : ℕ) → k < words_holding (id_bytes_in l at p) * word_bytes → id_byte_in t to p k ≡ id_byte_in l at p k
  unfolding id_byte_in
  byte-same k h = rw (word_same (to + p * id_words + id_place + k / word_bytes) (at + p * id_words + id_place + k / word_bytes) (id_place + k / word_bytes) (omega arith) (omega arith) (omega arith))

  pub id_same : id_in t to p ≡ id_in l at p
  unfolding id_in
  id_same =
      rw (
        word_same (to + p * id_words) (at + p * id_words) 0 (omega arith) (omega arith) (omega arith),
        a id_minor_place (omega arith),
        bytes_same,
        tabulate-same (id_byte_in l at p) (id_byte_in t to p) (id_bytes_in l at p) 0 (λ k h. byte-same k (omega arith)),
      )

  bytes-keep : id_bytes_keep l at p ≡ true → id_bytes_keep t to p ≡ true
  unfolding id_bytes_keep
  bytes-keep e =
      let some = leb-true 1 (id_bytes_in l at p) (both _ _ e).0 in
      rw (
        bytes_same,
        byte-same (id_bytes_in l at p - 1) (omega arith),
        every-same (λ k. not (eqb (id_byte_in l at p k) 0)) (λ k. not (eqb (id_byte_in t to p k) 0)) (id_bytes_in l at p - 1) (λ k h. rw (byte-same k (omega arith))),
        every-same (λ k. eqb (id_byte_in l at p (id_bytes_in l at p + k)) 0) (λ k. eqb (id_byte_in t to p (id_bytes_in l at p + k)) 0) (padding_bytes (id_bytes_in l at p)) (λ k h. rw (byte-same (id_bytes_in l at p + k) (omega arith))),
      )
      e

  pub id-keeps : id_keeps l at p ≡ true → id_keeps t to p ≡ true
  unfolding id_keeps
  id-keeps e =
      let q = both _ _ e in
      let r = both _ _ q.1 in
      join _ _ (rw id_same q.0) (join _ _ (rw id_same r.0) (bytes-keep r.1))

-- A list of ids, as facts.
pub record IdFacts (l : List ℕ) (at n : ℕ) : Type 0 where
  pub few : n ≤ most_ids
  pub keeps : (p : ℕ) → p < n → id_keeps l at p ≡ true
  pub apart : (p : ℕ) → p < n → id_apart l at p ≡ true

pub id-facts : (l : List ℕ) (at n : ℕ) → ids_keep l at n ≡ true → IdFacts l at n
unfolding ids_keep
id-facts l at n e =
    let q = both _ _ e in
    let r = both _ _ q.1 in
    record { few = leb-true n most_ids q.0; keeps = λ p h. every-at (id_keeps l at) n p r.0 h; apart = λ p h. every-at (id_apart l at) n p r.1 h }

pub id-test : (l : List ℕ) (at n : ℕ) → IdFacts l at n → ids_keep l at n ≡ true
unfolding ids_keep
id-test l at n f = join _ _ (le-leb n most_ids f.few) (join _ _ (every-make (id_keeps l at) n f.keeps) (every-make (id_apart l at) n f.apart))

pub id-few : (l : List ℕ) (at p : ℕ) → id_keeps l at p ≡ true → id_bytes_in l at p ≤ most_id_bytes
unfolding id_keeps id_bytes_keep
id-few l at p e = leb-true _ most_id_bytes (both _ _ (both _ _ (both _ _ (both _ _ e).1).1).1).0

pub id-minor : (l : List ℕ) (at p : ℕ) → id_keeps l at p ≡ true → (id_in l at p).minor ≤ highest_minor
unfolding id_keeps
id-minor l at p e = leb-true _ highest_minor (both _ _ (both _ _ e).1).0

pub ids-keep : (l t : List ℕ) (at to n : ℕ) → ((p : ℕ) → p < n → SameIdWords l t at to p) → ids_keep l at n ≡ true → ids_keep t to n ≡ true
ids-keep l t at to n a e =
    let f = id-facts l at n e in
    id-test t to n
    (record {
      few = f.few;
      keeps = λ p h. id-keeps l t at to p (a p h) (f.keeps p h);
      apart = λ p h. apart p h (f.apart p h);
    })
  where
    apart : (p : ℕ) → p < n → id_apart l at p ≡ true → id_apart t to p ≡ true
    apart p h old =
        unfold id_apart in
        (rw (id_same l t at to p (a p h))
        (every-make (λ q. not (same_name (id_in t to q).bytes (id_in l at p).bytes)) p
        (λ q g.
        rw (id_same l t at to q (a q (omega arith)))
        (every-at (λ q. not (same_name (id_in l at q).bytes (id_in l at p).bytes)) p q (unfold id_apart in old) g))))

-- Of two states: the ids, and the registrations.
same-id-words : (s t : List ℕ) → Agree s t id_count_word first_peer_word → ids_keep s first_id_word (ids_of s) ≡ true → (p : ℕ) → p < ids_of s → SameIdWords s t first_id_word first_id_word p
same-id-words s t a e p h j g =
    let f = id-facts s first_id_word (ids_of s) e in
    let few = f.few in
    let short = id-few s first_id_word p (f.keeps p h) in
    a (first_id_word + p * id_words + j) (omega arith) (omega arith)

abbrev no_id : PeerId
no_id = record { major = 0; minor = 0; bytes = [] }

pub ids-listed : (l t : List ℕ) (at to n : ℕ) → ((p : ℕ) → p < n → SameIdWords l t at to p) → tabulate (id_in t to) n ≡ tabulate (id_in l at) n
ids-listed l t at to n a = tabulate-same (id_in l at) (id_in t to) n no_id (λ p h. id_same l t at to p (a p h))

pub ids-shown-same : (s t : List ℕ) → Agree s t id_count_word first_peer_word → ids_keep s first_id_word (ids_of s) ≡ true → ids_shown t ≡ ids_shown s
unfolding ids_shown
ids-shown-same s t a e =
    rw (a id_count_word (omega arith) (omega arith)) (ids-listed s t first_id_word first_id_word (ids_of s) (same-id-words s t a e))

pub ids-same : (s t : List ℕ) → Agree s t id_count_word first_peer_word → ids_keep s first_id_word (ids_of s) ≡ true → ids_keep t first_id_word (ids_of t) ≡ true
ids-same s t a e =
    rw (a id_count_word (omega arith) (omega arith)) (ids-keep s t first_id_word first_id_word (ids_of s) (same-id-words s t a e) e)

-- the words of a channel's registrations
abbrev pub OwnPeers : List ℕ → List ℕ → ℕ → Type 0
OwnPeers s t c = Agree s t (first_peer_word + c * peer_words) (first_peer_word + c * peer_words + peer_words)

own-peers : (s t : List ℕ) → Agree s t id_count_word state_words → (c : ℕ) → c < channel_count → OwnPeers s t c
own-peers s t a c h j lo hi = a j (omega arith) (omega arith)

below-peers : (s t : List ℕ) → Agree s t id_count_word state_words → Agree s t id_count_word first_peer_word
below-peers s t a j lo hi = a j lo (omega arith)

module _ (s t : List ℕ) (i : Agree s t id_count_word first_peer_word) (c : ℕ) (h : c < channel_count) (a : OwnPeers s t c) where
  pub mark-same : (p : ℕ) → p < most_ids → peered_at t c p ≡ peered_at s c p
  mark-same p l = rw (a (first_peer_word + c * peer_words) (omega arith) (omega arith))

  pub handle-same : (p : ℕ) → p < most_ids → peer_handle_at t c p ≡ peer_handle_at s c p
  handle-same p l = a (first_peer_word + c * peer_words + mark_words + p) (omega arith) (omega arith)

  pub minor-same : (p : ℕ) → p < most_ids → peer_minor_at t c p ≡ peer_minor_at s c p
  minor-same p l = a (first_peer_word + c * peer_words + mark_words + most_ids + p) (omega arith) (omega arith)

  pub most-same : (p : ℕ) → p < most_ids → (id_at t p).minor ≡ (id_at s p).minor
  unfolding id_in
  most-same p l = i (first_id_word + p * id_words + id_minor_place) (omega arith) (omega arith)

  below-same : (n : ℕ) → n ≤ most_ids → peers_below t c n ≡ peers_below s c n
  unfolding peers_below
  below-same zero l = refl
  below-same (suc n) l = rw (below-same n (omega arith), mark-same n (omega arith))

  pub peers-same : (ready : ℕ) → peers_sound t ready c ≡ peers_sound s ready c
  unfolding peers_sound
  peers-same ready =
      rw (
        every-same (peer_sound s ready c) (peer_sound t ready c) most_ids one,
        every-same (peer_apart s c) (peer_apart t c) most_ids apart,
        below-same most_ids (omega arith),
      )
    where
      one : (p : ℕ) → p < most_ids → peer_sound t ready c p ≡ peer_sound s ready c p
      one p l = unfold peer_sound in rw (mark-same p l, handle-same p l, minor-same p l, most-same p l, i id_count_word (omega arith) (omega arith))

      apart : (p : ℕ) → p < most_ids → peer_apart t c p ≡ peer_apart s c p
      apart p l =
          unfold peer_apart in
          (rw (
            mark-same p l,
            every-same
                (λ q. eqb (peered_at s c q) 0 or not (eqb (peer_handle_at s c q) (peer_handle_at s c p)))
                (λ q. eqb (peered_at t c q) 0 or not (eqb (peer_handle_at t c q) (peer_handle_at t c p))) p
                (λ q g. rw (mark-same q (omega arith), handle-same q (omega arith), handle-same p l)),
          ))

pub peers-shown-same : (s t : List ℕ) → Agree s t id_count_word state_words → peers_shown t ≡ peers_shown s
unfolding peers_shown
peers-shown-same s t a =
    tabulate-same _ _ (channel_count * most_ids) no_peer
    (λ k h.
    rw (
      mark-same s t (below-peers s t a) (k / most_ids) (omega arith) (own-peers s t a (k / most_ids) (omega arith)) (k % most_ids) (omega arith),
      handle-same s t (below-peers s t a) (k / most_ids) (omega arith) (own-peers s t a (k / most_ids) (omega arith)) (k % most_ids) (omega arith),
      minor-same s t (below-peers s t a) (k / most_ids) (omega arith) (own-peers s t a (k / most_ids) (omega arith)) (k % most_ids) (omega arith),
    ))

-- an event of kinds 4 to 21 changes no registration
pub no-peer : (number : ℕ) (e : Event) (ps : List Peer) → kind_version_refused < e.kind → e.kind < kind_peer_registered → read_peers (fields_of number e) e.word ps ≡ ps
unfolding read_peers fields_of ◌or◌ pick
no-peer number e ps lo hi =
    rw (
      ne_eqb e.kind kind_ready (λ q. omega arith),
      ne_eqb e.kind kind_closed (λ q. omega arith),
      ne_eqb e.kind kind_version_refused (λ q. omega arith),
      ne_eqb e.kind kind_peer_registered (λ q. omega arith),
      ne_eqb e.kind kind_peer_ended (λ q. omega arith),
    )

-- What an effect of a state s does to ids and registrations.
pub record PeerTurn (s : List ℕ) (e : Effect) : Type 0 where
  pub ids : Agree s e.state id_count_word first_peer_word
  pub sounds : (c : ℕ) → c < channel_count → peers_sound e.state (ready_at e.state c) c ≡ true
  pub reads : (number : ℕ) → peers_shown e.state ≡ read_peers (fields_of number e.event) e.event.word (peers_shown s)

-- nothing, as effects of kinds 4 to 21 do
pub leaves_peers : (s : List ℕ) (e : Effect) → ((c : ℕ) → c < channel_count → peers_sound s (ready_at s c) c ≡ true) → Agree s e.state 0 channel_count → Agree s e.state id_count_word state_words → kind_version_refused < e.event.kind → e.event.kind < kind_peer_registered → PeerTurn s e
leaves_peers s e old r a lo hi = record {
  ids = λ j l h. a j l (omega arith);
  sounds = λ c h. rw (r c (omega arith) h) (peers-same s e.state (below-peers s e.state a) c h (own-peers s e.state a c h) (ready_at s c) ∙ old c h);
  reads = λ number. peers-shown-same s e.state a ∙ sym (no-peer number e.event (peers_shown s) lo hi);
}

-- a kind of 01 that leaves each channel as it is: 4 to 17
abbrev pub leaves_channels : ℕ → Bool
leaves_channels kind = ltb kind_version_refused kind && leb kind kind_noted

two : (a b : Bool) → (a && b) ≡ true → (a ≡ true) × (b ≡ true)
two true b q = (refl, q)
two false true q = (q, refl)
two false false q = (q, q)

pub up-to-noted : (kind : ℕ) → leaves_channels kind ≡ true → leb kind kind_noted ≡ true
up-to-noted kind q = (two (ltb kind_version_refused kind) (leb kind kind_noted) q).1

pub leaves_as_read : (s : List ℕ) (e : Effect) → ((c : ℕ) → c < channel_count → peers_sound s (ready_at s c) c ≡ true) → Agree s e.state 0 channel_count → Agree s e.state id_count_word state_words → leaves_channels e.event.kind ≡ true → PeerTurn s e
leaves_as_read s e old r a q =
    let t = two (ltb kind_version_refused e.event.kind) (leb e.event.kind kind_noted) q in
    let hi = leb-true e.event.kind kind_noted t.1 in
    leaves_peers s e old r a (ltb-true kind_version_refused e.event.kind t.0) (omega arith)

-- the turn of an effect of another state with the same words there
pub peers-back : (s t : List ℕ) (e : Effect) → Agree s t id_count_word state_words → PeerTurn t e → PeerTurn s e
peers-back s t e a x = record {
  ids = λ j lo hi. x.ids j lo hi ∙ a j lo (omega arith);
  sounds = x.sounds;
  reads = λ number. x.reads number ∙ ap (λ (ps : List Peer). read_peers (fields_of number e.event) e.event.word ps) (peers-shown-same s t a);
}

-- a channel without marks
none_below : (s : List ℕ) (c n : ℕ) → ((p : ℕ) → p < n → peered_at s c p ≡ 0) → peers_below s c n ≡ 0
unfolding peers_below
none_below s c zero z = refl
none_below s c (suc n) z = rw (none_below s c n (λ p l. z p (omega arith)), z n (omega arith))

pub unmarked-sound : (s : List ℕ) (ready c : ℕ) → ((p : ℕ) → p < most_ids → peered_at s c p ≡ 0) → peers_sound s ready c ≡ true
unfolding peers_sound
unmarked-sound s ready c z =
    join _ _ (every-make (peer_sound s ready c) most_ids (λ p l. unfold peer_sound ◌or◌ in (rw (z p l))))
    (join _ _ (every-make (peer_apart s c) most_ids (λ p l. unfold peer_apart ◌or◌ in (rw (z p l))))
    (rw (none_below s c most_ids z)))

-- "INIT_REQ and closing drop them"
module _ (s : List ℕ) (size : length s ≡ state_words) (c ready : ℕ) (h : c < channel_count) where
  ids-frame : Agree s (with_channel s c ready) id_count_word first_peer_word
  ids-frame j lo hi = channel-frame s c ready j (λ q. omega arith) (λ p q. omega arith) hi

  others-frame : (k : ℕ) → k < channel_count → (k ≡ c → ⊥) → OwnPeers s (with_channel s c ready) k
  others-frame k l n j lo hi = channel-peers s c ready j h (omega arith) (λ q. n (omega arith))

  dropped-shown : peers_shown (with_channel s c ready) ≡ cleared_from no_peer (peers_shown s) (peer_place c 0) most_ids
  unfolding peers_shown pick
  dropped-shown =
      tabulate-cleared _ (channel_count * most_ids) no_peer (peer_place c 0) most_ids _
      (λ k l lo hi.
      let q : k / most_ids ≡ c = omega arith in
      rw (q, channel-unpeered s c ready size h (k % most_ids) (omega arith)))
      (λ k l out.
      let n : k / most_ids ≡ c → ⊥ = λ q. out (omega arith) (omega arith) in
      let own = others-frame (k / most_ids) (omega arith) n in
      rw (
        mark-same s (with_channel s c ready) ids-frame (k / most_ids) (omega arith) own (k % most_ids) (omega arith),
        handle-same s (with_channel s c ready) ids-frame (k / most_ids) (omega arith) own (k % most_ids) (omega arith),
        minor-same s (with_channel s c ready) ids-frame (k / most_ids) (omega arith) own (k % most_ids) (omega arith),
      ))

  pub drops : (e : Event) (reply : List ℕ) → ((k : ℕ) → k < channel_count → peers_sound s (ready_at s k) k ≡ true) → ((number : ℕ) (ps : List Peer) → read_peers (fields_of number e) e.word ps ≡ cleared_from no_peer ps (peer_place c 0) most_ids) → PeerTurn s (effect e (with_channel s c ready) reply)
  drops e reply old r = record {
    ids = ids-frame;
    sounds = λ k l. go k l (eqb k c) refl;
    reads = λ number. dropped-shown ∙ sym (r number (peers_shown s));
  }
    where
      go : (k : ℕ) → k < channel_count → (x : Bool) → eqb k c ≡ x → peers_sound (with_channel s c ready) (ready_at (with_channel s c ready) k) k ≡ true
      go k l true x =
          let q = eqb-true k c x in
          rw q (unmarked-sound (with_channel s c ready) _ c (channel-unpeered s c ready size h))
      go k l false x =
          let n = eqb-false k c x in
          rw (channel-frame s c ready k n (λ p q. omega arith) (omega arith))
          (peers-same s (with_channel s c ready) ids-frame k l (others-frame k l n) (ready_at s k) ∙ old k l)
