-- A peer registration made, and one ended: what they do to a channel's registrations and to what is shown of them.
-- Assumes nothing.
use Prim.Native.Nat.{ℕ, zero, suc, ◌+◌, ◌*◌, ◌/◌, ◌%◌, ◌<◌, ◌≤◌}
use native.Mathlib.Omega.{arith}
use mathlib.Core.Path.{◌≡◌, refl, sym, ap, ◌∙◌}
use mathlib.Core.Bool.{Bool, true, false, not}
use mathlib.Core.List.{List, [], ◌∷◌}
use lib.ListN.{length, get_or, set}
use lib.Dec.{eqb, leb, ltb}
use borrow.Author.Tests.{leb-true, le-leb, ltb-true, ltb-false, lt-ltb, eqb-true, eqb-false, ne_eqb, eq-eqb, not-true}
use Rattle.basics.specs.Choice.{pick, ◌and◌, ◌or◌, tabulate}
use Rattle.model.specs.Layout.{id_at, id_in, id_minor_place, id_words, ids_of, most_ids, most_peers, channel_count, mark_words, peer_words, id_count_word, first_id_word, first_peer_word, state_words, ready_at, peered_at, peer_handle_at, peer_minor_at, with_peer, without_peer}
use Rattle.model.specs.Peers.{top_bit, is_peered, peered_as, peers_below, peer_sound, peer_apart, peers_sound}
use Rattle.model.specs.Journal.{fields_of}
use Rattle.model.specs.Messages.{Effect}
use Rattle.model.specs.Reading.{Peer, no_peer, peer, peer_place, peers_shown, has_handle, ended_from, read_peers}
use Rattle.basics.proofs.Choice.{clash, each_of, on-pick, pick_true, pick-false, both, join, every-at, every-make, tabulate-at, tabulate-same, tabulate-set}
use Rattle.model.proofs.Marks.{bit-few}
use Rattle.model.proofs.Words.{Agree, peer-frame, peer-mark, peer-mark-other, peer-handle, peer-minor, unpeer-frame, unpeer-mark, unpeer-mark-other}
use Rattle.model.proofs.Peers.{OwnPeers, PeerTurn, peers-same, mark-same, handle-same, minor-same}

-- A sound registration: none, or one of a listed id.
pub data Registration (s : List ℕ) (ready c p : ℕ) : Type 0 where
  unpeered : peered_at s c p ≡ 0 → Registration s ready c p
  peered : peered_at s c p ≡ 1 → ready ≡ 1 → p < ids_of s → peer_handle_at s c p < top_bit → peer_minor_at s c p ≤ (id_at s p).minor → Registration s ready c p

module _ (s : List ℕ) (ready c p : ℕ) where
  pub registration : peer_sound s ready c p ≡ true → Registration s ready c p
  unfolding peer_sound
  registration e = go (eqb (peered_at s c p) 0) refl
    where
      go : (b : Bool) → eqb (peered_at s c p) 0 ≡ b → Registration s ready c p
      go true q = unpeered (eqb-true _ 0 q)
      go false q =
          let f : (eqb ready 1 and ltb p (ids_of s) and ltb (peer_handle_at s c p) top_bit and leb (peer_minor_at s c p) (id_at s p).minor) ≡ true = unfold peer_sound ◌or◌ in (rw q at e) in
          let n = eqb-false (peered_at s c p) 0 q in
          let h = each_of (_ ∷ _ ∷ _ ∷ _ ∷ []) f in
          peered (is_one (peered_at s c p) (bit-few _ p) n)
          (omega (arith, eqb-true)) (omega (arith, ltb-true)) (omega (arith, ltb-true)) (omega (arith, leb-true))
        where
          is_one : (x : ℕ) → x < 2 → (x ≡ 0 → ⊥) → x ≡ 1
          is_one zero b n = absurd (n refl)
          is_one (suc zero) b n = refl
          is_one (suc (suc x)) b n = absurd (omega arith)

  pub registration-test : Registration s ready c p → peer_sound s ready c p ≡ true
  unfolding peer_sound ◌or◌ ◌and◌ id_in
  registration-test (unpeered z) = rw z
  registration-test (peered m r l h n) =
      rw (m, r) (join _ _ (lt-ltb _ _ l) (join _ _ (lt-ltb _ _ h) (le-leb _ _ n)))

-- A channel's registrations, as facts.
pub record Registrations (s : List ℕ) (ready c : ℕ) : Type 0 where
  pub each : (p : ℕ) → p < most_ids → Registration s ready c p
  pub apart : (q p : ℕ) → q < p → p < most_ids → peered_at s c q ≡ 1 → peered_at s c p ≡ 1 → peer_handle_at s c q ≡ peer_handle_at s c p → ⊥
  pub few : peers_below s c most_ids ≤ most_peers

module _ (s : List ℕ) (ready c : ℕ) where
  pub registrations : peers_sound s ready c ≡ true → Registrations s ready c
  unfolding peers_sound
  registrations e =
      let x = both _ _ e in
      let y = both _ _ x.1 in
      record {
        each = λ p l. registration s ready c p (every-at (peer_sound s ready c) most_ids p x.0 l);
        apart = λ q p h l a b n. differ q p h a b n (every-at (peer_apart s c) most_ids p y.0 l);
        few = leb-true _ most_peers y.1;
      }
    where
      differ : (q p : ℕ) → q < p → peered_at s c q ≡ 1 → peered_at s c p ≡ 1 → peer_handle_at s c q ≡ peer_handle_at s c p → peer_apart s c p ≡ true → ⊥
      differ q p h a b n z =
          let each = every-at (λ q. eqb (peered_at s c q) 0 or not (eqb (peer_handle_at s c q) (peer_handle_at s c p))) p q (unfold peer_apart ◌or◌ in (rw b at z)) h in
          let x : not (eqb (peer_handle_at s c q) (peer_handle_at s c p)) ≡ true = unfold ◌or◌ in (rw a at each) in
          clash (eqb (peer_handle_at s c q) (peer_handle_at s c p)) (not-true _ x) (eq-eqb _ _ n)

  pub registrations-test : Registrations s ready c → peers_sound s ready c ≡ true
  unfolding peers_sound
  registrations-test f =
      join _ _ (every-make (peer_sound s ready c) most_ids (λ p l. registration-test s ready c p (f.each p l)))
      (join _ _ (every-make (peer_apart s c) most_ids one) (le-leb _ most_peers f.few))
    where
      other : (q p : ℕ) → q < p → p < most_ids → peered_at s c p ≡ 1 → Registration s ready c q → (eqb (peered_at s c q) 0 or not (eqb (peer_handle_at s c q) (peer_handle_at s c p))) ≡ true
      other q p h l b (unpeered z) = unfold ◌or◌ in (rw z)
      other q p h l b (peered m r i t n) = unfold ◌or◌ in (rw (m, ne_eqb (peer_handle_at s c q) (peer_handle_at s c p) (f.apart q p h l m b)))

      here : (p : ℕ) → p < most_ids → Registration s ready c p → peer_apart s c p ≡ true
      here p l (unpeered z) = unfold peer_apart ◌or◌ in (rw z)
      here p l (peered m r i t n) =
          unfold peer_apart ◌or◌ in
          (rw m (every-make (λ q. eqb (peered_at s c q) 0 or not (eqb (peer_handle_at s c q) (peer_handle_at s c p))) p
          (λ q h. other q p h l m (f.each q (omega arith)))))

      one : (p : ℕ) → p < most_ids → peer_apart s c p ≡ true
      one p l = here p l (f.each p l)

-- A registration made, of an id that has none there.
module _ (s : List ℕ) (size : length s ≡ state_words) (c p handle minor : ℕ) (h : c < channel_count) (l : p < most_ids) where
  made : List ℕ
  made = with_peer s c p handle minor

  made-below : Agree s made 0 first_peer_word
  unfolding made
  made-below j lo hi = peer-frame s c p handle minor j (λ q. omega arith) (λ q. omega arith) (λ q. omega arith)

  made-others : (k : ℕ) → k < channel_count → (k ≡ c → ⊥) → OwnPeers s made k
  unfolding made
  made-others k b n j lo hi = peer-frame s c p handle minor j (λ q. n (omega arith)) (λ q. n (omega arith)) (λ q. n (omega arith))

  mark-other : (q : ℕ) → q < most_ids → (q ≡ p → ⊥) → peered_at made c q ≡ peered_at s c q
  unfolding made
  mark-other q b n = peer-mark-other s c p handle minor size h l q n

  handle-other : (q : ℕ) → q < most_ids → (q ≡ p → ⊥) → peer_handle_at made c q ≡ peer_handle_at s c q
  unfolding made
  handle-other q b n = peer-frame s c p handle minor (first_peer_word + c * peer_words + mark_words + q) (λ e. omega arith) (λ e. n (omega arith)) (λ e. omega arith)

  minor-other : (q : ℕ) → q < most_ids → (q ≡ p → ⊥) → peer_minor_at made c q ≡ peer_minor_at s c q
  unfolding made
  minor-other q b n = peer-frame s c p handle minor (first_peer_word + c * peer_words + mark_words + most_ids + q) (λ e. omega arith) (λ e. omega arith) (λ e. n (omega arith))

  own-mark : peered_at made c p ≡ 1
  unfolding made
  own-mark = peer-mark s c p handle minor size h l

  own-handle : peer_handle_at made c p ≡ handle
  unfolding made
  own-handle = peer-handle s c p handle minor size h l

  own-minor : peer_minor_at made c p ≡ minor
  unfolding made
  own-minor = peer-minor s c p handle minor size h l

  ids-made : Agree s made id_count_word first_peer_word
  ids-made j lo hi = made-below j (omega arith) hi

  listed-made : ids_of made ≡ ids_of s
  listed-made = made-below id_count_word (omega arith) (omega arith)

  most-made : (q : ℕ) → q < most_ids → (id_at made q).minor ≡ (id_at s q).minor
  unfolding id_in
  most-made q b = made-below (first_id_word + q * id_words + id_minor_place) (omega arith) (omega arith)

  made-shown : peers_shown made ≡ set (peers_shown s) (peer_place c p) (peer handle minor)
  unfolding peers_shown pick
  made-shown =
      tabulate-set _ _ (channel_count * most_ids) no_peer (peer_place c p) (peer handle minor)
      (λ k.
      let x : (c * most_ids + p) / most_ids ≡ c = omega arith in
      let y : (c * most_ids + p) % most_ids ≡ p = omega arith in
      rw (x, y, own-mark, own-handle, own-minor))
      (λ k b n. go k b n (eqb (k / most_ids) c) refl)
    where
      go : (k : ℕ) → k < channel_count * most_ids → (k ≡ peer_place c p → ⊥) → (x : Bool) → eqb (k / most_ids) c ≡ x → pick (is_peered made (k / most_ids) (k % most_ids)) (peer (peer_handle_at made (k / most_ids) (k % most_ids)) (peer_minor_at made (k / most_ids) (k % most_ids))) no_peer ≡ pick (is_peered s (k / most_ids) (k % most_ids)) (peer (peer_handle_at s (k / most_ids) (k % most_ids)) (peer_minor_at s (k / most_ids) (k % most_ids))) no_peer
      go k b n true e =
          let q : k / most_ids ≡ c = eqb-true _ c e in
          let o : k % most_ids ≡ p → ⊥ = λ r. n (omega arith) in
          rw (q, mark-other (k % most_ids) (omega arith) o, handle-other (k % most_ids) (omega arith) o, minor-other (k % most_ids) (omega arith) o)
      go k b n false e =
          let own = made-others (k / most_ids) (omega arith) (eqb-false _ c e) in
          rw (
            mark-same s made ids-made (k / most_ids) (omega arith) own (k % most_ids) (omega arith),
            handle-same s made ids-made (k / most_ids) (omega arith) own (k % most_ids) (omega arith),
            minor-same s made ids-made (k / most_ids) (omega arith) own (k % most_ids) (omega arith),
          )

  -- one more
  count-before : (n : ℕ) → n ≤ p → peers_below made c n ≡ peers_below s c n
  unfolding peers_below
  count-before zero b = refl
  count-before (suc n) b = rw (count-before n (omega arith), mark-other n (omega arith) (λ q. omega arith))

  count-after : peered_at s c p ≡ 0 → (n : ℕ) → p < n → n ≤ most_ids → peers_below made c n ≡ peers_below s c n + 1
  unfolding peers_below
  count-after z zero b m = absurd (omega arith)
  count-after z (suc n) b m = go (λ q. count-after z n q (omega arith)) (eqb n p) refl
    where
      go : (p < n → peers_below made c n ≡ peers_below s c n + 1) → (x : Bool) → eqb n p ≡ x → peers_below made c n + peered_at made c n ≡ peers_below s c n + peered_at s c n + 1
      go so true e =
          let q = eqb-true n p e in
          rw (q, count-before p (omega arith), z, own-mark) (omega arith)
      go so false e =
          let q = eqb-false n p e in
          let r = so (omega arith) in
          rw (mark-other n (omega arith) q) (omega arith)

  -- "a handle .. of a peer registration on its channel, or a ninth one" is not
  made-sound : Registrations s 1 c → p < ids_of s → handle < top_bit → minor ≤ (id_at s p).minor → ((q : ℕ) → q < most_ids → peered_as s c handle q ≡ false) → peered_at s c p ≡ 0 → peers_below s c most_ids < most_peers → Registrations made 1 c
  made-sound f listed low most none z few = record {
    each = λ q b. each q b (eqb q p) refl (f.each q b);
    apart = λ q r b k m n e. apart q r b k m n e (eqb q p) refl (eqb r p) refl;
    few = omega (arith, count-after z most_ids l (omega arith));
  }
    where
      each : (q : ℕ) → q < most_ids → (x : Bool) → eqb q p ≡ x → Registration s 1 c q → Registration made 1 c q
      each q b true e o =
          let i = eqb-true q p e in
          rw i
          (peered own-mark refl (rw listed-made listed) (rw own-handle low) (rw (most-made p l, own-minor) most))
      each q b false e (unpeered y) = unpeered (mark-other q b (eqb-false q p e) ∙ y)
      each q b false e (peered m r i t n) =
          let o = eqb-false q p e in
          peered (mark-other q b o ∙ m) r (rw listed-made i) (rw (handle-other q b o) t) (rw (most-made q b, minor-other q b o) n)

      -- a registered one of the others does not have the handle
      fresh : (q : ℕ) → q < most_ids → peered_at s c q ≡ 1 → peer_handle_at s c q ≡ handle → ⊥
      fresh q b m e = clash _ (none q b) (join _ _ (eq-eqb _ 1 m) (eq-eqb _ handle e))

      apart : (q r : ℕ) → q < r → r < most_ids → peered_at made c q ≡ 1 → peered_at made c r ≡ 1 → peer_handle_at made c q ≡ peer_handle_at made c r → (x : Bool) → eqb q p ≡ x → (y : Bool) → eqb r p ≡ y → ⊥
      apart q r b k m n e true x true y = let i = eqb-true q p x in let j = eqb-true r p y in omega arith
      apart q r b k m n e true x false y =
          let i = eqb-true q p x in
          let o = eqb-false r p y in
          fresh r k (sym (mark-other r k o) ∙ n) (sym (handle-other r k o) ∙ sym e ∙ ap (λ (j : ℕ). peer_handle_at made c j) i ∙ own-handle)
      apart q r b k m n e false x true y =
          let o = eqb-false q p x in
          let j = eqb-true r p y in
          fresh q (omega arith) (sym (mark-other q (omega arith) o) ∙ m) (sym (handle-other q (omega arith) o) ∙ e ∙ ap (λ (j : ℕ). peer_handle_at made c j) j ∙ own-handle)
      apart q r b k m n e false x false y =
          let o = eqb-false q p x in
          let u = eqb-false r p y in
          f.apart q r b k (sym (mark-other q (omega arith) o) ∙ m) (sym (mark-other r k u) ∙ n) (sym (handle-other q (omega arith) o) ∙ e ∙ handle-other r k u)

  pub makes : (e : Effect) → e.state ≡ with_peer s c p handle minor → ((number : ℕ) (ps : List Peer) → read_peers (fields_of number e.event) e.event.word ps ≡ set ps (peer_place c p) (peer handle minor)) → ((k : ℕ) → k < channel_count → peers_sound s (ready_at s k) k ≡ true) → ready_at s c ≡ 1 → p < ids_of s → handle < top_bit → minor ≤ (id_at s p).minor → ((q : ℕ) → q < most_ids → peered_as s c handle q ≡ false) → peered_at s c p ≡ 0 → peers_below s c most_ids < most_peers → PeerTurn s e
  unfolding made
  makes e t r old ready listed low most none z few = record {
    ids = rw t ids-made;
    sounds = λ k b. rw t (go k b (eqb k c) refl);
    reads = λ number. rw t (made-shown ∙ sym (r number (peers_shown s)));
  }
    where
      go : (k : ℕ) → k < channel_count → (x : Bool) → eqb k c ≡ x → peers_sound made (ready_at made k) k ≡ true
      go k b true x =
          let q = eqb-true k c x in
          rw (q, made-below c (omega arith) (omega arith), ready)
          (registrations-test made 1 c (made-sound (registrations s 1 c (rw ready at (old c h))) listed low most none z few))
      go k b false x =
          rw (made-below k (omega arith) (omega arith))
          (peers-same s made ids-made k b (made-others k b (eqb-false k c x)) (ready_at s k) ∙ old k b)

-- What kind 23 is read as: those of a run of places that have the handle, and no other.
ended-table : (f g : ℕ → Peer) (n handle k m : ℕ) → k + m ≤ n → ((i : ℕ) → i < n → k ≤ i → i < k + m → g i ≡ pick (has_handle handle (f i)) no_peer (f i)) → ((i : ℕ) → i < n → (k ≤ i → i < k + m → ⊥) → g i ≡ f i) → tabulate g n ≡ ended_from (tabulate f n) handle k m
unfolding ended_from
ended-table f g n handle k zero b at other = tabulate-same f g n no_peer (λ i h. other i h (λ p q. omega arith))
ended-table f g n handle k (suc m) b at other =
    rw (tabulate-at f n (k + m) no_peer (omega arith))
    (go (has_handle handle (f (k + m))) refl (λ x y z. ended-table f x n handle k m (omega arith) y z))
  where
    before : ℕ → Peer
    before i = pick (eqb i (k + m)) (f i) (g i)

    Ended : List Peer → Type 0
    Ended l = tabulate g n ≡ l

    last : (i : ℕ) → k ≤ i → i < k + suc m → (i ≡ k + m → ⊥) → i < k + m
    last i lo hi q = omega arith

    go : (x : Bool) → has_handle handle (f (k + m)) ≡ x → ((x : ℕ → Peer) → ((i : ℕ) → i < n → k ≤ i → i < k + m → x i ≡ pick (has_handle handle (f i)) no_peer (f i)) → ((i : ℕ) → i < n → (k ≤ i → i < k + m → ⊥) → x i ≡ f i) → tabulate x n ≡ ended_from (tabulate f n) handle k m) → tabulate g n ≡ pick x (set (ended_from (tabulate f n) handle k m) (k + m) no_peer) (ended_from (tabulate f n) handle k m)
    go true e so =
        unfold pick in
        (tabulate-set before g n no_peer (k + m) no_peer
        (λ h. at (k + m) h (omega arith) (omega arith) ∙ pick_true _ no_peer (f (k + m)) e)
        (λ i h q. sym (pick-false (eqb i (k + m)) (f i) (g i) (ne_eqb i (k + m) q)))
        ∙ ap (λ (l : List Peer). set l (k + m) no_peer)
        (so before
        (λ i h lo hi. pick-false (eqb i (k + m)) (f i) (g i) (ne_eqb i (k + m) (λ q. omega arith)) ∙ at i h lo (omega arith))
        (λ i h out.
        on-pick (λ (x : Peer). x ≡ f i) (eqb i (k + m)) (f i) (g i) (λ _. refl)
        (λ e. other i h (λ lo hi. out lo (last i lo hi (eqb-false i (k + m) e)))))))
    go false e so =
        unfold pick in
        (so g (λ i h lo hi. at i h lo (omega arith))
        (λ i h out. end i h out (eqb i (k + m)) refl))
      where
        end : (i : ℕ) → i < n → (k ≤ i → i < k + m → ⊥) → (x : Bool) → eqb i (k + m) ≡ x → g i ≡ f i
        end i h out true q =
            let j = eqb-true i (k + m) q in
            at i h (omega arith) (omega arith) ∙ pick-false (has_handle handle (f i)) no_peer (f i) (rw j e)
        end i h out false q = other i h (λ lo hi. out lo (last i lo hi (eqb-false i (k + m) q)))

-- A registration ended.
module _ (s : List ℕ) (size : length s ≡ state_words) (c p : ℕ) (h : c < channel_count) (l : p < most_ids) where
  unmade : List ℕ
  unmade = without_peer s c p

  unmade-frame : (j : ℕ) → (j ≡ first_peer_word + c * peer_words → ⊥) → get_or unmade j 0 ≡ get_or s j 0
  unfolding unmade
  unmade-frame j n = unpeer-frame s c p j n

  unmade-below : Agree s unmade 0 first_peer_word
  unmade-below j lo hi = unmade-frame j (λ q. omega arith)

  ids-unmade : Agree s unmade id_count_word first_peer_word
  ids-unmade j lo hi = unmade-below j (omega arith) hi

  unmade-others : (k : ℕ) → k < channel_count → (k ≡ c → ⊥) → OwnPeers s unmade k
  unmade-others k b n j lo hi = unmade-frame j (λ q. n (omega arith))

  mark-gone : peered_at unmade c p ≡ 0
  unfolding unmade
  mark-gone = unpeer-mark s c p 0 0 size h l

  mark-left : (q : ℕ) → q < most_ids → (q ≡ p → ⊥) → peered_at unmade c q ≡ peered_at s c q
  unfolding unmade
  mark-left q b n = unpeer-mark-other s c p 0 0 size h l q n

  handle-left : (q : ℕ) → q < most_ids → peer_handle_at unmade c q ≡ peer_handle_at s c q
  handle-left q b = unmade-frame (first_peer_word + c * peer_words + mark_words + q) (λ e. omega arith)

  minor-left : (q : ℕ) → q < most_ids → peer_minor_at unmade c q ≡ peer_minor_at s c q
  minor-left q b = unmade-frame (first_peer_word + c * peer_words + mark_words + most_ids + q) (λ e. omega arith)

  most-unmade : (q : ℕ) → q < most_ids → (id_at unmade q).minor ≡ (id_at s q).minor
  unfolding id_in
  most-unmade q b = unmade-below (first_id_word + q * id_words + id_minor_place) (omega arith) (omega arith)

  -- none more
  count_left : (n : ℕ) → n ≤ most_ids → peers_below unmade c n ≤ peers_below s c n
  unfolding peers_below
  count_left zero b = omega arith
  count_left (suc n) b = go (count_left n (omega arith)) (eqb n p) refl
    where
      go : peers_below unmade c n ≤ peers_below s c n → (x : Bool) → eqb n p ≡ x → peers_below unmade c n + peered_at unmade c n ≤ peers_below s c n + peered_at s c n
      go so true e =
          let q = eqb-true n p e in
          let z : peered_at unmade c n ≡ 0 = rw q mark-gone in
          rw z (omega arith)
      go so false e = rw (mark-left n (omega arith) (eqb-false n p e)) (omega arith)

  unmade-sound : (ready : ℕ) → Registrations s ready c → Registrations unmade ready c
  unmade-sound ready f = record {
    each = λ q b. each q b (eqb q p) refl (f.each q b);
    apart = λ q r b k m n e. apart q r b k m n e (eqb q p) refl (eqb r p) refl;
    few = omega (arith, count_left most_ids (omega arith), f.few);
  }
    where
      gone : (q : ℕ) → eqb q p ≡ true → peered_at unmade c q ≡ 0
      gone q e = let i = eqb-true q p e in rw i mark-gone

      each : (q : ℕ) → q < most_ids → (x : Bool) → eqb q p ≡ x → Registration s ready c q → Registration unmade ready c q
      each q b true e o = unpeered (gone q e)
      each q b false e (unpeered y) = unpeered (mark-left q b (eqb-false q p e) ∙ y)
      each q b false e (peered m r i t n) =
          peered (mark-left q b (eqb-false q p e) ∙ m) r (rw (unmade-below id_count_word (omega arith) (omega arith)) i) (rw (handle-left q b) t) (rw (most-unmade q b, minor-left q b) n)

      apart : (q r : ℕ) → q < r → r < most_ids → peered_at unmade c q ≡ 1 → peered_at unmade c r ≡ 1 → peer_handle_at unmade c q ≡ peer_handle_at unmade c r → (x : Bool) → eqb q p ≡ x → (y : Bool) → eqb r p ≡ y → ⊥
      apart q r b k m n e true x y z = omega (arith, m, gone q x)
      apart q r b k m n e false x true z = omega (arith, n, gone r z)
      apart q r b k m n e false x false z =
          f.apart q r b k (sym (mark-left q (omega arith) (eqb-false q p x)) ∙ m) (sym (mark-left r k (eqb-false r p z)) ∙ n)
          (sym (handle-left q (omega arith)) ∙ e ∙ handle-left r k)

  -- what is shown at a place
  shown_at : List ℕ → ℕ → Peer
  shown_at t k = pick (is_peered t (k / most_ids) (k % most_ids)) (peer (peer_handle_at t (k / most_ids) (k % most_ids)) (peer_minor_at t (k / most_ids) (k % most_ids))) no_peer

  left-shown : (k handle : ℕ) → k / most_ids ≡ c → (k % most_ids ≡ p → ⊥) → peered_at s c (k % most_ids) ≡ 1 → eqb (peer_handle_at s c (k % most_ids)) handle ≡ false → shown_at unmade k ≡ pick (has_handle handle (shown_at s k)) no_peer (shown_at s k)
  unfolding shown_at has_handle pick
  left-shown k handle q o y w =
      rw (q, mark-left (k % most_ids) (omega arith) o, handle-left (k % most_ids) (omega arith), minor-left (k % most_ids) (omega arith), y, w)

  unmade-shown : (ready handle : ℕ) → Registrations s ready c → peered_at s c p ≡ 1 → peer_handle_at s c p ≡ handle → peers_shown unmade ≡ ended_from (peers_shown s) handle (peer_place c 0) most_ids
  unfolding peers_shown shown_at
  unmade-shown ready handle f m e =
      ended-table (shown_at s) (shown_at unmade) (channel_count * most_ids) handle (peer_place c 0) most_ids (omega arith)
      (λ k b lo hi.
      let q : k / most_ids ≡ c = omega arith in
      here k b q (eqb (k % most_ids) p) refl (f.each (k % most_ids) (omega arith)))
      (λ k b out.
      let n : k / most_ids ≡ c → ⊥ = λ q. out (omega arith) (omega arith) in
      let own = unmade-others (k / most_ids) (omega arith) n in
      rw (
        mark-same s unmade ids-unmade (k / most_ids) (omega arith) own (k % most_ids) (omega arith),
        handle-same s unmade ids-unmade (k / most_ids) (omega arith) own (k % most_ids) (omega arith),
        minor-same s unmade ids-unmade (k / most_ids) (omega arith) own (k % most_ids) (omega arith),
      ))
    where
      here : (k : ℕ) → k < channel_count * most_ids → k / most_ids ≡ c → (x : Bool) → eqb (k % most_ids) p ≡ x → Registration s ready c (k % most_ids) → shown_at unmade k ≡ pick (has_handle handle (shown_at s k)) no_peer (shown_at s k)
      here k b q true x o =
          let i = eqb-true (k % most_ids) p x in
          unfold shown_at has_handle pick in (rw (q, i, mark-gone, m, e, eq-eqb handle handle refl))
      here k b q false x (unpeered y) =
          unfold shown_at has_handle pick in (rw (q, mark-left (k % most_ids) (omega arith) (eqb-false _ p x), y))
      here k b q false x (peered y r i t n) =
          let o = eqb-false (k % most_ids) p x in
          let w : eqb (peer_handle_at s c (k % most_ids)) handle ≡ false = ne_eqb _ handle (λ z. differ (k % most_ids) (omega arith) o y (z ∙ sym e)) in
          left-shown k handle q o y w
        where
          differ : (q : ℕ) → q < most_ids → (q ≡ p → ⊥) → peered_at s c q ≡ 1 → peer_handle_at s c q ≡ peer_handle_at s c p → ⊥
          differ q b n y z = go (ltb q p) refl
            where
              go : (x : Bool) → ltb q p ≡ x → ⊥
              go true w = f.apart q p (ltb-true q p w) l y m z
              go false w = f.apart p q (omega (arith, ltb-false q p w)) b m y (sym z)

  pub ends : (e : Effect) (handle : ℕ) → e.state ≡ without_peer s c p → ((number : ℕ) (ps : List Peer) → read_peers (fields_of number e.event) e.event.word ps ≡ ended_from ps handle (peer_place c 0) most_ids) → ((k : ℕ) → k < channel_count → peers_sound s (ready_at s k) k ≡ true) → peered_as s c handle p ≡ true → PeerTurn s e
  unfolding unmade
  ends e handle t r old has = record {
    ids = rw t ids-unmade;
    sounds = λ k b. rw t (go k b (eqb k c) refl);
    reads = λ number.
        let x = both _ _ has in
        rw t (unmade-shown (ready_at s c) handle (registrations s (ready_at s c) c (old c h)) (eqb-true _ 1 x.0) (eqb-true _ handle x.1) ∙ sym (r number (peers_shown s)));
  }
    where
      go : (k : ℕ) → k < channel_count → (x : Bool) → eqb k c ≡ x → peers_sound unmade (ready_at unmade k) k ≡ true
      go k b true x =
          let q = eqb-true k c x in
          rw (q, unmade-below c (omega arith) (omega arith))
          (registrations-test unmade (ready_at s c) c (unmade-sound (ready_at s c) (registrations s (ready_at s c) c (old c h))))
      go k b false x =
          rw (unmade-below k (omega arith) (omega arith))
          (peers-same s unmade ids-unmade k b (unmade-others k b (eqb-false k c x)) (ready_at s k) ∙ old k b)
