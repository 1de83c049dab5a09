-- The effects of requests to shut down and to panic, and of the host's calls about them, as Effects.antt shows of each.
-- Assumes nothing.
use Prim.Native.Nat.{ℕ, ◌+◌, ◌-◌, ◌≤◌, ◌<◌}
use native.Mathlib.Omega.{arith}
use mathlib.Core.Path.{◌≡◌, refl, sym, ap, ◌∙◌}
use mathlib.Core.Bool.{Bool, true, false, not}
use mathlib.Core.List.{List, [], ◌∷◌}
use lib.ListN.{length}
use lib.Dec.{eqb, leb}
use borrow.Author.Tests.{le-leb, eqb-true, eqb-false}
use Rattle.wire.proofs.Laws.{number_bound}
use Rattle.basics.specs.Choice.{pick, ◌and◌, ◌or◌}
use Rattle.model.specs.declared.Event.{Event}
use Rattle.model.specs.Layout.{channel_count, service_count, shutdown_service, panic_service, first_permission_word, order_word, delay_word, state_words, order_none, order_shutdown, order_panic, highest_delay, word_of, is_set, permission_at, order_of, delay_of, with_permission, with_order, last_of, output_bytes, id_count_word}
use Rattle.model.specs.State.{orders_sound}
use Rattle.model.specs.Orders.{DOMAIN-SHUTDOWN-SUCCESS, order_number, delay_in, not_ordered, ordering, ordering_for, answered_order, permitting, taking}
use Rattle.model.specs.Journal.{ordered_event, permitted_event, taken_event, kind_device, fields_of, kind_peer_registered}
use Rattle.model.specs.Messages.{effect}
use Rattle.model.specs.Reading.{handle_in, read_in, settled_block, View, Order, shutdown, panic, order_shown, orders_shown, read_orders, see_permission, see_order}
use Rattle.basics.proofs.Choice.{on-pick, each_of, join, or-true}
use Rattle.model.proofs.Words.{Agree, permission-frame, permission-length, permission-word, order-frame, order-length, order-word, delay-word}
use Rattle.model.proofs.Peers.{leaves_peers}
use Rattle.model.proofs.Above.{sets_orders}
use Rattle.model.proofs.Rules.{Given}
use Rattle.model.proofs.Turns.{aside}
use Rattle.effects.proofs.Events.{Fits, code_end, ordered-fits, permitted-fits, taken-fits}
use Rattle.effects.proofs.Needs.{ordered-needs, permitted-needs, taken-needs}
use Rattle.model.proofs.Replies.{short-empty, order-short}
use Rattle.effects.proofs.Effects.{Good, read_by, needed_by, next-number, high-changed}

-- sound permissions and a sound order, and back
pub record OrderFacts (s : List ℕ) : Type 0 where
  pub shutdowns : leb (permission_at s shutdown_service) 1 ≡ true
  pub panics : leb (permission_at s panic_service) 1 ≡ true
  pub order : leb (order_of s) order_panic ≡ true
  pub delay : (not (eqb (order_of s) order_shutdown) or leb (delay_of s) highest_delay) ≡ true

order-facts : (s : List ℕ) → orders_sound s ≡ true → OrderFacts s
unfolding orders_sound
order-facts s e = let h = each_of (_ ∷ _ ∷ _ ∷ _ ∷ []) e in search

pub order-test : (s : List ℕ) → OrderFacts s → orders_sound s ≡ true
unfolding orders_sound
order-test s f = join _ _ f.shutdowns (join _ _ f.panics (join _ _ f.order f.delay))

-- the words after a permission is set, and after an order
module _ (s : List ℕ) (size : length s ≡ state_words) where
  permission-other : (v u permitted : ℕ) → shutdown_service ≤ v → shutdown_service ≤ u → (u ≡ v → ⊥) → permission_at (with_permission s v permitted) u ≡ permission_at s u
  permission-other v u permitted p q n = permission-frame s v permitted (first_permission_word + (u - shutdown_service)) (λ z. n (omega arith))

  -- one of the two, by which it is
  permission-after : (P : ℕ → Type 0) (v u permitted : ℕ) → shutdown_service ≤ v → v < service_count → shutdown_service ≤ u → P permitted → P (permission_at s u) → P (permission_at (with_permission s v permitted) u)
  permission-after P v u permitted p l q new old = go (eqb u v) refl
    where
      go : (b : Bool) → eqb u v ≡ b → P (permission_at (with_permission s v permitted) u)
      go true z = rw (eqb-true u v z, permission-word s v permitted size l) new
      go false z = rw (permission-other v u permitted p q (eqb-false u v z)) old

  permitted-sound : (v permitted : ℕ) → shutdown_service ≤ v → v < service_count → permitted ≤ 1 → orders_sound s ≡ true → orders_sound (with_permission s v permitted) ≡ true
  permitted-sound v permitted p l small e =
      let f = order-facts s e in
      let w = permission-frame s v permitted in
      order-test (with_permission s v permitted)
      (record {
        shutdowns = permission-after (λ (n : ℕ). leb n 1 ≡ true) v shutdown_service permitted p l (omega arith) (le-leb permitted 1 small) f.shutdowns;
        panics = permission-after (λ (n : ℕ). leb n 1 ≡ true) v panic_service permitted p l (omega arith) (le-leb permitted 1 small) f.panics;
        order = rw (w order_word (λ q. omega arith)) f.order;
        delay = rw (w order_word (λ q. omega arith), w delay_word (λ q. omega arith)) f.delay;
      })

  ordered-sound : (order delay : ℕ) → order ≤ order_panic → delay ≤ highest_delay → orders_sound s ≡ true → orders_sound (with_order s order delay) ≡ true
  unfolding ◌or◌
  ordered-sound order delay p q e =
      let f = order-facts s e in
      let w = order-frame s order delay in
      order-test (with_order s order delay)
      (record {
        shutdowns = rw (w first_permission_word (λ a b. omega arith)) f.shutdowns;
        panics = rw (w (first_permission_word + 1) (λ a b. omega arith)) f.panics;
        order = rw (order-word s order delay size) (le-leb order order_panic p);
        delay = rw (order-word s order delay size, delay-word s order delay size, le-leb delay highest_delay q) (or-true (not (eqb order order_shutdown)));
      })

  order-shown : (order delay : ℕ) → orders_shown (with_order s order delay) ≡ see_order (order_shown order delay) (orders_shown s)
  unfolding orders_shown see_order
  order-shown order delay =
      let w = order-frame s order delay in
      rw (
        w first_permission_word (λ a b. omega arith),
        w (first_permission_word + 1) (λ a b. omega arith),
        order-word s order delay size,
        delay-word s order delay size,
      )

  flag-set : (b : Bool) → is_set (word_of b) ≡ eqb (word_of b) 1
  flag-set true = refl
  flag-set false = refl

  -- a permission that is shown
  shown-after : (v u : ℕ) (b : Bool) → shutdown_service ≤ v → v < service_count → shutdown_service ≤ u → is_set (permission_at (with_permission s v (word_of b)) u) ≡ pick (eqb v u) (eqb (word_of b) 1) (is_set (permission_at s u))
  shown-after v u b p l q = go (eqb v u) refl
    where
      go : (x : Bool) → eqb v u ≡ x → is_set (permission_at (with_permission s v (word_of b)) u) ≡ pick x (eqb (word_of b) 1) (is_set (permission_at s u))
      go true z = unfold pick in (rw (← eqb-true v u z, permission-word s v (word_of b) size l) (flag-set b))
      go false z = unfold pick in (rw (permission-other v u (word_of b) p q (λ e. eqb-false v u z (sym e))))

  permission-shown : (v : ℕ) (b : Bool) → shutdown_service ≤ v → v < service_count → orders_shown (with_permission s v (word_of b)) ≡ see_permission v (eqb (word_of b) 1) (orders_shown s)
  unfolding orders_shown see_permission
  permission-shown v b p l =
      let w = permission-frame s v (word_of b) in
      rw (
        shown-after v shutdown_service b p l (omega arith),
        shown-after v panic_service b p l (omega arith),
        w order_word (λ q. omega arith),
        w delay_word (λ q. omega arith),
      )

-- Permissions and the order changed, and nothing else.
module _ (s : List ℕ) (g : Given s) where
  orders-changed : (e : Event) (t reply : List ℕ) → length t ≡ length s → Agree s t 0 first_permission_word → Agree s t id_count_word state_words → Fits (last_of s + 1) e → ((v : View) → read_by s e v ≡ v) → length reply ≤ output_bytes → aside e.kind ≡ true → kind_device < e.kind → e.kind < kind_peer_registered → needed_by s e → orders_sound t ≡ true → ((number : ℕ) → orders_shown t ≡ read_orders (fields_of number e) e.word (orders_shown s)) → Good s (effect e t reply)
  orders-changed e t reply size w x f r short a above under n o shown =
      high-changed s g e t reply size (λ j lo hi. w j lo (omega arith)) f r short a n (sets_orders (λ j lo hi. w j (omega arith) hi) o above shown)
      (leaves_peers s (effect e t reply) g.facts.peers (λ j lo hi. w j lo (omega arith)) x (omega arith) under)

  -- 21, and no order left
  not-ordered-good : (c handle v request result : ℕ) (reason : List ℕ) → c < channel_count → v < service_count → result < code_end → eqb result 0 ≡ false → length reason ≤ 8 → Good s (not_ordered s c handle v request result reason)
  unfolding not_ordered fields_of read_in handle_in settled_block pick aside ◌or◌
  not-ordered-good c handle v request result reason h l k bad short =
      orders-changed (ordered_event c v result 0) s _ refl (λ j lo hi. refl) (λ j lo hi. refl) (ordered-fits _ c (next-number s g) h v result 0 l k) (λ x. refl)
      (order-short handle request result reason short) refl (omega arith) (omega arith) (ordered-needs _ _ c v result 0) g.facts.orders
      (λ number. unfold read_orders ◌and◌ in rw bad)

  -- 21, and an order left
  ordering-good : (c handle v request order delay : ℕ) → c < channel_count → v < service_count → order ≤ order_panic → delay ≤ highest_delay → order_shown order delay ≡ pick (eqb v shutdown_service) (shutdown delay) panic → Good s (ordering s c handle v request order delay)
  unfolding ordering fields_of read_in handle_in settled_block aside ◌or◌
  ordering-good c handle v request order delay h l p q shown =
      orders-changed (ordered_event c v DOMAIN-SHUTDOWN-SUCCESS delay) (with_order s order delay) _ (order-length s order delay)
      (λ j lo hi. order-frame s order delay j (λ a b. omega arith))
      (λ j lo hi. order-frame s order delay j (λ a b. omega arith))
      (ordered-fits _ c (next-number s g) h v DOMAIN-SHUTDOWN-SUCCESS delay l (omega arith)) (λ x. unfold pick in refl)
      (order-short handle request DOMAIN-SHUTDOWN-SUCCESS [] (omega arith)) refl (omega arith) (omega arith) (ordered-needs _ _ c v DOMAIN-SHUTDOWN-SUCCESS delay)
      (ordered-sound s g.size order delay p q g.facts.orders)
      (λ number. order-shown s g.size order delay ∙ ap (λ (x : Order). see_order x (orders_shown s)) shown ∙ unfold read_orders pick ◌and◌ in refl)

  ordering-for-good : (c handle v : ℕ) (b : List ℕ) → c < channel_count → v < service_count → Good s (ordering_for s c handle v b)
  unfolding ordering_for
  ordering-for-good c handle v b h l =
      on-pick (Good s) (eqb v shutdown_service) _ _
      (λ e. ordering-good c handle v (order_number b) order_shutdown (delay_in b) h l (omega arith) (omega (arith, number_bound b 8 4)) (unfold order_shown pick in rw e))
      (λ e. ordering-good c handle v (order_number b) order_panic 0 h l (omega arith) (omega arith) (unfold order_shown pick in rw e))

  pub answered-order-good : (c handle v : ℕ) (b : List ℕ) → c < channel_count → v < service_count → Good s (answered_order s c handle v b)
  unfolding answered_order
  answered-order-good c handle v b h l =
      on-pick (Good s) _ _ _ (λ _. not-ordered-good c handle v _ _ [] h l (omega arith) refl (omega arith))
      (λ _. on-pick (Good s) _ _ _ (λ _. not-ordered-good c handle v _ _ _ h l (omega arith) refl (omega arith))
      (λ _. on-pick (Good s) _ _ _ (λ _. not-ordered-good c handle v _ _ _ h l (omega arith) refl (omega arith))
      (λ _. ordering-for-good c handle v b h l)))

  -- 19
  pub permitting-good : (v : ℕ) (permitted : Bool) → shutdown_service ≤ v → v < service_count → Good s (permitting s v permitted)
  unfolding permitting fields_of read_in handle_in settled_block aside ◌or◌
  permitting-good v permitted p l =
      orders-changed (permitted_event v (word_of permitted)) (with_permission s v (word_of permitted)) [] (permission-length s v (word_of permitted))
      (λ j lo hi. permission-frame s v (word_of permitted) j (λ q. omega arith))
      (λ j lo hi. permission-frame s v (word_of permitted) j (λ q. omega arith))
      (permitted-fits _ v (word_of permitted) (next-number s g) l (small permitted)) (λ x. unfold pick in refl)
      short-empty refl (omega arith) (omega arith) (permitted-needs _ _ 0 v (word_of permitted))
      (permitted-sound s g.size v (word_of permitted) p l (small permitted) g.facts.orders)
      (λ number. permission-shown s g.size v permitted p l ∙ unfold read_orders pick in refl)
    where
      small : (b : Bool) → word_of b ≤ 1
      small true = omega arith
      small false = omega arith

  -- 20
  pub taking-good : Good s (taking s)
  unfolding taking fields_of read_in handle_in settled_block pick aside ◌or◌
  taking-good =
      orders-changed taken_event (with_order s order_none 0) [] (order-length s order_none 0) (λ j lo hi. order-frame s order_none 0 j (λ a b. omega arith)) (λ j lo hi. order-frame s order_none 0 j (λ a b. omega arith))
      (taken-fits _ (next-number s g)) (λ x. refl) short-empty refl (omega arith) (omega arith) (taken-needs _ _ 0)
      (ordered-sound s g.size order_none 0 (omega arith) (omega arith) g.facts.orders)
      (λ number. order-shown s g.size order_none 0 ∙ unfold read_orders order_shown pick in refl)
