-- What an effect does to the words between those of request numbers and of peers: the devices, the permissions and the order.
-- Assumes nothing.
use Prim.Native.Nat.{ℕ, ◌+◌, ◌*◌, ◌<◌, ◌≤◌}
use native.Mathlib.Omega.{arith}
use mathlib.Core.Path.{◌≡◌, refl, sym, ◌∙◌}
use mathlib.Core.Bool.{Bool, true, false}
use mathlib.Core.List.{List}
use lib.ListN.{length, get_or}
use lib.Dec.{eqb, leb}
use borrow.Author.Tests.{leb-true, eqb-true, eqb-false, ne_eqb}
use Rattle.basics.specs.Choice.{pick, ◌and◌}
use Rattle.model.specs.declared.Event.{Event}
use Rattle.model.specs.Layout.{devices_of, device_configured_place, device_words, most_devices, device_count_word, first_device_word, first_permission_word, order_word, delay_word, id_count_word, state_words, with_device}
use Rattle.model.specs.Devices.{devices_keep}
use Rattle.model.specs.State.{orders_sound}
use Rattle.model.specs.Journal.{kind_noted, kind_device, kind_permitted, kind_taken, kind_ordered, fields_of}
use Rattle.model.specs.Messages.{Effect}
use Rattle.model.specs.Reading.{devices_shown, read_devices, Orders, orders_shown, read_orders}
use Rattle.model.proofs.Words.{Agree, device-frame, device-word}
use Rattle.model.proofs.Devices.{device-facts, devices-same, shown-same, devices-flagged, shown-flagged}

-- an event of another kind than 19 to 21 changes no permission and no order, and one above 18 no device
other-kind : (number : ℕ) (e : Event) (o : Orders) → (kind_permitted ≤ e.kind → e.kind ≤ kind_ordered → ⊥) → read_orders (fields_of number e) e.word o ≡ o
unfolding read_orders fields_of
other-kind number e o h =
    rw (
      ne_eqb e.kind kind_permitted (λ q. h (omega arith) (omega arith)),
      ne_eqb e.kind kind_taken (λ q. h (omega arith) (omega arith)),
      ne_eqb e.kind kind_ordered (λ q. h (omega arith) (omega arith)),
    )
    (unfold pick ◌and◌ in refl)

no-order : (number : ℕ) (e : Event) (o : Orders) → e.kind ≤ kind_device → read_orders (fields_of number e) e.word o ≡ o
no-order number e o h = other-kind number e o (λ lo hi. omega arith)

pub after-orders : (number : ℕ) (e : Event) (o : Orders) → kind_ordered < e.kind → read_orders (fields_of number e) e.word o ≡ o
after-orders number e o h = other-kind number e o (λ lo hi. omega arith)

module _ (s t : List ℕ) (a : Agree s t first_permission_word id_count_word) where
  orders-same : orders_sound t ≡ orders_sound s
  unfolding orders_sound
  orders-same =
      rw (
        a first_permission_word (omega arith) (omega arith),
        a (first_permission_word + 1) (omega arith) (omega arith),
        a order_word (omega arith) (omega arith),
        a delay_word (omega arith) (omega arith),
      )

  pub orders-shown-same : orders_shown t ≡ orders_shown s
  unfolding orders_shown
  orders-shown-same =
      rw (
        a first_permission_word (omega arith) (omega arith),
        a (first_permission_word + 1) (omega arith) (omega arith),
        a order_word (omega arith) (omega arith),
        a delay_word (omega arith) (omega arith),
      )

  pub orders-kept : orders_sound s ≡ true → orders_sound t ≡ true
  orders-kept e = orders-same ∙ e

pub data AboveTurn (s : List ℕ) (e : Effect) : Type 0 where
  -- nothing; its kind is one of 01's
  leaves_above : Agree s e.state device_count_word id_count_word → leb e.event.kind kind_noted ≡ true → AboveTurn s e
  -- it sets one device's flag and notes it
  asks_device :
      (i flag : ℕ) →
      i < devices_of s →
      flag ≤ 1 →
      Agree (with_device s i flag) e.state device_count_word id_count_word →
      e.event.kind ≡ kind_device →
      e.event.count ≡ i →
      e.event.word ≡ flag →
      AboveTurn s e
  -- a permission or the order, as its entry is read
  sets_orders :
      Agree s e.state device_count_word first_permission_word →
      orders_sound e.state ≡ true →
      kind_device < e.event.kind →
      ((number : ℕ) → orders_shown e.state ≡ read_orders (fields_of number e.event) e.event.word (orders_shown s)) →
      AboveTurn s e

-- the words below the permissions, and those from them on
below-orders : (s t : List ℕ) → Agree s t device_count_word id_count_word → Agree s t device_count_word first_permission_word
below-orders s t a j lo hi = a j lo (omega arith)

from-orders : (s t : List ℕ) → Agree s t device_count_word id_count_word → Agree s t first_permission_word id_count_word
from-orders s t a j lo hi = a j (omega arith) hi

module _ (s : List ℕ) (size : length s ≡ state_words) (old : devices_keep s first_device_word (devices_of s) ≡ true) where
  -- a device's flag is below the orders
  flag-below : (i flag : ℕ) → i < devices_of s → Agree s (with_device s i flag) first_permission_word id_count_word
  flag-below i flag h j lo hi =
      let few = (device-facts s first_device_word (devices_of s) old).few in
      device-frame s i flag j (λ p q. omega arith)

  pub turn-keeps : (e : Effect) → AboveTurn s e → devices_keep e.state first_device_word (devices_of e.state) ≡ true
  turn-keeps e (leaves_above a k) = devices-same s e.state (below-orders s e.state a) old
  turn-keeps e (asks_device i flag h small a k c w) =
      devices-same (with_device s i flag) e.state (below-orders (with_device s i flag) e.state a) (devices-flagged s i flag size h small old)
  turn-keeps e (sets_orders a o k r) = devices-same s e.state a old

  pub turn-shown : (e : Effect) (number : ℕ) → AboveTurn s e → devices_shown e.state ≡ read_devices (fields_of number e.event) e.event.word (devices_shown s)
  unfolding read_devices fields_of
  turn-shown e number (leaves_above a k) =
      let least = leb-true e.event.kind kind_noted k in
      rw (ne_eqb e.event.kind kind_device (λ q. omega arith)) (unfold pick in (shown-same s e.state (below-orders s e.state a) old))
  turn-shown e number (asks_device i flag h small a k c w) =
      rw (k, c, w)
      (unfold pick in (shown-same (with_device s i flag) e.state (below-orders (with_device s i flag) e.state a) (devices-flagged s i flag size h small old) ∙ shown-flagged s i flag size h small old))
  turn-shown e number (sets_orders a o k r) =
      rw (ne_eqb e.event.kind kind_device (λ q. omega arith)) (unfold pick in (shown-same s e.state a old))

  pub turn-orders : (e : Effect) → orders_sound s ≡ true → AboveTurn s e → orders_sound e.state ≡ true
  turn-orders e x (leaves_above a k) = orders-kept s e.state (from-orders s e.state a) x
  turn-orders e x (asks_device i flag h small a k c w) =
      orders-kept (with_device s i flag) e.state (from-orders (with_device s i flag) e.state a) (orders-kept s (with_device s i flag) (flag-below i flag h) x)
  turn-orders e x (sets_orders a o k r) = o

  pub turn-ordered : (e : Effect) (number : ℕ) → AboveTurn s e → orders_shown e.state ≡ read_orders (fields_of number e.event) e.event.word (orders_shown s)
  turn-ordered e number (leaves_above a k) =
      let least = leb-true e.event.kind kind_noted k in
      orders-shown-same s e.state (from-orders s e.state a) ∙ sym (no-order number e.event (orders_shown s) (omega arith))
  turn-ordered e number (asks_device i flag h small a k c w) =
      orders-shown-same (with_device s i flag) e.state (from-orders (with_device s i flag) e.state a)
      ∙ orders-shown-same s (with_device s i flag) (flag-below i flag h)
      ∙ sym (no-order number e.event (orders_shown s) (omega (arith, k)))
  turn-ordered e number (sets_orders a o k r) = r number

  -- the turn of an effect of another state with the same words there
  pub turn-back : (t : List ℕ) (e : Effect) → length t ≡ state_words → Agree s t device_count_word id_count_word → AboveTurn t e → AboveTurn s e
  turn-back t e n a (leaves_above b k) = leaves_above (λ j lo hi. b j lo hi ∙ a j lo hi) k
  turn-back t e n a (asks_device i flag h small b k c w) =
      let g : i < devices_of s = omega (arith, a device_count_word (omega arith) (omega arith)) in
      asks_device i flag g small (λ j lo hi. b j lo hi ∙ both-flagged i flag g j lo hi (eqb j (first_device_word + i * device_words + device_configured_place)) refl) k c w
    where
      both-flagged : (i flag : ℕ) → i < devices_of s → (j : ℕ) → device_count_word ≤ j → j < id_count_word → (x : Bool) → eqb j (first_device_word + i * device_words + device_configured_place) ≡ x → get_or (with_device t i flag) j 0 ≡ get_or (with_device s i flag) j 0
      both-flagged i flag g j lo hi true z =
          let q = eqb-true j (first_device_word + i * device_words + device_configured_place) z in
          let most : i < most_devices = omega (arith, (device-facts s first_device_word (devices_of s) old).few) in
          rw (q, device-word t i flag n most, device-word s i flag size most)
      both-flagged i flag g j lo hi false z =
          let q = eqb-false j (first_device_word + i * device_words + device_configured_place) z in
          device-frame t i flag j (λ p r. q (omega arith)) ∙ a j lo hi ∙ sym (device-frame s i flag j (λ p r. q (omega arith)))
  turn-back t e n a (sets_orders b o k r) =
      sets_orders (λ j lo hi. b j lo hi ∙ a j lo (omega arith)) o k
      (λ number. rw (sym (orders-shown-same s t (from-orders s t a))) (r number))
