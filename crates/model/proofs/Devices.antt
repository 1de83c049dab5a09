-- Devices in words: which words say a device, and what stays of a list of them, and of what is shown, where those words stay.
-- Assumes nothing.
use Prim.Native.Nat.{ℕ, zero, suc, ◌+◌, ◌-◌, ◌*◌, ◌/◌, ◌<◌, ◌≤◌}
use native.Mathlib.Omega.{arith}
use mathlib.Core.Path.{◌≡◌, refl, sym, ap, ◌∙◌}
use mathlib.Core.Bool.{Bool, true, false, not}
use mathlib.Core.List.{List, [], ◌∷◌}
use lib.ListN.{length, get_or, set}
use lib.Dec.{eqb}
use borrow.Author.Tests.{leb-true, le-leb, eqb-true, eqb-false}
use Rattle.basics.specs.Choice.{tabulate}
use Rattle.model.specs.Layout.{Device, no_device, device_in, device_at, name_bytes_in, name_byte_in, devices_of, word_bytes, name_place, name_bytes_place, busy_place, device_configured_place, device_words, most_devices, most_name_bytes, device_count_word, first_device_word, first_permission_word, state_words, with_device}
use Rattle.model.specs.Devices.{words_holding, padding_bytes, name_keeps, device_keeps, is_device, device_apart, devices_keep}
use Rattle.model.specs.Reading.{devices_shown, as_now, device_now}
use Rattle.basics.proofs.Choice.{both, join, every-at, every-make, every-same, tabulate-same, tabulate-set, tabulate-at}
use Rattle.model.proofs.Words.{Agree, device-frame, device-word}

-- The words that say device i, whether it is configured left out, are the same in both lists.
abbrev pub SameWords : List ℕ → List ℕ → ℕ → ℕ → ℕ → Type 0
SameWords l t at to i =
    (j : ℕ) →
    j < name_place + words_holding (name_bytes_in l at i) →
    (j ≡ device_configured_place → ⊥) →
    get_or t (to + i * device_words + j) 0 ≡ get_or l (at + i * device_words + j) 0

module _ (l t : List ℕ) (at to i : ℕ) (a : SameWords l t at to i) where
  word_same : (j k m : ℕ) → j ≡ to + i * device_words + m → k ≡ at + i * device_words + m → m < name_place + words_holding (name_bytes_in l at i) → (m ≡ device_configured_place → ⊥) → get_or t j 0 ≡ get_or l k 0
  word_same j k m p q h n =
      ap (λ (x : ℕ). get_or t x 0) p ∙ a m h n ∙ sym (ap (λ (x : ℕ). get_or l x 0) q)

  bytes_same : name_bytes_in t to i ≡ name_bytes_in l at i
  bytes_same = a name_bytes_place (omega arith) (omega arith)

  byte-same : (k : ℕ) → k < words_holding (name_bytes_in l at i) * word_bytes → name_byte_in t to i k ≡ name_byte_in l at i k
  unfolding name_byte_in
  byte-same k h = rw (word_same (to + i * device_words + name_place + k / word_bytes) (at + i * device_words + name_place + k / word_bytes) (name_place + k / word_bytes) (omega arith) (omega arith) (omega arith) (omega arith))

  pub name-same : (device_in t to i).name ≡ (device_in l at i).name
  unfolding device_in
  name-same =
      rw bytes_same
      (tabulate-same (name_byte_in l at i) (name_byte_in t to i) (name_bytes_in l at i) 0 (λ k h. byte-same k (omega arith)))

  pub id_same : (device_in t to i).id ≡ (device_in l at i).id
  unfolding device_in
  id_same = word_same _ _ 0 (omega arith) (omega arith) (omega arith) (omega arith)

  pub busy-same : (device_in t to i).busy ≡ (device_in l at i).busy
  unfolding device_in
  busy-same = a busy_place (omega arith) (omega arith)

  name-keeps : name_keeps l at i ≡ true → name_keeps t to i ≡ true
  unfolding name_keeps
  name-keeps e =
      let p = both _ _ e in
      let q = both _ _ p.1 in
      let r = both _ _ q.1 in
      let some = leb-true 1 (name_bytes_in l at i) p.0 in
      rw (
        bytes_same,
        byte-same (name_bytes_in l at i - 1) (omega arith),
        every-same (λ k. not (eqb (name_byte_in l at i k) 0)) (λ k. not (eqb (name_byte_in t to i k) 0)) (name_bytes_in l at i - 1) (λ k h. rw (byte-same k (omega arith))),
        every-same (λ k. eqb (name_byte_in l at i (name_bytes_in l at i + k)) 0) (λ k. eqb (name_byte_in t to i (name_bytes_in l at i + k)) 0) (padding_bytes (name_bytes_in l at i)) (λ k h. rw (byte-same (name_bytes_in l at i + k) (omega arith))),
      )
      e

  pub device-keeps : (device_in t to i).configured ≤ 1 → device_keeps l at i ≡ true → device_keeps t to i ≡ true
  unfolding device_keeps
  device-keeps flag e =
      let p = both _ _ e in
      let q = both _ _ p.1 in
      join _ _ (le-leb _ 1 flag) (join _ _ (rw busy-same q.0) (name-keeps q.1))

  pub is_same : (id : ℕ) (name : List ℕ) → is_device id name (device_in t to i) ≡ is_device id name (device_in l at i)
  unfolding is_device
  is_same id name = rw (id_same, name-same)

  pub device-same : (device_in t to i).configured ≡ (device_in l at i).configured → device_in t to i ≡ device_in l at i
  device-same e = λ x. record { id = id_same x; configured = e x; busy = busy-same x; name = name-same x }

-- A list of devices, as facts.
pub record DeviceFacts (l : List ℕ) (at n : ℕ) : Type 0 where
  pub few : n ≤ most_devices
  pub keeps : (i : ℕ) → i < n → device_keeps l at i ≡ true
  pub apart : (i : ℕ) → i < n → device_apart l at i ≡ true

pub device-facts : (l : List ℕ) (at n : ℕ) → devices_keep l at n ≡ true → DeviceFacts l at n
unfolding devices_keep
device-facts l at n e =
    let p = both _ _ e in
    let q = both _ _ p.1 in
    record {
      few = leb-true n most_devices p.0;
      keeps = λ i h. every-at (device_keeps l at) n i q.0 h;
      apart = λ i h. every-at (device_apart l at) n i q.1 h;
    }

pub device-test : (l : List ℕ) (at n : ℕ) → DeviceFacts l at n → devices_keep l at n ≡ true
unfolding devices_keep
device-test l at n f =
    join _ _ (le-leb n most_devices f.few) (join _ _ (every-make (device_keeps l at) n f.keeps) (every-make (device_apart l at) n f.apart))

-- a name that keeps its rules has at most its words
pub name-few : (l : List ℕ) (at i : ℕ) → device_keeps l at i ≡ true → name_bytes_in l at i ≤ most_name_bytes
unfolding device_keeps name_keeps
name-few l at i e =
    let p = both _ _ (both _ _ (both _ _ e).1).1 in
    leb-true _ most_name_bytes (both _ _ p.1).0

pub flag-few : (l : List ℕ) (at i : ℕ) → device_keeps l at i ≡ true → (device_in l at i).configured ≤ 1
unfolding device_keeps
flag-few l at i e = leb-true _ 1 (both _ _ e).0

-- the rules stay where those words stay and each flag is 0 or 1
pub devices-keep : (l t : List ℕ) (at to n : ℕ) → ((i : ℕ) → i < n → SameWords l t at to i) → ((i : ℕ) → i < n → (device_in t to i).configured ≤ 1) → devices_keep l at n ≡ true → devices_keep t to n ≡ true
devices-keep l t at to n a flags e =
    let f = device-facts l at n e in
    device-test t to n
    (record {
      few = f.few;
      keeps = λ i h. device-keeps l t at to i (a i h) (flags i h) (f.keeps i h);
      apart = λ i h. apart i h (f.apart i h);
    })
  where
    apart : (i : ℕ) → i < n → device_apart l at i ≡ true → device_apart t to i ≡ true
    apart i h old =
        unfold device_apart in
        (rw (id_same l t at to i (a i h), name-same l t at to i (a i h))
        (every-make (λ j. not (is_device (device_in l at i).id (device_in l at i).name (device_in t to j))) i
        (λ j g.
        rw (is_same l t at to j (a j (omega arith)) (device_in l at i).id (device_in l at i).name)
        (every-at (λ j. not (is_device (device_in l at i).id (device_in l at i).name (device_in l at j))) i j (unfold device_apart in old) g))))

-- Of two states.
module _ (s t : List ℕ) (a : Agree s t device_count_word first_permission_word) (e : devices_keep s first_device_word (devices_of s) ≡ true) where
  facts : DeviceFacts s first_device_word (devices_of s)
  facts = device-facts s first_device_word (devices_of s) e

  count_same : devices_of t ≡ devices_of s
  count_same = a device_count_word (omega arith) (omega arith)

  words_same : (i : ℕ) → i < devices_of s → SameWords s t first_device_word first_device_word i
  words_same i h j l n =
      let few = facts.few in
      let short = name-few s first_device_word i (facts.keeps i h) in
      a (first_device_word + i * device_words + j) (omega arith) (omega arith)

  flag_same : (i : ℕ) → i < devices_of s → (device_at t i).configured ≡ (device_at s i).configured
  unfolding device_in
  flag_same i h =
      let few = facts.few in
      a (first_device_word + i * device_words + device_configured_place) (omega arith) (omega arith)

  pub devices-same : devices_keep t first_device_word (devices_of t) ≡ true
  devices-same =
      rw count_same
      (devices-keep s t first_device_word first_device_word (devices_of s) words_same
      (λ i h. rw (flag_same i h) (flag-few s first_device_word i (facts.keeps i h)))
      e)

  pub shown-same : devices_shown t ≡ devices_shown s
  unfolding devices_shown
  shown-same =
      rw count_same
      (tabulate-same (device_at s) (device_at t) (devices_of s) no_device
      (λ i h. device-same s t first_device_word first_device_word i (words_same i h) (flag_same i h)))

-- a device now configured or not, in a list
now-set : (i flag : ℕ) (ds : List Device) → device_now i flag ds ≡ set ds i (as_now flag (get_or ds i no_device))
unfolding device_now
now-set i flag [] = refl
now-set zero flag (d ∷ ds) = refl
now-set (suc i) flag (d ∷ ds) = ap (λ (x : List Device). d ∷ x) (now-set i flag ds)

-- One device's flag changed.
module _ (s : List ℕ) (i flag : ℕ) (size : length s ≡ state_words) (h : i < devices_of s) (small : flag ≤ 1) (e : devices_keep s first_device_word (devices_of s) ≡ true) where
  few : devices_of s ≤ most_devices
  few = (device-facts s first_device_word (devices_of s) e).few

  flagged : List ℕ
  flagged = with_device s i flag

  count-flagged : devices_of flagged ≡ devices_of s
  unfolding flagged
  count-flagged = device-frame s i flag device_count_word (λ p q. omega arith)

  words-flagged : (k : ℕ) → k < devices_of s → SameWords s flagged first_device_word first_device_word k
  unfolding flagged
  words-flagged k g j l n =
      let short = name-few s first_device_word k ((device-facts s first_device_word (devices_of s) e).keeps k g) in
      device-frame s i flag (first_device_word + k * device_words + j) (λ p q. n (omega arith))

  flag-here : (device_at flagged i).configured ≡ flag
  unfolding device_in flagged
  flag-here = device-word s i flag size (omega (arith, few))

  flag-other : (k : ℕ) → (k ≡ i → ⊥) → (device_at flagged k).configured ≡ (device_at s k).configured
  unfolding device_in flagged
  flag-other k n = device-frame s i flag (first_device_word + k * device_words + device_configured_place) (λ p q. n (omega arith))

  pub devices-flagged : devices_keep (with_device s i flag) first_device_word (devices_of (with_device s i flag)) ≡ true
  unfolding flagged
  devices-flagged =
      rw count-flagged
      (devices-keep s flagged first_device_word first_device_word (devices_of s) words-flagged
      (λ k g. go k g (eqb k i) refl)
      e)
    where
      go : (k : ℕ) → k < devices_of s → (b : Bool) → eqb k i ≡ b → (device_at flagged k).configured ≤ 1
      go k g true z = let q = eqb-true k i z in rw (q, flag-here) small
      go k g false z =
          rw (flag-other k (eqb-false k i z))
          (flag-few s first_device_word k ((device-facts s first_device_word (devices_of s) e).keeps k g))

  pub shown-flagged : devices_shown (with_device s i flag) ≡ device_now i flag (devices_shown s)
  unfolding devices_shown flagged
  shown-flagged =
      rw (count-flagged, now-set i flag (tabulate (device_at s) (devices_of s)), tabulate-at (device_at s) (devices_of s) i no_device h)
      (tabulate-set (device_at s) (device_at flagged) (devices_of s) no_device i (as_now flag (device_at s i))
      (λ _. here)
      (λ k g n. device-same s flagged first_device_word first_device_word k (words-flagged k g) (flag-other k n)))
    where
      w : SameWords s flagged first_device_word first_device_word i
      w = words-flagged i h

      here : device_at flagged i ≡ as_now flag (device_at s i)
      here =
          unfold as_now in
          (λ x. record {
            id = id_same s flagged first_device_word first_device_word i w x;
            configured = flag-here x;
            busy = busy-same s flagged first_device_word first_device_word i w x;
            name = name-same s flagged first_device_word first_device_word i w x;
          })
