-- The rules of devices, and the device that an id and a name name: its name is held in words.
-- Assumes nothing.
use mathlib.Core.Path.{◌≡◌, refl, sym, ◌∙◌}
use mathlib.Core.Bool.{true, false}
use mathlib.Core.List.{List, [], ◌∷◌}
use Prim.Native.Nat.{ℕ, ◌+◌, ◌*◌, ◌/◌, ◌%◌, ◌<◌, ◌≤◌}
use native.Mathlib.Omega.{arith}
use lib.ListN.{length}
use borrow.Author.Tests.{eq-eqb, ne_eqb, eqb-true, le-leb, leb-true}
use Rattle.basics.specs.Choice.{◌and◌, every}
use Rattle.model.specs.Layout.{device_in, device_words, most_devices, most_name_bytes, name_byte_in, name_bytes_in, name_place}
use Rattle.model.specs.Devices.{accepted_devices, device_apart, device_keeps, devices_keep, is_device, name_keeps, same_name}
use Rattle.basics.proofs.Choice.{both, and-false, every-at, each_of}
use Rattle.names.specs.NameWords.{held_byte, held_bytes, padded, holds_name}
use Rattle.names.proofs.Bytes.{and-next}
use Rattle.names.proofs.Names.{NameRules, name-rules}

-- where the words of the name of device i stand
abbrev pub name_from : ℕ → ℕ → ℕ
name_from at i = at + i * device_words + name_place

module _ (l : List ℕ) (at i : ℕ) where
  pub name-held : holds_name l (name_from at i) (name_bytes_in l at i) most_name_bytes ≡ name_keeps l at i
  unfolding name_keeps name_byte_in holds_name padded held_byte
  name-held = refl

  bytes-held : held_bytes l (name_from at i) (name_bytes_in l at i) ≡ (device_in l at i).name
  unfolding device_in name_byte_in held_bytes held_byte
  bytes-held = refl

  pub rules-held : name_keeps l at i ≡ true → NameRules l (name_from at i) (name_bytes_in l at i) most_name_bytes
  rules-held e = name-rules _ _ _ _ (name-held ∙ e)

  -- an id and a name name device i: past the id, the names decide
  pub device-named : (id : ℕ) (b : List ℕ) → (device_in l at i).id ≡ id → same_name (held_bytes l (name_from at i) (name_bytes_in l at i)) b ≡ is_device id b (device_in l at i)
  unfolding is_device
  device-named id b e = rw bytes-held (sym (and-next _ _ (eq-eqb _ _ e)))

  pub id-differs : (id : ℕ) (b : List ℕ) → ((device_in l at i).id ≡ id → ⊥) → false ≡ is_device id b (device_in l at i)
  unfolding is_device
  id-differs id b n = sym (and-false _ _ (ne_eqb _ _ n))

-- the id and the name of device i name device j
pub pair-named : (l : List ℕ) (at i j : ℕ) → (device_in l at j).id ≡ (device_in l at i).id
    → same_name (held_bytes l (name_from at j) (name_bytes_in l at j)) (held_bytes l (name_from at i) (name_bytes_in l at i)) ≡ is_device (device_in l at i).id (device_in l at i).name (device_in l at j)
pair-named l at i j e = rw (bytes-held l at i) (device-named l at j _ _ e)

-- The rules of a device.
module _ (l : List ℕ) (at i : ℕ) where
  pub record DeviceRules : Type 0 where
    pub state : (device_in l at i).configured ≤ 1
    pub mark : (device_in l at i).busy ≤ 1
    pub name : name_keeps l at i ≡ true

  pub device-rules : device_keeps l at i ≡ true → DeviceRules
  unfolding device_keeps
  device-rules e = let h = each_of (_ ∷ _ ∷ _ ∷ []) e in search (arith, leb-true)

  -- where its state and mark keep them, the name decides
  pub device-last : (device_in l at i).configured ≤ 1 → (device_in l at i).busy ≤ 1 → device_keeps l at i ≡ name_keeps l at i
  unfolding device_keeps ◌and◌
  device-last s m = rw (le-leb _ 1 s, le-leb _ 1 m)

-- The rules of a list of devices.
module _ (l : List ℕ) (at n : ℕ) where
  pub devices-few : devices_keep l at n ≡ true → n ≤ most_devices
  unfolding devices_keep
  devices-few e = leb-true _ _ (both _ _ e).0

  pub devices-each : devices_keep l at n ≡ true → every n (device_keeps l at) ≡ true
  unfolding devices_keep
  devices-each e = (both _ _ (both _ _ e).1).0

  -- where they are not too many, and each keeps its rules, they must be apart
  pub devices-last : n ≤ most_devices → every n (device_keeps l at) ≡ true → devices_keep l at n ≡ every n (device_apart l at)
  unfolding devices_keep
  devices-last h e = and-next _ _ (le-leb _ _ h) ∙ and-next _ _ e

pub keeps-name : (l : List ℕ) (at n i : ℕ) → every n (device_keeps l at) ≡ true → i < n → name_keeps l at i ≡ true
keeps-name l at n i e h = (device-rules l at i (every-at _ n i e h)).name

module _ (l : List ℕ) where
  pub accepted-rules : accepted_devices l ≡ true → (length l % device_words ≡ 0) × (length l / device_words ≤ most_devices)
  unfolding accepted_devices
  accepted-rules t = let u = both _ _ t in (eqb-true _ _ u.0, devices-few _ _ _ u.1)

  pub accepted-last : length l % device_words ≡ 0 → accepted_devices l ≡ devices_keep l 0 (length l / device_words)
  unfolding accepted_devices
  accepted-last e = and-next _ _ (eq-eqb _ _ e)
