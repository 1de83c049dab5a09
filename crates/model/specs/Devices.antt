-- 02, ticket 1, "up to 32 devices given at setup": the rules of a device list, and the device that an id and a name name.
-- Assumes nothing.
use Rattle.std.specs.Prelude.{ℕ, ◌+◌, ◌-◌, ◌/◌, ◌%◌, Bool, not, List, length, leb, eqb, Option}
use Rattle.wire.specs.BigEndian.{byte_at}
use Rattle.basics.specs.Choice.{◌and◌, every, first_below}
use Rattle.model.specs.Layout.{Device, device_in, name_bytes_in, name_byte_in, devices_of, most_devices, most_name_bytes, word_bytes, device_words, first_device_word}

-- the words that hold n bytes, and the bytes after those n in the last of them
abbrev pub words_holding : ℕ → ℕ
words_holding n = (n + word_bytes - 1) / word_bytes

abbrev pub padding_bytes : ℕ → ℕ
padding_bytes n = (word_bytes - n % word_bytes) % word_bytes

-- "name of at most 256 bytes with its zero": its last byte is its only zero. The bytes after it in its last word are 0; words after that are free.
unfoldable pub name_keeps : List ℕ → ℕ → ℕ → Bool
name_keeps l at i =
    leb 1 (name_bytes_in l at i)
    and leb (name_bytes_in l at i) most_name_bytes
    and eqb (name_byte_in l at i (name_bytes_in l at i - 1)) 0
    and every (name_bytes_in l at i - 1) (λ k. not (eqb (name_byte_in l at i k) 0))
    and every (padding_bytes (name_bytes_in l at i)) (λ k. eqb (name_byte_in l at i (name_bytes_in l at i + k)) 0)

-- "device id, name .., state, and a busy mark": the state and the mark are 0 or 1
unfoldable pub device_keeps : List ℕ → ℕ → ℕ → Bool
device_keeps l at i =
    leb (device_in l at i).configured 1 and leb (device_in l at i).busy 1 and name_keeps l at i

-- two names are the same: they have as many bytes, and the same
unfoldable pub same_name : List ℕ → List ℕ → Bool
same_name a b = eqb (length a) (length b) and every (length a) (λ k. eqb (byte_at a k) (byte_at b k))

-- an id and a name name the device
unfoldable pub is_device : ℕ → List ℕ → Device → Bool
is_device id name d = eqb d.id id and same_name d.name name

-- no device before device i has its id and name
unfoldable pub device_apart : List ℕ → ℕ → ℕ → Bool
device_apart l at i = every i (λ j. not (is_device (device_in l at i).id (device_in l at i).name (device_in l at j)))

-- "A device list outside these limits, or with an id and name twice, is refused": the n devices whose words stand in l from at on keep the rules
unfoldable pub devices_keep : List ℕ → ℕ → ℕ → Bool
devices_keep l at n = leb n most_devices and every n (device_keeps l at) and every n (device_apart l at)

-- a list of whole devices that keep the rules
unfoldable pub accepted_devices : List ℕ → Bool
accepted_devices l = eqb (length l % device_words) 0 and devices_keep l 0 (length l / device_words)

-- the state's device that an id and a name name, if there is one
unfoldable pub named_device : List ℕ → ℕ → List ℕ → Option ℕ
named_device s id name = first_below (devices_of s) (λ i. is_device id name (device_in s first_device_word i))
