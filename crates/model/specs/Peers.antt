-- 02, ticket 7, "ids .. that the host lists at setup": the rules of an id list, and of a channel's peer registrations.
-- Assumes nothing.
use Rattle.std.specs.Prelude.{ℕ, zero, suc, ◌+◌, ◌-◌, ◌/◌, ◌%◌, Bool, not, List, length, leb, ltb, eqb, Option}
use Rattle.basics.specs.Choice.{◌and◌, ◌or◌, every, first_below}
use Rattle.model.specs.Layout.{id_in, id_bytes_in, id_byte_in, ids_of, id_at, peered_at, peer_handle_at, peer_minor_at, most_ids, most_id_bytes, most_peers, highest_minor, id_words}
use Rattle.model.specs.Devices.{padding_bytes, same_name}

-- "A handle with the top bit": our handles have it, a peer's have not
abbrev pub top_bit : ℕ
top_bit = 9223372036854775808

-- "at most 32 bytes with the zero": its last byte is its only zero; the bytes after it in its last word are 0
unfoldable pub id_bytes_keep : List ℕ → ℕ → ℕ → Bool
id_bytes_keep l at p =
    leb 1 (id_bytes_in l at p)
    and leb (id_bytes_in l at p) most_id_bytes
    and eqb (id_byte_in l at p (id_bytes_in l at p - 1)) 0
    and every (id_bytes_in l at p - 1) (λ k. not (eqb (id_byte_in l at p k) 0))
    and every (padding_bytes (id_bytes_in l at p)) (λ k. eqb (id_byte_in l at p (id_bytes_in l at p + k)) 0)

-- "with major and highest minor", of 16 bits each
unfoldable pub id_keeps : List ℕ → ℕ → ℕ → Bool
id_keeps l at p = leb (id_in l at p).major highest_minor and leb (id_in l at p).minor highest_minor and id_bytes_keep l at p

-- "up to 16 different ids": no id before id p has its bytes
unfoldable pub id_apart : List ℕ → ℕ → ℕ → Bool
id_apart l at p = every p (λ q. not (same_name (id_in l at q).bytes (id_in l at p).bytes))

-- "the id list keeps its limits": the n ids whose words stand in l from at on
unfoldable pub ids_keep : List ℕ → ℕ → ℕ → Bool
ids_keep l at n = leb n most_ids and every n (id_keeps l at) and every n (id_apart l at)

-- a list of whole ids that keep the rules
unfoldable pub accepted_ids : List ℕ → Bool
accepted_ids l = eqb (length l % id_words) 0 and ids_keep l 0 (length l / id_words)

-- the place of the listed id that has these bytes, if there is one
unfoldable pub listed_id : List ℕ → List ℕ → Option ℕ
listed_id s bytes = first_below (ids_of s) (λ p. same_name (id_at s p).bytes bytes)

-- the peer has id p registered on channel c; the one that it has under a handle, if there is one
abbrev pub is_peered : List ℕ → ℕ → ℕ → Bool
is_peered s c p = eqb (peered_at s c p) 1

abbrev pub peered_as : List ℕ → ℕ → ℕ → ℕ → Bool
peered_as s c handle p = is_peered s c p and eqb (peer_handle_at s c p) handle

abbrev pub peer_for : List ℕ → ℕ → ℕ → Option ℕ
peer_for s c handle = first_below most_ids (peered_as s c handle)

-- how many registrations a channel has
unfoldable pub peers_below : List ℕ → ℕ → ℕ → ℕ
peers_below s c zero = 0
peers_below s c (suc p) = peers_below s c p + peered_at s c p

-- "a closed channel has no peer registrations, a ready one at most eight, whose handles lack that bit and differ there, as do their ids, each listed, with no
-- minor above the list's": ids differ since each has one place, and no two places the same id
unfoldable pub peer_sound : List ℕ → ℕ → ℕ → ℕ → Bool
peer_sound s ready c p =
    eqb (peered_at s c p) 0
    or (eqb ready 1
    and ltb p (ids_of s)
    and ltb (peer_handle_at s c p) top_bit
    and leb (peer_minor_at s c p) (id_at s p).minor)

unfoldable pub peer_apart : List ℕ → ℕ → ℕ → Bool
peer_apart s c p =
    eqb (peered_at s c p) 0
    or every p (λ q. eqb (peered_at s c q) 0 or not (eqb (peer_handle_at s c q) (peer_handle_at s c p)))

unfoldable pub peers_sound : List ℕ → ℕ → ℕ → Bool
peers_sound s ready c =
    every most_ids (peer_sound s ready c) and every most_ids (peer_apart s c) and leb (peers_below s c most_ids) most_peers
