-- 02, ticket 9: "a front that takes pieces of any length, 0 too, and keeps at most one unfinished message per channel": its words and bytes, what they keep, and when they
-- are sound.
-- Assumes nothing.
use Rattle.std.specs.Prelude.{ℕ, ◌+◌, ◌-◌, ◌*◌, ◌≡◌, Bool, true, not, List, [], length, get_or, take, drop, replicate, eqb, leb, ltb}
use Rattle.basics.specs.Choice.{pick, ◌and◌, ◌or◌, every, tabulate}
use Rattle.model.specs.Layout.{channel_count, ds_header_bytes, is_set}
use Rattle.model.specs.Messages.{most_payload, payload_length}

-- the longest message: DS's header, and a "payload_len at most 4,096"; an unfinished one has at most a byte less
abbrev pub most_message : ℕ
most_message = ds_header_bytes + most_payload

abbrev pub most_kept : ℕ
most_kept = most_message - 1

-- Two words a channel: how many bytes are kept, and 1 where bytes are dropped. A message's room of bytes a channel, of which those kept are the first.
abbrev pub part_words : ℕ
part_words = 2

abbrev pub front_words : ℕ
front_words = channel_count * part_words

abbrev pub front_bytes : ℕ
front_bytes = channel_count * most_message

pub record Front : Type 0 where
  pub words : List ℕ
  pub bytes : List ℕ

abbrev pub kept_at : Front → ℕ → ℕ
kept_at f c = get_or f.words (c * part_words) 0

abbrev pub dropping_at : Front → ℕ → ℕ
dropping_at f c = get_or f.words (c * part_words + 1) 0

abbrev pub bytes_at : Front → ℕ → List ℕ
bytes_at f c = take (kept_at f c) (drop (c * most_message) f.bytes)

-- what the front of a channel has: it drops what comes, or it keeps the beginning of a message, of no byte too
pub data Part : Type 0 where
  dropping : Part
  keeps : List ℕ → Part

unfoldable pub part_of : Front → ℕ → Part
part_of f c = pick (is_set (dropping_at f c)) dropping (keeps (bytes_at f c))

unfoldable pub parts_of : Front → List Part
parts_of f = tabulate (part_of f) channel_count

-- not "a kept part of 8 or more bytes" that "is not the unfinished beginning of a message with payload_len at most 4,096"
unfoldable pub unfinished : List ℕ → Bool
unfinished p =
    ltb (length p) ds_header_bytes
    or (leb (payload_length p) most_payload and ltb (length p) (ds_header_bytes + payload_length p))

-- Beyond the ticket's sentence a word that no front could mean makes it not sound: more bytes kept than an unfinished message has, a mark above 1, and bytes kept where
-- they are dropped. Bytes after those kept are free.
unfoldable pub front_sound_at : Front → ℕ → Bool
front_sound_at f c =
    leb (kept_at f c) most_kept
    and leb (dropping_at f c) 1
    and (not (is_set (dropping_at f c)) or eqb (kept_at f c) 0)
    and unfinished (bytes_at f c)

unfoldable pub front_sound : Front → Bool
front_sound f = every channel_count (λ c. front_sound_at f c)

-- "keeps at most one unfinished message per channel": what a host begins with, a front whose words are all 0, whatever its bytes, is sound, keeps none and drops no bytes.
pub record Empty (f : Front) : Type 0 where
  pub sounds : front_sound f ≡ true
  pub parts : parts_of f ≡ replicate channel_count (keeps [])

abbrev pub EmptySound : Type 0
EmptySound = (b : List ℕ) → Empty (record { words = replicate front_words 0; bytes = b })
