-- The changes of a front: of one channel, its words and the bytes of its room.
-- Assumes nothing.
use Rattle.std.specs.Prelude.{ℕ, ◌+◌, ◌*◌, ◌<◌, ◌≡◌, true, List, length, set}
use Rattle.std.proofs.lemmas.List.Edits.{sets}
use Rattle.model.specs.Layout.{channel_count}
use Rattle.front_model.specs.Front.{Front, part_words, front_bytes, front_sound, front_words, most_message}

-- a channel's two words
abbrev pub with_words : List ℕ → ℕ → ℕ → ℕ → List ℕ
with_words words c kept dropping = set (set words (c * part_words) kept) (c * part_words + 1) dropping

-- bytes after the first n of a channel's room
abbrev pub with_bytes : List ℕ → ℕ → ℕ → List ℕ → List ℕ
with_bytes bytes c n v = sets bytes (c * most_message + n) v

-- a sound front, and a channel of it
pub record Fronts (f : Front) (c : ℕ) : Type 0 where
  pub words : length f.words ≡ front_words
  pub bytes : length f.bytes ≡ front_bytes
  pub sounds : front_sound f ≡ true
  pub within : c < channel_count
