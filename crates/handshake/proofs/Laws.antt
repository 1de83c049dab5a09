-- What the calls' proofs use: an answer with and without words, and what is known of a sound end.
-- Assumes nothing.
use mathlib.Core.Path.{◌≡◌, refl}
use mathlib.Core.List.{List}
use Prim.Native.Nat.{ℕ}
use Rattle.vio_message.specs.declared.Words.{Words}
use Rattle.vio_model.specs.Calls.{message_words, sending, silent}
use Rattle.vio_model.proofs.Kept.{receive-fits, start_fits}
use Rattle.vio_model.proofs.Words.{sound-facts}
use Rattle.vio_versions.proofs.Tests.{ands, picks}

pub silent_is : (refusal : ℕ) (w : List ℕ) → silent refusal w ≡ record { refusal = refusal; count = 0; first = 0; second = 0; end = w }
unfolding silent
silent_is refusal w = refl

pub sending_is : (s : Words) (w : List ℕ) → sending s w ≡ record { refusal = 0; count = message_words; first = s.first; second = s.second; end = w }
unfolding sending
sending_is s w = refl

pub ruleset calls = (ands, picks, silent_is, sending_is, sound-facts, start_fits, receive-fits)
