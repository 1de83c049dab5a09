-- `messages::payload_fits` meets its contract: at each type the definition computes to that arm's test.
-- Assumes nothing.
use native.Mathlib.Omega.{arith}
use Rattle.messages.proofs.Rules.{whole-rules}
use Rattle.messages.proofs.payload_fits.Goals as goal

pub get32-message_type-requires : goal.get32-message_type-requires
get32-message_type-requires c = let w = whole-rules _ c.requires in omega arith

pub get32-payload_len-requires : goal.get32-payload_len-requires
get32-payload_len-requires c = let w = whole-rules _ c.requires in omega arith
