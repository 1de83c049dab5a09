-- The parts of a message, stored one after the other, are the message at the start of the output.
-- Assumes nothing.
use mathlib.Core.Path.{◌≡◌, sym}
use mathlib.Core.List.{List, ◌++◌}
use Prim.Native.Nat.{ℕ, ◌+◌, ◌≤◌}
use native.Mathlib.Omega.{arith}
use lib.ListN.{length, length-append}
use lib.Seq.{sets}
use Rattle.wire.specs.BigEndian.{bytes_of}
use Rattle.wire.proofs.Laws.{length-bytes, sets-written}
use Rattle.model.specs.Messages.{ds_message}
use Rattle.services.specs.Output.{Wrote}

-- a message's header and payload, stored from 0 on, are the message at the start of the output
pub message-stored : (type n : ℕ) (payload l : List ℕ) {r : ℕ} {l' : List ℕ} → n ≡ length payload → r ≡ 8 + n → r ≤ length l
    → l' ≡ sets l 0 (bytes_of 4 type ++ bytes_of 4 n ++ payload) → Wrote (ds_message type payload) l r l'
unfolding ds_message
message-stored type n payload l {r} count size room stored =
    let long : length (ds_message type payload) ≡ r = simp (length-append, length-bytes) (omega arith) in
    record {
      size = sym long;
      output = rw (stored, count) (sets-written (ds_message type payload) l (omega arith));
    }
