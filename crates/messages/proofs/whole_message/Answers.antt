-- `messages::whole_message` meets its contract: each answer refutes the test, or is its last part.
-- Assumes nothing.
use mathlib.Core.Path.{sym, ◌∙◌}
use native.Mathlib.Omega.{arith}
use borrow.Author.Tests.{lt-leb}
use Rattle.basics.proofs.Loops.{refute}
use Rattle.messages.proofs.Rules.{whole-rules, whole-last}
use Rattle.messages.proofs.whole_message.Goals as goal

pub returns-then-m-lt-DS_HEADER_BYTES : goal.returns-then-m-lt-DS_HEADER_BYTES
returns-then-m-lt-DS_HEADER_BYTES c = refute _ (λ t. let r = whole-rules _ t in omega arith)

pub returns-then-payload_len-le-MOST_PAYLOAD : goal.returns-then-payload_len-le-MOST_PAYLOAD
returns-then-payload_len-le-MOST_PAYLOAD c =
    let read = c.get32-payload_len.ensures.0 in rw (read) (sym (whole-last _ (omega arith)))

pub returns-else-payload_len-le-MOST_PAYLOAD : goal.returns-else-payload_len-le-MOST_PAYLOAD
returns-else-payload_len-le-MOST_PAYLOAD c =
    lt-leb _ _ c.if-payload_len-le-MOST_PAYLOAD.false ∙ refute _ (λ t. let r = whole-rules _ t in omega arith)
