-- `messages::by_type` meets its contract: at each type the definition computes to that arm's message.
-- Assumes nothing.
use mathlib.Core.Path.{sym, ◌∙◌}
use native.Mathlib.Omega.{arith}
use Rattle.messages.proofs.Rules.{well-rules, init-payload, ack-payload, handle-payload}
use Rattle.messages.proofs.by_type.Goals as goal

pub get32-message_type-requires : goal.get32-message_type-requires
get32-message_type-requires c = let w = well-rules _ c.requires in omega arith

pub get16-requires : goal.get16-requires
get16-requires c = let w = well-rules _ c.requires in
    let p = init-payload _ w.1 (sym c.get32-message_type.ensures.0 ∙ c.if-message_type-eq-DS_INIT_REQ.true) in
    omega arith

pub handle_of-handle-requires : goal.handle_of-handle-requires
handle_of-handle-requires c = let w = well-rules _ c.requires in
    let p = handle-payload _ w.1 (λ e. c.if-message_type-eq-DS_INIT_REQ.false (c.get32-message_type.ensures.0 ∙ e)) in
    omega arith

pub get16-requires-in-4 : goal.get16-requires-in-4
get16-requires-in-4 c = let w = well-rules _ c.requires in
    let p = ack-payload _ w.1 (sym c.get32-message_type.ensures.0 ∙ c.in-4.is) in
    omega arith
