-- `device_list::device_keeps` meets its contract: a state or a mark above 1 breaks the rules, and past them the name decides.
-- Assumes nothing.
use mathlib.Core.Path.{sym, ◌∙◌}
use Rattle.model.specs.Layout.{device_in}
use Rattle.basics.proofs.Loops.{refute}
use Rattle.device_list.proofs.Names.{name-held, device-rules, device-last}
use native.Mathlib.Omega.{arith}
use Rattle.device_list.proofs.device_keeps.Goals as goal

pub returns-then-words-d-gt1 : goal.returns-then-words-d-gt1
unfolding device_in
returns-then-words-d-gt1 c = refute _ (λ t. let r = device-rules _ _ _ t in omega arith)

pub returns-then-words-d-gt1-2 : goal.returns-then-words-d-gt1-2
unfolding device_in
returns-then-words-d-gt1-2 c = refute _ (λ t. let r = device-rules _ _ _ t in omega arith)

pub returns : goal.returns
unfolding device_in
returns c =
    c.holds_name.ensures ∙ name-held _ _ _ ∙ sym (device-last _ _ _ (omega arith) (omega arith))
