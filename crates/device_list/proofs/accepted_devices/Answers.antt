-- `device_list::accepted_devices` meets its contract: each early answer breaks a rule, and past them the devices decide.
-- Assumes nothing.
use mathlib.Core.Path.{sym, ◌∙◌}
use native.Mathlib.Omega.{arith}
use Rattle.basics.proofs.Loops.{refute}
use Rattle.device_list.proofs.Names.{accepted-rules, accepted-last}
use Rattle.device_list.proofs.accepted_devices.Goals as goal

pub returns-then-l-ne0 : goal.returns-then-l-ne0
returns-then-l-ne0 c = refute _ (λ t. let r = accepted-rules _ t in omega arith)

pub returns-then-n-gt-MOST_DEVICES : goal.returns-then-n-gt-MOST_DEVICES
returns-then-n-gt-MOST_DEVICES c = refute _ (λ t. let r = accepted-rules _ t in omega arith)

pub returns : goal.returns
returns c = c.keep_rules.ensures ∙ sym (accepted-last _ (omega arith))
