use Rattle.std.proofs.Common.{◌∙◌}
use Rattle.lines.proofs.Numbers.{hexadecimal, decimal}
use Rattle.lines.proofs.fields.number_in.Goals as goal

pub returns-in-Some : goal.returns-in-Some
returns-in-Some c = c.digits.ensures ∙ hexadecimal _ _ c.in-Some.ensures.cases.0 c.in-Some.ensures.cases.1

pub returns-in-None : goal.returns-in-None
returns-in-None c = c.digits-in-None.ensures ∙ decimal _ c.in-None.ensures.cases
