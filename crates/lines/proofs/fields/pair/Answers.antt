use Rattle.std.proofs.Common.{◌∙◌}
use Rattle.lines.proofs.Bytes.{no-high, no-low, two_digits}
use Rattle.lines.proofs.fields.pair.Goals as goal

pub returns-in_err-h : goal.returns-in_err-h
returns-in_err-h c = c.from_residual.ensures ∙ no-high _ _ c.from.result c.from.ensures c.in_err-h.ensures.value

pub returns-in_err-l : goal.returns-in_err-l
returns-in_err-l c = c.from_residual-in_err-l.ensures ∙ no-low _ _ c.from-2.result c.from-2.ensures c.in_err-l.ensures.value

pub returns : goal.returns
returns c =
    two_digits _ _ c.from.result c.from-2.result c.from.ensures c.from-2.ensures c.in_ok-h.ensures.value c.in_ok-l.ensures.value
