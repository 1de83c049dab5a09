use Rattle.std.proofs.Common.{◌∙◌, arith}
use Rattle.lines.proofs.Numbers.{no_digit, too_large, added}
use native.Mathlib.Omega.{arith}
use Rattle.lines.proofs.fields.with_digit.Goals as goal

pub returns-in_err-digit : goal.returns-in_err-digit
returns-in_err-digit c = c.from_residual.ensures ∙ no_digit _ _ _ c.from.result c.from.ensures c.in_err-digit.ensures.value

pub returns-in_err-checked_mul : goal.returns-in_err-checked_mul
returns-in_err-checked_mul c = c.from_residual-in_err-checked_mul.ensures ∙ too_large _ _ _ (rw (← c.from-2.ensures) (omega (arith, c.in_err-checked_mul.ensures)))

pub returns : goal.returns
returns c =
    added _ _ _ c.in_ok-checked_mul.field-0 c.from-3.result c.checked_add.result (rw c.from.ensures at c.in_ok-digit.ensures.value.0) (rw c.from-2.ensures at c.in_ok-checked_mul.ensures.1) (rw c.from.ensures at (c.from-3.ensures ∙ c.in_ok-digit.ensures.value.1)) c.checked_add.ensures
