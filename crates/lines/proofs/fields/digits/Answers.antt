use Rattle.std.proofs.Common.{get_or, sym, refl, ap, ◌∙◌, arith}
use Rattle.basics.specs.Choice.{every}
use Rattle.lines.specs.Fields.{value_of, appended}
use Rattle.lines.proofs.Numbers.{no-digits, stops, goes_on_lem, ended}
use native.Mathlib.Omega.{arith}
use Rattle.lines.proofs.fields.digits.Goals as goal

pub returns-then-field-eq0 : goal.returns-then-field-eq0
returns-then-field-eq0 c = no-digits _ _ c.if-field-eq0.true

pub loop-b-init : goal.loop-b-init
unfolding value_of every
loop-b-init c = (refl, refl, omega arith)

pub returns-in_err-value : goal.returns-in_err-value
returns-in_err-value c =
    let field = c.args.field.now in
    let e = ap (λ v. appended c.args.base v (get_or field c.loop-b.b-index 0)) (sym c.loop-b.invariant.0) ∙ sym c.with_digit.ensures ∙ c.in_err-value.was in
    c.from_residual.ensures ∙ stops c.args.base field c.loop-b.b-index (omega arith) (omega arith) e

pub loop-b-preserved : goal.loop-b-preserved
loop-b-preserved c =
    let field = c.args.field.now in
    let e = ap (λ v. appended c.args.base v (get_or field c.loop-b.b-index 0)) (sym c.loop-b.invariant.0) ∙ sym c.with_digit.ensures ∙ c.in_ok-value.was in
    goes_on_lem c.args.base field c.loop-b.b-index c.in_ok-value.value c.loop-b.invariant.1 e

pub returns : goal.returns
returns c =
    ended c.args.base c.args.field.now c.loop-b.b-index c.loop-b.value c.if-field-eq0.false (omega arith) c.loop-b.invariant.1 c.loop-b.invariant.0 c.loop-b.invariant.2
