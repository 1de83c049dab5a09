use Rattle.std.proofs.Common.{◌++◌, drop, set, sym, refl, ap, ◌∙◌, arith, length-set}
use Rattle.basics.specs.Choice.{tabulate}
use Rattle.basics.proofs.Loops.{every-none, every_more}
use Rattle.lines.specs.Fields.{byte_of}
use Rattle.lines.proofs.Bytes.{table_more, no-pair, a_pair, none-to-read, odd-to-read, no_room, bad-pair, all_read}
use native.Mathlib.Omega.{arith}
use Rattle.lines.proofs.fields.bytes_in.Goals as goal

pub returns-then-field-eq0 : goal.returns-then-field-eq0
returns-then-field-eq0 c = none-to-read _ _ _ c.if-field-eq0.true

pub returns-then-field-ne0 : goal.returns-then-field-ne0
returns-then-field-ne0 c = odd-to-read _ _ _ c.if-field-ne0.true

pub returns-then-into-count : goal.returns-then-into-count
returns-then-into-count c = no_room _ _ _ c.if-into-count.true

pub loop-i-init : goal.loop-i-init
unfolding tabulate
loop-i-init c = (refl, every-none _, refl)

pub loop-i-preserved : goal.loop-i-preserved
loop-i-preserved c =
    let loop = c.loop-i in
    let field = c.args.field.now in
    let into = c.args.into.now in
    let q = a_pair _ _ c.in_ok-into.field-0 (sym c.pair.ensures ∙ c.in_ok-into.was) in (
      length-set loop.into loop.i c.in_ok-into.field-0 ∙ loop.invariant.0,
      every_more _ _ loop.invariant.1 q.0,
      ap (λ l. set l loop.i c.in_ok-into.field-0) loop.invariant.2
          ∙ ap (λ v. set (tabulate (λ k. byte_of field k) loop.i ++ drop loop.i into) loop.i v) q.1
          ∙ table_more (λ k. byte_of field k) into loop.i (omega (arith, loop.invariant.0)),
    )

pub returns-in_err-into : goal.returns-in_err-into
returns-in_err-into c =
    rw c.from_residual.ensures (bad-pair _ _ _ c.loop-i.i (omega arith) (no-pair _ _ (sym c.pair.ensures ∙ c.in_err-into.was)))

pub returns : goal.returns
returns c =
    all_read _ _ _ c.loop-i.i c.if-field-eq0.false c.if-field-ne0.false
    (omega (arith, c.if-into-count.false)) (omega arith) c.loop-i.invariant.1 c.loop-i.invariant.2
