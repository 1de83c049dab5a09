use Rattle.std.proofs.Common.{length, arith, lt-ltb}
use Rattle.basics.specs.Choice.{◌and◌}
use Rattle.lines.specs.Fields.{is_comment}
use native.Mathlib.Omega.{arith}
use Rattle.lines.proofs.fields.is_comment.Goals as goal

pub returns-then-line-ne0 : goal.returns-then-line-ne0
unfolding is_comment ◌and◌
returns-then-line-ne0 c = rw (lt-ltb 0 (length c.args.line.now) (omega (arith, c.if-line-ne0.true)))

pub returns-else-line-ne0 : goal.returns-else-line-ne0
unfolding is_comment ◌and◌
returns-else-line-ne0 c = rw c.if-line-ne0.false
