-- The byte's place in what is left, turn by turn.
use Rattle.std.proofs.Common.{arith, add-one}
use Rattle.lines.proofs.Search.{found, passed, at_end}
use Rattle.lines.proofs.scan.find.Goals as goal

pub returns-then-run-i-clause-value : goal.returns-then-run-i-clause-value
returns-then-run-i-clause-value c =
    omega (arith, c.loop-i.invariant, found c.args.b c.args.run.now c.loop-i.i c.args.end (omega arith) (omega arith) c.if-run-i.true)

pub loop-i-preserved : goal.loop-i-preserved
loop-i-preserved c =
    rw add-one (omega (arith, c.loop-i.invariant, passed c.args.b c.args.run.now c.loop-i.i c.args.end (omega arith) (omega arith) c.if-run-i.false))

pub returns-clause-value : goal.returns-clause-value
returns-clause-value c = omega (arith, c.loop-i.invariant, at_end c.args.b c.args.run.now c.loop-i.i c.args.end (omega arith))
