-- `lines::output::Output::put_decimal` meets its contract: the fewest digits are the number in decimal.
-- Assumes nothing.
use Rattle.std.proofs.Common.{◌≤◌, arith, length-take}
use Rattle.lines.specs.Forms.{decimal_places}
use Rattle.lines.proofs.Puts.{fewest-short, puts-decimal, puts-within}
use native.Mathlib.Omega.{arith}
use Rattle.lines.proofs.output.Output.put_decimal.Goals as goal

pub put-requires : goal.put-requires
put-requires c =
    let d : _ = c.before.before.decimal-count in
    let n : _ = c.before.before.before.before.args.n in
    let short : d.result ≤ decimal_places = fewest-short n d.result (omega arith) d.ensures.len in
    simp length-take (omega arith)

pub returns : goal.returns
returns c =
    let d : _ = c.before.before.before.decimal-count in
    let n : _ = c.before.before.before.before.before.args.n in
    let short : d.result ≤ decimal_places = fewest-short n d.result (omega arith) d.ensures.len in
    puts-within _ (simp length-take (omega arith))
    (puts-decimal n d.result d.new.out (omega arith) d.ensures.len d.ensures.digits c.put.ensures)
