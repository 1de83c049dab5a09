-- `lines::output::Output::put_shown` meets its contract, by what the byte stands for.
-- Assumes nothing.
use Rattle.std.proofs.Common.{arith, le-ltb, lt-ltb, ne_eqb}
use Rattle.basics.specs.Choice.{pick}
use Rattle.lines.specs.Forms.{shown}
use Rattle.lines.proofs.Puts.{puts-within}
use native.Mathlib.Omega.{arith}
use Rattle.lines.proofs.output.Output.put_shown.Goals as goal

pub returns-then-b-lt-NUMBERS : goal.returns-then-b-lt-NUMBERS
unfolding shown pick
returns-then-b-lt-NUMBERS c = rw (lt-ltb _ 4 c.if-b-lt-NUMBERS.true) c.put_decimal.ensures

pub returns-then-b-lt-PAST_WORDS : goal.returns-then-b-lt-PAST_WORDS
unfolding shown pick
returns-then-b-lt-PAST_WORDS c =
    rw (le-ltb _ 4 c.if-b-lt-NUMBERS.false, lt-ltb _ 6 c.if-b-lt-PAST_WORDS.true) (puts-within _ (omega arith) c.put_word.ensures)

pub returns-then-b-eq-NAME : goal.returns-then-b-eq-NAME
unfolding shown pick
returns-then-b-eq-NAME c =
    rw (le-ltb _ 4 c.if-b-lt-NUMBERS.false, le-ltb _ 6 c.if-b-lt-PAST_WORDS.false, c.if-b-eq-NAME.true)
    (puts-within _ (omega arith) c.put.ensures)

pub returns : goal.returns
unfolding shown pick
returns c =
    rw (le-ltb _ 4 c.if-b-lt-NUMBERS.false, le-ltb _ 6 c.if-b-lt-PAST_WORDS.false, ne_eqb _ 6 c.if-b-eq-NAME.false)
    (puts-within _ (omega arith) c.put_byte.ensures)
