-- `blocks::keep_rules` meets its contract: every block passed keeps the rules, and the floor is the end of the last of them.
-- Assumes nothing.
use mathlib.Core.Bool.{true}
use mathlib.Core.Path.{◌≡◌}
use Rattle.model.specs.Blocks.{block_keeps, end_before}
use Rattle.basics.specs.Choice.{every}
use Rattle.model.specs.Layout.{block_in}
use Rattle.blocks.proofs.keep_rules.Given as goal

abbrev pub invariant-loop-i : goal.invariant-loop-i
invariant-loop-i l = (l.floor ≡ end_before l.words l.at l.i) × (every l.i (λ k. block_keeps (block_in l.words l.at k) (end_before l.words l.at k)) ≡ true)
