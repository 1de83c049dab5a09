-- `registration::is_refused` meets its contract: the cases of the definition.
-- Assumes nothing.
use mathlib.Core.Path.{sym, ap, ◌∙◌}
use Prim.Native.Nat.{ℕ}
use native.Mathlib.Omega.{arith}
use lib.Dec.{leb}
use borrow.Author.Tests.{le-leb}
use Rattle.model.specs.Layout.{most_peers}
use Rattle.basics.proofs.Choice.{clash}
use Rattle.registration.proofs.Laws.{by_bit, by-handle, by_count}
use Rattle.registration.proofs.is_refused.Goals as goal
use Rattle.registration.proofs.is_refused.Goals.{then-handle-ge-TOP_BIT, else-handle-ge-TOP_BIT}

pub returns-then-has_handle : goal.returns-then-has_handle
returns-then-has_handle c =
    let a = c.args in
    c.if-has_handle.true
    ∙ elim c.if-handle-ge-TOP_BIT.branch [
      | then-handle-ge-TOP_BIT w ↦ sym (by_bit a.state.now a.channel a.handle (omega arith))
      | else-handle-ge-TOP_BIT w ↦
          sym (by-handle a.state.now a.channel a.handle (omega arith) (sym w.has_handle.ensures ∙ sym w.value-is ∙ c.if-has_handle.true))
    ]

pub returns-else-has_handle : goal.returns-else-has_handle
returns-else-has_handle c =
    let a = c.args in
    ap (λ (n : ℕ). leb most_peers n) c.count.ensures
    ∙ elim c.if-handle-ge-TOP_BIT.branch [
      | then-handle-ge-TOP_BIT w ↦ absurd (clash _ c.if-has_handle.false (w.value-is ∙ le-leb _ _ w.if-handle-ge-TOP_BIT.true))
      | else-handle-ge-TOP_BIT w ↦
          sym (by_count a.state.now a.channel a.handle (omega arith) (sym w.has_handle.ensures ∙ sym w.value-is ∙ c.if-has_handle.false))
    ]
