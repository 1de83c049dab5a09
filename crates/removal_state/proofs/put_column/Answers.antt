use native.Mathlib.Omega.{arith}
use Prim.Native.Nat.{ℕ, ◌+◌, ◌*◌}
use mathlib.Core.Path.{refl, ◌∙◌}
use Rattle.wire.specs.BigEndian.{number_at}
use Rattle.basics.specs.Choice.{tabulate}
use Rattle.model.specs.Layout.{most_records, pair_bytes}
use Rattle.basics.proofs.Choice.{tabulate-at, tabulate-length}
use Rattle.state.proofs.Runs.{sets_more, sets-done}
use Rattle.removal_state.proofs.put_column.Goals as goal

pub loop-i-preserved : goal.loop-i-preserved
loop-i-preserved c =
    let l = c.loop-i in
    let f : ℕ → ℕ = λ k. number_at c.args.b.now (c.args.at + k * pair_bytes) 8 in
    let e = tabulate-length f most_records in
    rw (l.invariant, c.number_of.ensures, ← tabulate-at f most_records l.i 0 (omega arith)) (sets_more _ (tabulate f most_records) c.args.word l.i 0 (omega arith))

pub returns : goal.returns
returns c =
    let l = c.loop-i in
    let f : ℕ → ℕ = λ k. number_at c.args.b.now (c.args.at + k * pair_bytes) 8 in
    let e = tabulate-length f most_records in
    l.invariant ∙ sets-done _ (tabulate f most_records) c.args.word l.i (omega arith)

pub loop-i-init : goal.loop-i-init
loop-i-init c = refl
