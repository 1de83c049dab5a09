-- `names::whole_words` meets its contract: no bit is set for the words passed exactly where none of their bytes is 0.
-- Assumes nothing.
use mathlib.Core.Path.{◌≡◌, refl, ◌∙◌}
use Prim.Native.Nat.{◌+◌}
use native.Mathlib.Numerals.{add-one}
use native.Mathlib.Omega.{arith}
use borrow.Rule.Slice.PartMut.{mid_len}
use Rattle.std.proofs.lemmas.List.Edits.{get_or-between}
use Rattle.basics.specs.Choice.{every}
use Rattle.names.proofs.Zeros.{or-none}
use Rattle.names.proofs.whole_words.Goals as goal

pub loop-w-preserved : goal.loop-w-preserved
unfolding every
loop-w-preserved c =
    let l = c.loop-w in
    let a = c.args in
    let long = mid_len a.from (a.from + a.n) a.words.now c.requires in
    let here = get_or-between a.words.now a.from (a.from + a.n) l.w-index 0 (omega arith) in
    or-none l.zeros c.zero_bytes-zeros.result ∙ rw (l.invariant, c.zero_bytes-zeros.ensures, here, add-one)

pub returns : goal.returns
returns c =
    let l = c.loop-w in
    let a = c.args in
    let long = mid_len a.from (a.from + a.n) a.words.now c.requires in
    let past : l.w-index ≡ a.n = omega (arith, l.auto.w-index-end, c.loop-w-test.false) in
    l.invariant ∙ rw past

pub loop-w-init : goal.loop-w-init
unfolding every
loop-w-init c = refl
