-- `names::pass_words` meets its contract: no bit is set for the words passed exactly where none of their bytes is 0, and they are mixed.
-- Assumes nothing.
use native.Mathlib.Omega.{arith}
use mathlib.Core.Path.{◌≡◌, refl, ◌∙◌}
use native.Mathlib.Numerals.{add-one}
use Prim.Native.Nat.{◌+◌}
use borrow.Rule.Slice.PartMut.{mid_len}
use Rattle.std.proofs.lemmas.List.Edits.{get_or-between}
use Rattle.basics.specs.Choice.{every}
use Rattle.names.specs.Hashes.{mixed_words}
use Rattle.names.proofs.Zeros.{or-none}
use Rattle.names.proofs.pass_words.Goals as goal

pub loop-word-preserved : goal.loop-word-preserved
unfolding every mixed_words
loop-word-preserved c =
    let l = c.loop-word in
    let a = c.args in
    let z = c.zero_bytes-zeros in
    let long = mid_len a.from (a.from + a.n) a.words.now c.requires in
    let here = get_or-between a.words.now a.from (a.from + a.n) l.word-index 0 (omega arith) in
    (or-none l.zeros z.result ∙ rw (l.invariant.0, z.ensures, here, add-one), c.mixed-hash.ensures ∙ rw (l.invariant.1, here, add-one))

pub returns : goal.returns
returns c =
    let l = c.loop-word in
    let a = c.args in
    let long = mid_len a.from (a.from + a.n) a.words.now c.requires in
    let past : l.word-index ≡ a.n = omega (arith, l.auto.word-index-end, c.loop-word-test.false) in
    (l.invariant.0 ∙ rw past, l.invariant.1 ∙ rw past)

pub loop-word-init : goal.loop-word-init
unfolding every mixed_words
loop-word-init c = (refl, refl)
