-- `names::same_words` meets its contract: the words passed have the same bytes, and two that differ have not.
-- Assumes nothing.
use Prim.Native.Nat.{◌+◌}
use native.Mathlib.Omega.{arith}
use Rattle.basics.proofs.Loops.{every-none, every_more, every-fails, every-all}
use Rattle.names.proofs.Bytes.{words_same, words-differ}
use Rattle.names.proofs.same_words.Goals as goal

pub returns-then-words-a : goal.returns-then-words-a
returns-then-words-a c =
    let k = c.type_inv.words in
    let l = c.loop-q in
    let a = c.args in
    every-fails _ _ _ c.loop-q-test.true (words-differ _ _ (omega (arith, k (a.a + l.q))) (omega (arith, k (a.b + l.q))) c.if-words-a.true)

pub loop-q-preserved : goal.loop-q-preserved
loop-q-preserved c = every_more _ _ c.loop-q.invariant (words_same _ _ c.if-words-a.false)

pub returns : goal.returns
returns c = let l = c.loop-q in every-all _ _ _ l.auto.q-end c.loop-q-test.false l.invariant

pub loop-q-init : goal.loop-q-init
loop-q-init c = every-none _
