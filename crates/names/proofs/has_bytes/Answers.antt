-- `names::has_bytes` meets its contract: the words passed have the bytes, and one that differs has not.
-- Assumes nothing.
use mathlib.Core.Path.{sym, ◌∙◌}
use Prim.Native.Nat.{◌+◌}
use Rattle.wire.proofs.Laws.{number_bound}
use Rattle.model.specs.Layout.{word_bytes}
use Rattle.basics.proofs.Loops.{every-none, every_more, every-fails, every-all}
use Rattle.names.proofs.Bytes.{words_same, words-differ}
use native.Mathlib.Omega.{arith}
use Rattle.names.proofs.has_bytes.Goals as goal

pub returns-then-words-from : goal.returns-then-words-from
returns-then-words-from c =
    let k = c.type_inv.words in
    let l = c.loop-q in
    every-fails _ _ _ c.loop-q-test.true
    (words-differ _ _ (omega (arith, k (c.args.from + l.q))) (number_bound _ _ word_bytes) (λ e. c.if-words-from.true (e ∙ sym c.word_at.ensures)))

pub loop-q-preserved : goal.loop-q-preserved
loop-q-preserved c =
    let l = c.loop-q in
    every_more _ _ l.invariant (words_same _ _ (c.if-words-from.false ∙ c.word_at.ensures))

pub returns : goal.returns
returns c = let l = c.loop-q in every-all _ _ _ l.auto.q-end c.loop-q-test.false l.invariant

pub loop-q-init : goal.loop-q-init
loop-q-init c = every-none _
