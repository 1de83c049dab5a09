-- `id_list::keep_apart` meets its contract: an id that breaks its rules decides; past them the ids are apart where their hashes are, and else are compared.
-- Assumes nothing.
use mathlib.Core.Path.{ap}
use mathlib.Core.Bool.{not}
use mathlib.Core.Bool.{true}
use mathlib.Core.Path.{◌≡◌, sym, ◌∙◌}
use native.Mathlib.Omega.{arith}
use Rattle.basics.specs.Choice.{every}
use Rattle.model.specs.Peers.{id_keeps}
use Rattle.basics.proofs.Choice.{clash}
use Rattle.basics.proofs.Loops.{refute, no, yes}
use Rattle.id_list.proofs.Ids.{ids-rules, ids-last}
use Rattle.id_list.proofs.Hashes.{hashes-decide}
use Rattle.id_list.proofs.keep_apart.Goals as goal
use Rattle.id_list.proofs.keep_apart.Lts as lts
use Rattle.id_list.proofs.keep_apart.Reads as reads
use Rattle.id_list.proofs.keep_apart.Tie as tie

pub returns-then-not-each_keeps : goal.returns-then-not-each_keeps
returns-then-not-each_keeps c =
    refute _ (λ t. clash _ (no _ c.each_keeps.ensures.0 (ap not c.if-not-each_keeps.true)) (ids-rules _ _ _ t).each)

each : (c : (lts.Else1 tie.the-claims reads.Pre reads.Post)) → every c.args.n (id_keeps c.args.words.now c.args.at) ≡ true
each c = yes _ c.each_keeps.ensures.0 (ap not c.if-not-each_keeps.false)

pub returns-then-hashes_apart : goal.returns-then-hashes_apart
returns-then-hashes_apart c =
    let k = c.each_keeps.ensures in
    let few = c.requires.0 in
    sym (hashes-decide _ (λ i. omega (arith, c.shared_slice_known-1.given i)) _ _ few (each (search)) _ (k.1 (k.0 ∙ each (search))) (sym c.hashes_apart.ensures ∙ c.if-hashes_apart.true))
    ∙ ids-last _ _ _ few (each (search))

pub each_apart-requires : goal.each_apart-requires
each_apart-requires c = (c.requires.1, each (search))

pub returns : goal.returns
returns c =
    c.each_apart.ensures ∙ ids-last _ _ _ c.requires.0 (each (search))
