-- `id_list::each_keeps` meets its contract: every id passed keeps the rules, and its hash stands at its two places.
-- Assumes nothing.
use mathlib.Core.Path.{◌≡◌, refl, ap, ◌∙◌}
use Prim.Native.Nat.{◌<◌}
use native.Mathlib.Omega.{arith}
use Rattle.model.specs.Layout.{most_ids}
use Rattle.basics.proofs.Choice.{clash}
use Rattle.basics.proofs.Loops.{every-none, every_more, every-fails, every-all}
use Rattle.id_list.specs.Hashes.{folded}
use Rattle.id_list.proofs.Hashes.{hashed-more, none-hashed, still-long, there, not_there}
use Rattle.id_list.proofs.each_keeps.Goals as goal

pub loop-p-init : goal.loop-p-init
loop-p-init c = (every-none _, c.requires.2, none-hashed _ _ _)

pub returns-in_default : goal.returns-in_default
returns-in_default c =
    (every-fails _ _ _ c.loop-p-test.true (not_there _ _ c.in_default.ensures), λ t. absurd (clash _ refl t))

pub loop-p-preserved : goal.loop-p-preserved
loop-p-preserved c =
    let l = c.loop-p in
    let id = there _ _ _ c.in-Some.ensures in
    let few : l.p < most_ids = omega (arith, c.loop-p-test.true) in
    let hash = c.folded-hash.ensures ∙ ap folded id.1 in
    (every_more _ _ l.invariant.0 id.0, still-long _ _ _ _ _ l.invariant.1 few l.invariant.2 hash, hashed-more _ _ _ _ _ l.invariant.1 few l.invariant.2 hash)

pub returns : goal.returns
returns c =
    let l = c.loop-p in
    let same : l.p ≡ c.args.n = omega (arith, l.auto.p-end, c.loop-p-test.false) in
    (every-all _ _ _ l.auto.p-end c.loop-p-test.false l.invariant.0, λ t. rw same at l.invariant.2)
