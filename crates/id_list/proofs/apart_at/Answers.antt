-- `id_list::apart_at` meets its contract: no hash passed is the one so many places on.
-- Assumes nothing.
use native.Mathlib.Omega.{arith}
use mathlib.Core.Bool.{not}
use mathlib.Core.Path.{◌≡◌, refl, ◌∙◌}
use Prim.Native.Nat.{◌+◌}
use native.Mathlib.Numerals.{add-one}
use lib.ListN.{get_or}
use lib.Dec.{eqb}
use Rattle.basics.specs.Choice.{every}
use Rattle.model.specs.Layout.{most_ids}
use Rattle.names.proofs.Bytes.{both-pass}
use Rattle.id_list.specs.Hashes.{apart_at}
use Rattle.id_list.proofs.apart_at.Goals as goal

pub loop-k-preserved : goal.loop-k-preserved
unfolding every
loop-k-preserved c = let l = c.loop-k in
    both-pass l.apart (not (eqb (get_or c.args.hashes.now l.k 0) (get_or c.args.hashes.now (l.k + c.args.distance) 0))) ∙ rw (l.invariant, add-one)

pub returns : goal.returns
unfolding apart_at
returns c = let past : c.loop-k.k ≡ most_ids = omega (arith, c.loop-k.auto.k-end, c.loop-k-test.false) in
    c.loop-k.invariant ∙ rw past

pub loop-k-init : goal.loop-k-init
unfolding every
loop-k-init c = refl
