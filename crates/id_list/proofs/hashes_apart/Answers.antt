-- `id_list::hashes_apart` meets its contract: no hash is the one at a distance passed.
-- Assumes nothing.
use native.Mathlib.Omega.{arith}
use mathlib.Core.Path.{◌≡◌, refl, ◌∙◌}
use Prim.Native.Nat.{◌/◌}
use native.Mathlib.Numerals.{add-one}
use Rattle.basics.specs.Choice.{every}
use Rattle.model.specs.Layout.{most_ids}
use Rattle.names.proofs.Bytes.{both-pass}
use Rattle.id_list.specs.Hashes.{hashes_apart}
use Rattle.id_list.proofs.hashes_apart.Goals as goal

pub loop-d-preserved : goal.loop-d-preserved
unfolding every
loop-d-preserved c = let l = c.loop-d in
    both-pass l.apart c.apart_at-apart.result ∙ rw (l.invariant, add-one, c.apart_at-apart.ensures)

pub returns : goal.returns
unfolding hashes_apart
returns c = let past : c.loop-d.d ≡ most_ids / 2 = omega (arith, c.loop-d.auto.d-end, c.loop-d-test.false) in
    c.loop-d.invariant ∙ rw past

pub loop-d-init : goal.loop-d-init
unfolding every
loop-d-init c = refl
