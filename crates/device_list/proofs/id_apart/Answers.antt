-- `device_list::id_apart` meets its contract: no device passed has the id.
-- Assumes nothing.
use mathlib.Core.Bool.{not}
use mathlib.Core.Path.{◌≡◌, refl, ◌∙◌}
use Prim.Native.Nat.{◌+◌, ◌*◌}
use native.Mathlib.Numerals.{add-one}
use native.Mathlib.Omega.{arith}
use lib.ListN.{get_or}
use lib.Dec.{eqb}
use Rattle.basics.specs.Choice.{every}
use Rattle.model.specs.Layout.{device_in, device_words}
use Rattle.names.proofs.Bytes.{both-pass}
use Rattle.device_list.proofs.id_apart.Goals as goal

pub loop-j-preserved : goal.loop-j-preserved
unfolding every
loop-j-preserved c =
    let l = c.loop-j in
    both-pass l.apart (not (eqb (get_or c.args.words.now (c.args.at + l.j * device_words) 0) (get_or c.args.words.now (c.args.at + c.args.i * device_words) 0))) ∙ rw (l.invariant, add-one)

pub returns : goal.returns
unfolding device_in
returns c =
    let past : c.loop-j.j ≡ c.args.i = omega (arith, c.loop-j.auto.j-end, c.loop-j-test.false) in
    c.loop-j.invariant ∙ rw past

pub loop-j-init : goal.loop-j-init
unfolding every
loop-j-init c = refl
