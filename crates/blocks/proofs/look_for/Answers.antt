-- `blocks::look_for` meets its contract. The loop's invariant: the blocks told of were looked at, and `left` are left from `low` on. The
-- measure is those left.
-- Assumes nothing.
use Prim.Native.Nat.{◌<◌}
use mathlib.Core.Path.{refl}
use native.Mathlib.Omega.{arith}
use lib.ListN.{length-set}
use Rattle.model.specs.Layout.{most_looked, block_in}
use Rattle.model.specs.Search.{found_there}
use Rattle.blocks.proofs.Halves.{going-first, room, going-above, going-below, tells-here, tells-nowhere}
use Rattle.blocks.proofs.look_for.Goals as goal
use Rattle.blocks.proofs.look_for.Lts as lts
use Rattle.blocks.proofs.look_for.Reads as reads
use Rattle.blocks.proofs.look_for.Tie as tie

-- the array has room for one block more
has_room : (c : (lts.In-loop tie.the-claims reads.Pre reads.Post goal.the-invariant-loop-left goal.the-decreases-loop-left)) → c.loop-left.count < most_looked
has_room c =
    let l = c.loop-left in
    room _ _ _ l.looked l.count l.low l.left (omega arith) l.invariant.3 c.requires.few (omega arith)

-- the array has room for one block more
has_room-here : (c : goal.In-loop-left) → c.loop-left.count < most_looked
has_room-here c =
    let l = c.loop-left in
    room _ _ _ l.looked l.count l.low l.left (omega arith) l.invariant.3 c.requires.few (omega arith)

pub found_at-requires : goal.found_at-requires
unfolding block_in
found_at-requires c =
    c.requires.small _ (omega arith)

pub returns-then-base-addr : goal.returns-then-base-addr
unfolding block_in found_there
returns-then-base-addr c =
    tells-here _ _ _ _ _ _ _ (omega arith) c.loop-left.invariant.3 (omega (arith, has_room (search))) c.if-base-addr.true c.found_at.ensures

pub loop-left-preserved-then-base-addr-2 : goal.loop-left-preserved-then-base-addr-2
unfolding block_in
loop-left-preserved-then-base-addr-2 c =
    let fits = has_room (search) in
    let l = c.loop-left in
    (omega arith, rw length-set l.invariant.1, omega arith, going-above _ _ _ l.looked l.count l.low l.left (omega arith) l.invariant.3 (omega arith) c.if-base-addr-2.true)

pub loop-left-preserved : goal.loop-left-preserved
unfolding block_in
loop-left-preserved c =
    let fits = has_room (search) in
    let l = c.loop-left in
    (omega arith, rw length-set l.invariant.1, omega arith, going-below _ _ _ l.looked l.count l.low l.left (omega arith) l.invariant.3 (omega arith) (omega arith))

pub returns : goal.returns
returns c =
    let l = c.loop-left in
    tells-nowhere _ _ _ _ _ _ _ (omega arith) (omega arith) l.invariant.3

pub loop-left-init : goal.loop-left-init
loop-left-init c = (omega arith, refl, omega arith, going-first _ _ _)

pub offset_bounds-looked-count : goal.offset_bounds-looked-count
offset_bounds-looked-count c = omega (arith, has_room-here c)

pub bounds-looked-count : goal.bounds-looked-count
bounds-looked-count c = has_room-here c
