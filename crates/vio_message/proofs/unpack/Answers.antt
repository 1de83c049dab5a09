-- `vio_message::unpack` meets its contract: each `&` takes the low bits that its mask has.
-- Assumes nothing.
use Prim.Native.Nat.{◌/◌, ◌^◌}
use lib.Bits.{and_mask}
use Rattle.vio_message.specs.Words.{unpacked}
use Rattle.vio_message.proofs.unpack.Goals as goal
use Rattle.vio_message.proofs.unpack.Lts as lts
use Rattle.vio_message.proofs.unpack.Reads as reads

pub returns : goal.returns
unfolding unpacked
returns c =
    let start : (lts.Start reads.Pre reads.Post) = search in
    let w : _ = start.args.w in
    simp (
      and_mask (w.first / 2 ^ 16) 16,
      and_mask (w.first / 2 ^ 8) 8,
      and_mask w.first 8,
      and_mask (w.second / 2 ^ 32) 8,
      and_mask (w.second / 2 ^ 16) 16,
      and_mask w.second 16,
    )
