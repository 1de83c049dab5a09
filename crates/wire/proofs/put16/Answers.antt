-- `wire::put16` meets its contract: the stores are the definition of its bytes, written out.
-- Assumes nothing.
use native.Mathlib.Nat.{div-one}
use native.Mathlib.Numerals.{towards_suc}
use native.Mathlib.Omega.{arith}
use lib.ListN.{length-set}
use Rattle.wire.specs.BigEndian.{bytes_of}
use Rattle.wire.proofs.put16.Goals as goal

pub bounds-out-at-2 : goal.bounds-out-at-2
unfolding bytes_of
bounds-out-at-2 c = simp length-set (omega arith)

pub returns : goal.returns
unfolding bytes_of
returns c = simp (towards_suc, div-one)
