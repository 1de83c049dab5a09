-- `vio_message::pack` meets its contract: each `|` adds a field below those before it.
-- Assumes nothing.
use native.Mathlib.Omega.{arith}
use lib.Dec.{lit≤}
use lib.Pow.{shl_exact}
use Rattle.entry.proofs.Shifts.{or-low, or-field}
use Rattle.vio_message.specs.Words.{packed}
use Rattle.vio_message.proofs.pack.Goals as goal
use Rattle.vio_message.proofs.pack.Lts as lts
use Rattle.vio_message.proofs.pack.Reads as reads

pub returns : goal.returns
unfolding packed
returns c =
    let start : (lts.Start reads.Pre reads.Post) = search in
    let m : _ = start.args.m in
    let p : _ = start.requires in
    let session : _ = shl_exact {a = m.session} 32 32 64 (omega arith) (lit≤ tt) in
    let envelope : _ = or-field 16 16 m.envelope session (omega arith) (omega arith) (lit≤ tt) in
    let subtype : _ = or-field 8 8 m.subtype envelope (omega arith) (omega arith) (lit≤ tt) in
    let first : _ = or-low 8 m.kind subtype (omega arith) (omega arith) in
    let class : _ = shl_exact {a = m.class} 8 32 64 (omega arith) (lit≤ tt) in
    let minor : _ = or-field 16 16 m.minor class (omega arith) (omega arith) (lit≤ tt) in
    let second : _ = or-low 16 m.major minor (omega arith) (omega arith) in
    λ i. record { first = first i; second = second i }
