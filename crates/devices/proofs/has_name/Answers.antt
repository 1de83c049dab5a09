-- `devices::has_name` meets its contract: each early answer breaks the form, and past them the bytes before the last decide.
-- Assumes nothing.
use mathlib.Core.Path.{◌≡◌, sym, ◌∙◌}
use Prim.Native.Nat.{◌-◌}
use lib.ListN.{length, get_or}
use Rattle.wire.specs.BigEndian.{byte_at}
use Rattle.wire.proofs.Laws.{byte-at}
use Rattle.basics.proofs.Loops.{refute}
use Rattle.devices.proofs.Laws.{name-long, name-ends, name-last}
use native.Mathlib.Omega.{arith}
use Rattle.devices.proofs.has_name.Goals as goal
use Rattle.devices.proofs.has_name.Lts as lts
use Rattle.devices.proofs.has_name.Reads as reads
use Rattle.devices.proofs.has_name.Tie as tie

pub returns-then-b-le-DEVICE_HEADER_BYTES : goal.returns-then-b-le-DEVICE_HEADER_BYTES
returns-then-b-le-DEVICE_HEADER_BYTES c = refute _ (λ t. let h = name-long _ t in omega arith)

-- the last element is a byte
is_byte : (c : (lts.After-shared_slice_known2 tie.the-claims reads.Pre reads.Post)) → let b = c.args.b.now in get_or b (length b - 1) 0 ≡ byte_at b (length b - 1)
is_byte c =
    let b = c.args.b.now in
    byte-at _ _ (omega arith)

pub returns-then-b-last-ne0 : goal.returns-then-b-last-ne0
returns-then-b-last-ne0 c = refute _ (λ t. c.if-b-last-ne0.true (is_byte (search) ∙ name-ends _ t))

pub returns : goal.returns
returns c =
    c.none_is_zero.ensures ∙ sym (name-last _ c.if-b-le-DEVICE_HEADER_BYTES.false (sym (is_byte (search)) ∙ c.if-b-last-ne0.false))
