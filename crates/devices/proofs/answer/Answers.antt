-- `devices::answer` meets its contract: FAILURE for the form of the name or the type; else what the type asks for.
-- Assumes nothing.
use mathlib.Core.Bool.{not}
use mathlib.Core.Path.{◌≡◌, sym, ap, ◌∙◌}
use mathlib.Core.Bool.{true}
use borrow.Author.Tests.{not-true, not-false}
use Prim.Native.Nat.{◌-◌}
use lib.ListN.{length, length-drop}
use lib.Seq.{take_all}
use Rattle.model.specs.Layout.{device_header_bytes}
use Rattle.model.specs.DeviceRequests.{device_name, has_name, operation_of}
use Rattle.basics.proofs.Loops.{no, yes}
use Rattle.devices.proofs.Laws.{name-long, no_name, no-type, formed}
use native.Mathlib.Omega.{arith}
use Rattle.devices.proofs.answer.Goals as goal
use Rattle.devices.proofs.answer.Lts as lts
use Rattle.devices.proofs.answer.Reads as reads
use Rattle.devices.proofs.answer.Tie as tie

pub returns-then-not-has_name : goal.returns-then-not-has_name
returns-then-not-has_name c =
    rw (← no_name _ _ _ _ c.number-request.ensures (no _ c.has_name.ensures (ap not c.if-not-has_name.true))) (c.refuse.ensures _)

-- the name has its form
named : (c : (lts.Else1 tie.the-claims reads.Pre reads.Post)) → has_name c.args.b.now ≡ true
named c = yes _ c.has_name.ensures (ap not c.if-not-has_name.false)

pub get64-requires : goal.get64-requires
get64-requires c = omega (arith, name-long _ (named (search)))

pub slice_bounds-hear-count : goal.slice_bounds-hear-count
slice_bounds-hear-count c = omega (arith, name-long _ (named (search)))

pub slice_bounds-hear-start : goal.slice_bounds-hear-start
slice_bounds-hear-start c = omega (arith, name-long _ (named (search)))

pub get32-requires : goal.get32-requires
get32-requires c = omega (arith, name-long _ (named (search)))

pub overflow_cast-get32 : goal.overflow_cast-get32
overflow_cast-get32 c = omega (arith, c.get32.ensures.1)

pub returns-in_default : goal.returns-in_default
returns-in_default c =
    rw (← no-type _ _ _ _ c.number-request.ensures (named (search)) (sym (c.operation.ensures ∙ ap operation_of c.get32.ensures.0) ∙ c.in_default.is)) (c.refuse-in_default.ensures _)

pub returns : goal.returns
returns c =
    let b = c.args.b.now in
    rw (← formed _ _ _ _ c.number-request.ensures (named (search)) (sym (c.operation.ensures ∙ ap operation_of c.get32.ensures.0) ∙ c.in-Some.is) c.get64.ensures (take_all (length b - device_header_bytes) (device_name b) (omega (arith, length-drop device_header_bytes b))))
    c.hear.ensures
