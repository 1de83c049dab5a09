use Rattle.std.proofs.Common.{arith, length-take-le, sym}
use native.Mathlib.Omega.{arith}
use Rattle.call_fields.proofs.given.Given.read_id.Goals as goal

pub slice_bounds-held-end : goal.slice_bounds-held-end
slice_bounds-held-end c = sym (length-take-le 32 c.numbers_and_bytes.new.bytes (omega (arith, c.numbers_and_bytes.auto.bytes)))
