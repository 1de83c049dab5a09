-- `lines::form::put_pair` meets its contract: two bytes, one after the other.
-- Assumes nothing.
use Rattle.std.proofs.Common.{add-one, arith}
use native.Mathlib.Omega.{arith}
use Rattle.lines.proofs.form.put_pair.Goals as goal

pub returns : goal.returns
returns c = record {
  next = omega arith;
  fits = omega arith;
  output = rw (add-one, c.glyph.ensures, c.glyph-2.ensures);
}
