-- `lines::output::Output::put` meets its contract: the bytes passed are put, and no other byte has changed.
-- Assumes nothing.
use Rattle.std.proofs.Common.{refl, ap, ◌∙◌, arith}
use borrow.Rule.Slice.PartMut.{put_mid}
use Rattle.lines.proofs.Puts.{put_mid-sets}
use native.Mathlib.Omega.{arith}
use Rattle.lines.proofs.output.Output.put.Goals as goal

pub returns : goal.returns
returns c = record {
  next = refl;
  fits = omega arith;
  output = ap (put_mid c.args.self.now.used _ c.args.self.now.text) c.copy_from_slice.ensures.after ∙ put_mid-sets c.args.self.now.text c.args.bytes.now c.args.self.now.used _ (omega arith) (omega arith);
}
