use Rattle.lines.proofs.Counted.{counted}
use Rattle.lines.proofs.fields.end_of.Goals as goal

pub returns : goal.returns
returns c = record {
  value = c.find.ensures.value;
  lower_bound = c.find.ensures.lower_bound;
  prefix_len = counted _ _ c.find.ensures.upper_bound;
}
