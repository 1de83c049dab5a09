-- What holds of every list of calls that meet their contracts.
-- Assumes nothing.
use Rattle.claims.specs.EveryList.{ListsHold}
use Rattle.claims.proofs.Demand3.{demand3}
use Rattle.claims.proofs.Repeats.{repeats}
use Rattle.claims.proofs.Ends.{removals-end}
use Rattle.claims.proofs.Replay.{passes}

pub lists-hold : ListsHold
lists-hold l r j₀ j ds e z m = record {
  demand3 = demand3 l r j₀ j ds e z m;
  repeats = repeats l r j₀ j ds e z m;
  ends = removals-end l r j₀ j ds e z m;
  passes = passes l r j₀ j ds e z m;
}
