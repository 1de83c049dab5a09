-- `registration::end_peer` meets its contract: the cases of what is found.
-- Assumes nothing.
use native.Mathlib.Omega.{arith}
use mathlib.Core.Path.{sym, ◌∙◌}
use Rattle.model.specs.Layout.{most_ids}
use Rattle.basics.proofs.Choice.{first-facts}
use Rattle.registration.proofs.end_peer.Goals as goal

pub end-requires : goal.end-requires
end-requires c =
    (omega arith, (first-facts most_ids _ _ (sym c.find_peer.ensures ∙ c.in-Some.is)).below, omega arith)

pub returns-in-Some : goal.returns-in-Some
returns-in-Some c = rw (← c.find_peer.ensures, c.in-Some.is) c.end.ensures

pub returns-in-None : goal.returns-in-None
returns-in-None c = rw (← c.find_peer.ensures, c.in-None.is) c.refuse_end.ensures
