-- `devices::put_response` meets its contract: the fields stored one after the other are the response.
-- Assumes nothing.
use lib.ListN.{length-set}
use Rattle.devices.proofs.Laws.{response-stored}
use borrow.Author.Rules.{rules}
use Rattle.devices.proofs.put_response.Goals as goal

pub returns : goal.returns
returns c =
    response-stored _ _ _ _ _ c.requires c.put32.ensures c.put32-2.ensures c.put64.ensures c.put64-2.ensures c.put32-3.ensures c.put32-4.ensures

pub shape_of-out : goal.shape_of-out
shape_of-out c = simp length-set (search rules)
