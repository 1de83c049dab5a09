-- `records::put_bare` meets its contract: the headers alone are the reply.
-- Assumes nothing.
use native.Mathlib.Omega.{arith}
use mathlib.Core.Path.{refl}
use mathlib.Core.List.{[]}
use Rattle.records.proofs.Parts.{reply-stored}
use Rattle.records.proofs.put_bare.Goals as goal

pub returns : goal.returns
returns c = reply-stored _ _ _ _ [] _ 0 refl (omega arith) c.put_header.ensures refl
