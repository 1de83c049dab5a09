-- `id_list::keep_rules` meets its contract: too many ids break the rules, none keep them, and past that each decides.
-- Assumes nothing.
use mathlib.Core.Path.{sym}
use native.Mathlib.Omega.{arith}
use Rattle.basics.proofs.Loops.{refute}
use Rattle.id_list.proofs.Ids.{ids-rules, ids-none}
use Rattle.id_list.proofs.keep_rules.Goals as goal

pub returns-then-n-gt-MOST_IDS : goal.returns-then-n-gt-MOST_IDS
returns-then-n-gt-MOST_IDS c = refute _ (λ t. let r = ids-rules _ _ _ t in omega arith)

pub keep_apart-requires : goal.keep_apart-requires
keep_apart-requires c =
    let few = c.if-n-gt-MOST_IDS.false in
    (few, c.requires few)

pub returns-then-n-lt1 : goal.returns-then-n-lt1
returns-then-n-lt1 c = sym (ids-none _ _ _ (omega arith))
