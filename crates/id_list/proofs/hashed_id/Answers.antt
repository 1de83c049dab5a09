-- `id_list::hashed_id` meets its contract: a version above 16 bits breaks the rules, and past them the bytes decide, whose hash is the id's.
-- Assumes nothing.
use mathlib.Core.Path.{sym}
use Rattle.model.specs.Layout.{id_in}
use Rattle.basics.proofs.Choice.{pick-false}
use Rattle.basics.proofs.Loops.{refute}
use Rattle.id_list.proofs.Ids.{id-rules, id-last}
use native.Mathlib.Omega.{arith}
use Rattle.id_list.proofs.hashed_id.Goals as goal

pub returns-then-words-d-gt-HIGHEST_MINOR : goal.returns-then-words-d-gt-HIGHEST_MINOR
unfolding id_in
returns-then-words-d-gt-HIGHEST_MINOR c = sym (pick-false _ _ _ (sym (refute _ (λ t. let r = id-rules _ _ _ t in omega arith))))

pub returns-then-words-d-gt-HIGHEST_MINOR-2 : goal.returns-then-words-d-gt-HIGHEST_MINOR-2
unfolding id_in
returns-then-words-d-gt-HIGHEST_MINOR-2 c = sym (pick-false _ _ _ (sym (refute _ (λ t. let r = id-rules _ _ _ t in omega arith))))

pub returns : goal.returns
unfolding id_in
returns c = rw (← id-last c.args.words.now c.args.at c.args.p (omega arith) (omega arith)) c.hashed_name.ensures
