-- `id_list::listed_id` meets its contract: no id passed has the bytes.
-- Assumes nothing.
use Rattle.model.specs.Devices.{same_name}
use Rattle.model.specs.Layout.{first_id_word, id_in}
use Rattle.basics.proofs.Loops.{NoneBelow}
use Rattle.id_list.proofs.listed_id.Given as goal

abbrev pub invariant-loop-p : goal.invariant-loop-p
invariant-loop-p l = NoneBelow (λ k. same_name (id_in l.state first_id_word k).bytes l.id) l.p
