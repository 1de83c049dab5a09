use native.Mathlib.Omega.{arith}
use Rattle.model.specs.Layout.{removal_of}
use Rattle.memory.proofs.Laws.{told-some, told-settled}
use Rattle.memory.proofs.put_status_record.Goals as goal

pub returns-then-position-count_of : goal.returns-then-position-count_of
returns-then-position-count_of c =
    let e = c.requires in
    told-some _ _ e.2 e.0 c.position_of-position.ensures c.count_of.ensures c.if-position-count_of.true c.size_of.ensures c.collected_of.ensures c.put64.ensures c.put64-then-position-count_of.ensures

pub returns-else-position-count_of : goal.returns-else-position-count_of
returns-else-position-count_of c =
    let e = c.requires in
    told-settled _ _ e.2 e.0 c.position_of-position.ensures c.count_of.ensures c.if-position-count_of.false c.put64-else-position-count_of.ensures c.put64-else-position-count_of-2.ensures

pub size_of-requires : goal.size_of-requires
unfolding removal_of
size_of-requires c = omega arith

pub overflow_mul-collected_of : goal.overflow_mul-collected_of
unfolding removal_of
overflow_mul-collected_of c = omega arith
