-- `id_list::listed_id` meets its contract: no id passed has the bytes.
-- Assumes nothing.
use mathlib.Core.Path.{◌≡◌, sym, ◌∙◌}
use Rattle.model.specs.Devices.{same_name}
use Rattle.model.specs.Layout.{first_id_word, id_in, ids_of}
use Rattle.model.specs.Peers.{listed_id}
use Rattle.basics.proofs.Loops.{none_first, none_more, found_here, found_nowhere}
use Rattle.id_list.proofs.Ids.{BytesRules, IdsRules, bytes-rules, id-at, id_same, ids-rules}
use native.Mathlib.Omega.{arith}
use Rattle.id_list.proofs.listed_id.Goals as goal
use Rattle.id_list.proofs.listed_id.Lts as lts
use Rattle.id_list.proofs.listed_id.Reads as reads
use Rattle.id_list.proofs.listed_id.Tie as tie

all-rules : (c : (lts.In-loop tie.the-claims reads.Pre reads.Post goal.the-invariant-loop-p goal.the-decreases-loop-p)) → IdsRules c.args.state.now first_id_word (ids_of c.args.state.now)
all-rules c = ids-rules _ _ _ c.requires

rules : (c : (lts.In-loop tie.the-claims reads.Pre reads.Post goal.the-invariant-loop-p goal.the-decreases-loop-p)) → BytesRules c.args.state.now first_id_word c.loop-p.p
rules c = bytes-rules _ _ _ (id-at _ _ _ _ (all-rules (search)).each c.loop-p-test.true)

pub has_name-requires : goal.has_name-requires
has_name-requires c =
    let few = (all-rules (search)).few in
    let r = rules (search) in
    let short = r.few in
    (r.some, omega arith, r.padding)

-- the id has the bytes
same : (c : (lts.After-has_name tie.the-claims reads.Pre reads.Post goal.the-invariant-loop-p goal.the-decreases-loop-p)) → same_name (id_in c.args.state.now first_id_word c.loop-p.p).bytes c.args.id.now ≡ c.has_name.result
same c = sym (id_same _ _ _ _) ∙ sym c.has_name.ensures

pub returns-then-has_name : goal.returns-then-has_name
unfolding listed_id
returns-then-has_name c =
    found_here _ _ _ c.loop-p.invariant c.loop-p-test.true (same (search) ∙ c.if-has_name.true)

pub loop-p-preserved : goal.loop-p-preserved
loop-p-preserved c =
    none_more _ _ c.loop-p.invariant (same (search) ∙ c.if-has_name.false)

pub returns : goal.returns
unfolding listed_id
returns c = found_nowhere _ _ _ c.loop-p.invariant c.loop-p-test.false

pub loop-p-init : goal.loop-p-init
loop-p-init c = none_first _

pub overflow_mul-d : goal.overflow_mul-d
overflow_mul-d c = omega (arith, (all-rules (search)).few)

pub overflow_add-d : goal.overflow_add-d
overflow_add-d c = omega (arith, (all-rules (search)).few)

pub overflow_add-n : goal.overflow_add-n
overflow_add-n c = omega (arith, (all-rules (search)).few)

pub offset_bounds-state-d : goal.offset_bounds-state-d
offset_bounds-state-d c = omega (arith, (all-rules (search)).few)

pub bounds-state-d : goal.bounds-state-d
bounds-state-d c = omega (arith, (all-rules (search)).few)

pub overflow_add-d-in-loop-p : goal.overflow_add-d-in-loop-p
overflow_add-d-in-loop-p c = omega (arith, (all-rules (search)).few)
