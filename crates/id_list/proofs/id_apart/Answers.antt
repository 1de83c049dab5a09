-- `id_list::id_apart` meets its contract: no id passed has its bytes.
-- Assumes nothing.
use mathlib.Core.Bool.{not}
use mathlib.Core.Path.{◌≡◌, sym, ap, ◌∙◌}
use Prim.Native.Nat.{ℕ}
use Rattle.model.specs.Devices.{same_name}
use Rattle.model.specs.Layout.{id_in}
use Rattle.model.specs.Peers.{id_apart}
use Rattle.basics.proofs.Loops.{every-none, every_more, every-fails, every-all}
use Rattle.id_list.proofs.Ids.{BytesRules, bytes-rules, id-at, id-rules, pair_same}
use native.Mathlib.Omega.{arith}
use Rattle.id_list.proofs.id_apart.Goals as goal
use Rattle.id_list.proofs.id_apart.Lts as lts
use Rattle.id_list.proofs.id_apart.Reads as reads
use Rattle.id_list.proofs.id_apart.Tie as tie

abbrev Held : (lts.In-loop tie.the-claims reads.Pre reads.Post goal.the-invariant-loop-q goal.the-decreases-loop-q) → ℕ → Type 0
Held c p = BytesRules c.args.words.now c.args.at p

rules : (c : (lts.In-loop tie.the-claims reads.Pre reads.Post goal.the-invariant-loop-q goal.the-decreases-loop-q)) → Held (search) c.loop-q.q × Held (search) c.args.p
rules c =
    (bytes-rules _ _ _ (id-at _ _ _ _ c.requires.1 c.loop-q-test.true), bytes-rules _ _ _ (id-rules _ _ _ c.requires.2).bytes)

pub same_names-requires : goal.same_names-requires
same_names-requires c =
    let r = rules (search) in
    let few = r.0.few in
    let few-too = r.1.few in
    let room = c.requires.0 in
    (r.0.some, omega arith, omega arith, r.0.padding, r.1.padding)

-- the two ids are the same
same : (c : (lts.After-same_names tie.the-claims reads.Pre reads.Post goal.the-invariant-loop-q goal.the-decreases-loop-q)) → same_name (id_in c.args.words.now c.args.at c.loop-q.q).bytes (id_in c.args.words.now c.args.at c.args.p).bytes ≡ c.same_names.result
same c = sym (pair_same _ _ _ _) ∙ sym c.same_names.ensures

pub returns-then-same_names : goal.returns-then-same_names
unfolding id_apart
returns-then-same_names c =
    every-fails _ _ _ c.loop-q-test.true (ap not (same (search) ∙ c.if-same_names.true))

pub loop-q-preserved : goal.loop-q-preserved
loop-q-preserved c =
    every_more _ _ c.loop-q.invariant (ap not (same (search) ∙ c.if-same_names.false))

pub returns : goal.returns
unfolding id_apart
returns c = let l = c.loop-q in every-all _ _ _ l.auto.q-end c.loop-q-test.false l.invariant

pub loop-q-init : goal.loop-q-init
loop-q-init c = every-none _
