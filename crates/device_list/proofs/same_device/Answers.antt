-- `device_list::same_device` meets its contract: ids that differ decide, and past them the names.
-- Assumes nothing.
use mathlib.Core.Path.{◌∙◌}
use Prim.Native.Nat.{ℕ}
use Rattle.model.specs.Layout.{device_in, most_name_bytes, name_bytes_in}
use Rattle.names.proofs.Names.{NameRules}
use Rattle.device_list.proofs.Names.{name_from, rules-held, id-differs, pair-named}
use native.Mathlib.Omega.{arith}
use Rattle.device_list.proofs.same_device.Goals as goal
use Rattle.device_list.proofs.same_device.Lts as lts
use Rattle.device_list.proofs.same_device.Reads as reads
use Rattle.device_list.proofs.same_device.Tie as tie

pub returns-then-words-a : goal.returns-then-words-a
unfolding device_in
returns-then-words-a c =
    id-differs c.args.words.now c.args.at c.args.j _ _ c.if-words-a.true

abbrev Held : (lts.Start tie.the-claims reads.Pre reads.Post) → ℕ → Type 0
Held s i = NameRules s.args.words.now (name_from s.args.at i) (name_bytes_in s.args.words.now s.args.at i) most_name_bytes

rules : (c : (lts.Else1 tie.the-claims reads.Pre reads.Post)) → Held (search) c.args.j × Held (search) c.args.i
rules c = (rules-held _ _ _ c.requires.3, rules-held _ _ _ c.requires.2)

pub same_names-requires : goal.same_names-requires
same_names-requires c =
    let few = (rules (search)).0.few in
    let few-too = (rules (search)).1.few in
    ((rules (search)).0.some, omega arith, omega arith, (rules (search)).0.padding, (rules (search)).1.padding)

pub returns : goal.returns
unfolding device_in
returns c =
    c.same_names.ensures
    ∙ pair-named _ c.args.at c.args.i c.args.j c.if-words-a.false
