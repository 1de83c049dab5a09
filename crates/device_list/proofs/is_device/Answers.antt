-- `device_list::is_device` meets its contract: an id that differs decides, and past it the name.
-- Assumes nothing.
use mathlib.Core.Path.{◌∙◌}
use Rattle.model.specs.Layout.{device_in, most_name_bytes, name_bytes_in}
use Rattle.names.proofs.Names.{NameRules}
use Rattle.device_list.proofs.Names.{name_from, rules-held, id-differs, device-named}
use native.Mathlib.Omega.{arith}
use Rattle.device_list.proofs.is_device.Goals as goal
use Rattle.device_list.proofs.is_device.Lts as lts
use Rattle.device_list.proofs.is_device.Reads as reads
use Rattle.device_list.proofs.is_device.Tie as tie

pub returns-then-words-d : goal.returns-then-words-d
unfolding device_in
returns-then-words-d c =
    id-differs c.args.words.now c.args.at c.args.i _ _ c.if-words-d.true

rules : (c : (lts.Else1 tie.the-claims reads.Pre reads.Post)) → NameRules c.args.words.now (name_from c.args.at c.args.i) (name_bytes_in c.args.words.now c.args.at c.args.i) most_name_bytes
rules c = rules-held _ _ _ c.requires.1

pub has_name-requires : goal.has_name-requires
has_name-requires c =
    let r = rules (search) in
    let few = r.few in
    (r.some, omega arith, r.padding)

pub returns : goal.returns
unfolding device_in
returns c =
    c.has_name.ensures ∙ device-named _ c.args.at c.args.i _ _ c.if-words-d.false
