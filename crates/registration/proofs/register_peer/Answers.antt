-- `registration::register_peer` meets its contract: the tests, in another order than the definition has them.
-- Assumes nothing.
use native.Mathlib.Omega.{arith}
use mathlib.Core.Path.{sym, ap, ◌∙◌}
use Rattle.model.proofs.Rules.{sound-facts}
use Rattle.model.specs.Peers.{listed_id}
use Rattle.registration.proofs.Laws.{duplicate, listed, unlisted, place-less}
use Rattle.registration.proofs.register_peer.Goals as goal

pub returns-then-is_refused : goal.returns-then-is_refused
returns-then-is_refused c =
    rw (duplicate _ _ _ _ c.get64-handle.ensures (sym c.is_refused.ensures ∙ c.if-is_refused.true)) (c.refuse.ensures _)

pub listed_id-requires : goal.listed_id-requires
listed_id-requires c = (sound-facts _ c.requires.0).ids

pub register_listed-requires : goal.register_listed-requires
register_listed-requires c =
    let found = ap (listed_id c.args.state.now) (sym c.id_of.ensures) ∙ sym c.listed_id.ensures ∙ c.in-Some.is in
    (omega arith, place-less _ _ _ (sound-facts _ c.requires.0).ids found, omega arith, omega arith)

pub returns-in-Some : goal.returns-in-Some
returns-in-Some c =
    let found = ap (listed_id c.args.state.now) (sym c.id_of.ensures) ∙ sym c.listed_id.ensures ∙ c.in-Some.is in
    rw (listed _ _ _ _ c.get64-handle.ensures _ (sym c.is_refused.ensures ∙ c.if-is_refused.false) found) c.register_listed.ensures

pub returns-in-None : goal.returns-in-None
returns-in-None c =
    let found = ap (listed_id c.args.state.now) (sym c.id_of.ensures) ∙ sym c.listed_id.ensures ∙ c.in-None.is in
    rw (unlisted _ _ _ _ c.get64-handle.ensures (sym c.is_refused.ensures ∙ c.if-is_refused.false) found) (c.refuse-in-None.ensures _)
