use Rattle.std.specs.Prelude.{Some, None}
use mathlib.Core.Path.{sym}
use Rattle.model.proofs.Sounds.{named-less}
use Rattle.configuration.proofs.Laws.{unknown-at, failed-one, found-one}
use Rattle.configuration.proofs.configure_one.Goals as goal

pub configure_at-requires : goal.configure_at-requires
configure_at-requires c = (named-less _ _ _ _ (sym c.in-Some.ensures), c.requires)

pub returns-in-Some : goal.returns-in-Some
returns-in-Some c = found-one _ _ _ _ c.told-state c.requires (Some _) c.if-failed.false (sym c.in-Some.ensures) c.configure_at.ensures

pub returns-in-None : goal.returns-in-None
returns-in-None c = found-one _ _ _ _ c.told-state c.requires None c.if-failed.false (sym c.in-None.ensures) (unknown-at _)

pub returns-then-failed : goal.returns-then-failed
returns-then-failed c = failed-one _ _ _ _ c.if-failed.true
