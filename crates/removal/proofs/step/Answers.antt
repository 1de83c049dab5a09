use native.Mathlib.Omega.{arith}
use mathlib.Core.Path.{sym}
use Rattle.removal.proofs.Laws.{facts, fits, can-work, at-nowhere, step-over, step-found}
use Rattle.removal.proofs.step.Goals as goal

pub end_step-requires : goal.end_step-requires
end_step-requires c = let p = c.requires in (fits _ p.0 p.1, (facts _ p.0 p.1).channels, p.2)

pub returns-then-is_over : goal.returns-then-is_over
returns-then-is_over c = step-over _ _ _ (sym c.if-is_over.ensures) c.end_step.ensures

pub block_now-requires : goal.block_now-requires
block_now-requires c = let p = c.requires in let w = can-work _ p.0 p.1 (sym c.if-is_over.ensures) in (w.fits.blocks, omega (arith, w.fits.records, w.more))

pub work_at-requires : goal.work_at-requires
work_at-requires c = let p = c.requires in (can-work _ p.0 p.1 (sym c.if-is_over.ensures), sym c.in-Some.ensures, p.2)

pub end_step-requires-in-None : goal.end_step-requires-in-None
end_step-requires-in-None c = let p = c.requires in (fits _ p.0 p.1, (facts _ p.0 p.1).channels, p.2)

pub returns-in-Some : goal.returns-in-Some
returns-in-Some c = step-found _ _ _ (sym c.if-is_over.ensures) c.in-Some.ensures c.work_at.ensures

pub returns-in-None : goal.returns-in-None
returns-in-None c = step-found _ _ _ (sym c.if-is_over.ensures) c.in-None.ensures (at-nowhere _ _ _ _ c.end_step-in-None.ensures)
