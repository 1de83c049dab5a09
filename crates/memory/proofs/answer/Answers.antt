-- `memory::answer` meets its contract: ERROR for the form, or for a number that does not rise; else the request, on the state that has its number.
-- Assumes nothing.
use native.Mathlib.Omega.{arith}
use Rattle.model.proofs.Sounds.{sound-numbers}
use Rattle.memory.proofs.Laws.{form-error, number-error, number-risen}
use Rattle.memory.proofs.answer.Goals as goal
use Rattle.memory.proofs.answer.Goals.{else-right_form-via-then-right_form+else-rises, else-right_form-via-else-right_form}

pub dispatch-requires : goal.dispatch-requires
dispatch-requires c =
    let p = c.requires in (
      rw c.set_number.ensures (sound-numbers _ _ _ _ p.2 p.0),
      omega (arith, p.1),
      c.decode-decoded.ensures,
    )

pub returns-then-rises : goal.returns-then-rises
returns-then-rises c =
    rw (← number-risen _ _ _ _ c.number-request.ensures c.decode-decoded.ensures c.if-right_form.ensures c.if-rises.ensures, ← c.set_number.ensures)
    c.dispatch.ensures

pub returns-else-right_form : goal.returns-else-right_form
returns-else-right_form c = elim c.else-right_form.branch [
  | else-right_form-via-then-right_form+else-rises w ↦ rw (← number-error _ _ _ _ c.number-request.ensures c.decode-decoded.ensures w.if-rises.ensures) (c.error.ensures _)
  | else-right_form-via-else-right_form w ↦ rw (← form-error _ _ _ _ c.number-request.ensures c.decode-decoded.ensures w.if-right_form.ensures) (c.error.ensures _)
]
