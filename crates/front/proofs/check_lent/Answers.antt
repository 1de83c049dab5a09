-- `front::check_lent` meets its contract: the rows of every call come first, and the others in the definition's order.
-- Assumes nothing.
use Rattle.std.proofs.Common.{◌≡◌, Err, sym, ap, ◌∙◌}
use Rattle.std.proofs.lemmas.Result.{err_from_is_err_and}
use mathlib.Core.Bool.{not}
use borrow.Author.Tests.{lt-ltb, le-ltb, not-true, not-false}
use Rattle.basics.specs.Choice.{pick}
use Rattle.model.specs.Refusals.{refusal_in, refused_by}
use Rattle.soundness.proofs.Refusals.{positive}
use Rattle.front.proofs.Lent.{piece-first, piece-past}
use Rattle.front.proofs.check_lent.Goals as goal

pub returns-in_err-check_lent : goal.returns-in_err-check_lent
returns-in_err-check_lent c =
    let p = err_from_is_err_and c.from_residual.result c.from_residual.ensures.1 in
    let d = c.in_err-check_lent.ensures in
    ap refused_by (p.1 ∙ ap Err p.2) ∙ d ∙ sym (piece-first _ _ _ _ (λ e. positive _ (d ∙ e)))

pub returns-then-bytes-lt-OUTPUT_BYTES : goal.returns-then-bytes-lt-OUTPUT_BYTES
unfolding refusal_in pick
returns-then-bytes-lt-OUTPUT_BYTES c =
    rw (piece-past c.args.state.now c.args.words c.args.bytes c.args.within c.in_ok-check_lent.ensures, lt-ltb _ _ c.if-bytes-lt-OUTPUT_BYTES.true)

pub returns-then-not-within : goal.returns-then-not-within
unfolding refusal_in pick
returns-then-not-within c =
    rw (piece-past c.args.state.now c.args.words c.args.bytes c.args.within c.in_ok-check_lent.ensures, le-ltb _ _ c.if-bytes-lt-OUTPUT_BYTES.false, not-true _ (ap not c.if-not-within.true))

pub returns : goal.returns
unfolding refusal_in pick
returns c =
    rw (piece-past c.args.state.now c.args.words c.args.bytes c.args.within c.in_ok-check_lent.ensures, le-ltb _ _ c.if-bytes-lt-OUTPUT_BYTES.false, not-false _ (ap not c.if-not-within.false))
