-- `front::give_whole` meets its contract: where none are kept, the message is the piece's beginning.
-- Assumes nothing.
use native.Mathlib.Omega.{arith}
use mathlib.Core.Path.{refl, sym, ap, ◌∙◌}
use mathlib.Core.List.{List, []}
use Prim.Native.Nat.{ℕ}
use lib.Seq.{length-take-le}
use borrow.Author.Tests.{eq-eqb, ne_eqb}
use Rattle.basics.proofs.Choice.{pick_true, pick-false}
use Rattle.front_model.specs.Front.{Front}
use Rattle.front.proofs.Pieces.{gives-by, kept-length, message-whole}
use Rattle.front.proofs.give_whole.Goals as goal

pub slice_bounds-give-end : goal.slice_bounds-give-end
slice_bounds-give-end c =
    let g = c.requires.0 in
    let f : Front = record { words = c.args.words.now; bytes = c.args.bytes.now } in
    sym (length-take-le _ _ (omega (arith, g.comes.ends, kept-length f c.args.channel g.fronts, c.requires.1)))

pub returns : goal.returns
returns c =
    let a = c.args in
    let g = c.requires.0 in
    let k = c.requires.1 in
    let w = c.give-answer.ensures.1 in
    rw c.given.ensures
    (gives-by _ _ _ _ _ _ _ _ g _ c.give-answer.result _ _ _ _ _ [] (message-whole (record { words = a.words.now; bytes = a.bytes.now }) a.channel a.piece.now a.next.end k) c.give-answer.ensures.0
    (omega (arith, k))
    (λ z. record { words = w ∙ pick_true _ _ _ (eq-eqb _ _ z); bytes = refl; fits = omega (arith, k) })
    (λ n. ap (λ (l : List ℕ). record { words = l; bytes = a.bytes.now }) (w ∙ pick-false _ _ _ (ne_eqb _ _ n))))
